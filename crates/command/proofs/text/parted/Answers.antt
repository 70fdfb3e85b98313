use Rattle.command.specs.FieldsLemmas.{parts_at}
use Rattle.command.proofs.text.parted.Goals as goal

pub returns : goal.returns
returns c = parts_at c.args.line.now c.before_blank.result _ _ c.before_blank.ensures.0 c.split_at.ensures.front c.split_at.ensures.back
