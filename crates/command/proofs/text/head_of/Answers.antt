use Rattle.command.specs.FieldsLemmas.{begins_none}
use Rattle.command.proofs.text.head_of.Goals as goal

pub returns-in_err-head : goal.returns-in_err-head
returns-in_err-head c = rw c.from_residual.ensures (begins_none c.args.line.now c.parted.result.0.now c.parted.result.1.now c.parted.ensures c.in_err-head.ensures.value)
