use Rattle.rules.proofs.Sameness.{same_by_index}
use Rattle.rules.proofs.conclusions.same.Goals as goal

pub returns : goal.returns
returns c = same_by_index c.args.terms.now c.args.i c.args.j c.requires.left c.requires.right
