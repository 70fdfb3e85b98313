use Rattle.logic.specs.Tree.{size}
use Rattle.terms.specs.Outcome.{tree}
use Rattle.rules.proofs.walk.+conclude.Given as goal

-- the size written out
abbrev pub decreases-conclude : goal.decreases-conclude
decreases-conclude l = size (tree l.terms.now l.proof)
