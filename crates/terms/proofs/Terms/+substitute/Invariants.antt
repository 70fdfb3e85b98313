use Rattle.logic.specs.Tree.{size}
use Rattle.terms.specs.Outcome.{tree}
use Rattle.terms.proofs.Terms.+substitute.Given as goal

-- the size written out
abbrev pub decreases-substitute : goal.decreases-substitute
decreases-substitute l = size (tree l.self.now l.term)
