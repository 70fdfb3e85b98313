use Rattle.logic.specs.Tree.{size}
use Rattle.terms.specs.Outcome.{tree}
use Rattle.terms.proofs.Terms.+size_after.Given as goal

abbrev pub decreases-size_after : goal.decreases-size_after
decreases-size_after l = size (tree l.self.now l.term)
