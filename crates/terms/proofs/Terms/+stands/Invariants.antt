use Rattle.logic.specs.Tree.{size}
use Rattle.terms.specs.Outcome.{tree}
use Rattle.terms.proofs.Terms.+stands.Given as goal

abbrev pub decreases-stands : goal.decreases-stands
decreases-stands l = size (tree l.self.now l.term)
