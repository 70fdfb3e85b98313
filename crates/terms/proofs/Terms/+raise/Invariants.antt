use Rattle.logic.specs.Tree.{size}
use Rattle.terms.specs.Outcome.{tree}
use Rattle.terms.proofs.Terms.+raise.Given as goal

abbrev pub decreases-raise : goal.decreases-raise
decreases-raise l = size (tree l.self.now l.thing)
