use Rattle.terms.proofs.Making.{empty_trees}
use Rattle.terms.proofs.Terms.over.Goals as goal

pub returns-clause-none : goal.returns-clause-none
returns-clause-none c = empty_trees _ c.over.ensures.kept
