use Rattle.model.proofs.Exactness.{that_let_and_initial_are_exact}
use Rattle.model.proofs.let_and_initial_are_exact.Goals as goal

pub returns : goal.returns
returns c = that_let_and_initial_are_exact
