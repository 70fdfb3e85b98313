use Rattle.logic.proofs.Theorems.{that_refuted_holds_nowhere}
use Rattle.logic.proofs.refuted_holds_nowhere.Goals as goal

pub returns : goal.returns
returns c = that_refuted_holds_nowhere
