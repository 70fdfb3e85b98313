use Rattle.logic.proofs.Theorems.{that_plans_hold_after_rereading}
use Rattle.logic.proofs.plans_hold_after_rereading.Goals as goal

pub returns : goal.returns
returns c = that_plans_hold_after_rereading
