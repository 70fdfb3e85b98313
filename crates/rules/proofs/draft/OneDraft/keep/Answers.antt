use Rattle.std.proofs.Common.{refl}
use Rattle.terms.proofs.Outcomes.{one_did, one_broke}
use Rattle.rules.proofs.draft.OneDraft.keep.Goals as goal

pub returns-in_err-operand : goal.returns-in_err-operand
returns-in_err-operand g c = one_broke _ _ _ refl _ _ _ _ c.in_err-operand.ensures c.from_residual.ensures.0

pub returns : goal.returns
returns g c = one_did _ _ _ refl _ _ _ _ _ c.in_ok-operand.ensures c.unary.ensures
