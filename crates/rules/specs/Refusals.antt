-- The reasons of the code, as the refusals of a session.
use Rattle.model.specs.Refusal.{Refusal, oversized, crowded, unfounded, unfit, stale, unadmitted, uncarried}
use Rattle.rules.specs.declared.refusal.Reason.{Reason}

abbrev pub refusal : Reason → Refusal
refusal Reason.Oversized = oversized
refusal Reason.Crowded = crowded
refusal Reason.Unfounded = unfounded
refusal Reason.Unfit = unfit
refusal Reason.Stale = stale
refusal Reason.Unadmitted = unadmitted
refusal Reason.Uncarried = uncarried
