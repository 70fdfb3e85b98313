use Rattle.std.proofs.Common.{refl}
use Rattle.terms.proofs.Outcomes.{did_stay}
use Rattle.rules.proofs.draft.KeptDraft.keep.Goals as goal

pub returns : goal.returns
returns c = did_stay _ _ c.args.self.0 c.requires.operands refl
