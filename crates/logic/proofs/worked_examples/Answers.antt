use native.Mathlib.Decide.{ℕ_discrete}
use Rattle.std.proofs.Common.{refl}
use mathlib.Core.Bool.{decide}
use Rattle.std.specs.Fmt.{digits}
use Rattle.logic.specs.Integers.{int_discrete}
use Rattle.logic.specs.Rules.{◌>>=◌, when}
use Rattle.logic.specs.Plans.{if_fits}
use Rattle.logic.specs.Shown.{shown_examples}
use Rattle.logic.proofs.worked_examples.Goals as goal

pub returns : goal.returns
unfolding decide ℕ_discrete int_discrete ◌>>=◌ when if_fits digits shown_examples
returns c = refl
