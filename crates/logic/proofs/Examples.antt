-- The worked examples, computed.
use native.Mathlib.Decide.{ℕ_discrete}
use Rattle.std.proofs.Common.{refl}
use mathlib.Core.Bool.{decide}
use Rattle.logic.specs.Integers.{int_discrete}
use Rattle.logic.specs.Rules.{◌>>=◌, when}
use Rattle.logic.specs.Plans.{if_fits}
use Rattle.logic.specs.Examples.{ExamplesComeOut}

pub that_examples_come_out : ExamplesComeOut
unfolding decide ℕ_discrete int_discrete ◌>>=◌ when if_fits
that_examples_come_out = refl
