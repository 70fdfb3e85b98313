-- What is there under a test, turned into something else.
use Rattle.std.proofs.Common.{◌≡◌, Bool, true, false, refl}
use mathlib.Core.Option.{map}
use Rattle.logic.specs.Rules.{when}

pub mapped_when : {A B : Type 0} (f : A → B) (b : Bool) (x : A) → map f (when b x) ≡ when b (f x)
unfolding when
mapped_when f true x = refl
mapped_when f false x = refl
