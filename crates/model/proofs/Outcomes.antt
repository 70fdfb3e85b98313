-- What an outcome shows of the tests before it.
use Rattle.std.proofs.Common.{◌≡◌, ℕ, Bool, true, false, ◌⊎◌, sym, refl, ap, ◌∙◌, subst, inl, inr}
use mathlib.Core.Option.{Option, none, some}
use Rattle.model.specs.Refusal.{Refusal, unknown, number, Outcome, done, refused, ◌>>=◌, require_at, need}

abbrev is_done : {X : Type 0} → Outcome X → Type 0
is_done (done x) = Unit {0}
is_done (refused r at) = ⊥

pub refused≢done : {X : Type 0} (r : Refusal) (at : ℕ) (x : X) → refused r at ≡ done x → ⊥
refused≢done r at x e = subst is_done (sym e) tt

abbrev value_or : {X : Type 0} → X → Outcome X → X
value_or d (done x) = x
value_or d (refused r at) = d

pub done_inj : {X : Type 0} (x y : X) → done x ≡ done y → x ≡ y
done_inj x y e = ap (value_or x) e

abbrev refusal_or : {X : Type 0} → Outcome X → Refusal
refusal_or (done x) = unknown
refusal_or (refused r at) = r

abbrev position_or : {X : Type 0} → Outcome X → ℕ
position_or (done x) = 0
position_or (refused r at) = at

pub refused_inj : {X : Type 0} (r r' : Refusal) (at at' : ℕ) → ◌≡◌ {A = Outcome X} (refused r at) (refused r' at') → (r ≡ r') × (at ≡ at')
refused_inj r r' at at' e = (ap refusal_or e, ap position_or e)

-- ---- accepted: every test passed

pub passed : {X Y : Type 0} (m : Outcome X) (f : X → Outcome Y) (y : Y) → (m >>= f) ≡ done y → (x : X) × (m ≡ done x) × (f x ≡ done y)
passed (done x) f y h = (x, refl, h)
passed (refused r at) f y h = absurd (refused≢done r at y h)

pub needed : {X : Type 0} (r : Refusal) (o : Option X) (x : X) → need r o ≡ done x → o ≡ some x
needed r none x h = absurd (refused≢done r 0 x h)
needed r (some y) x h = ap some (done_inj y x h)

pub required : (r : Refusal) (at : ℕ) (b : Bool) (x : Unit {0}) → require_at at r b ≡ done x → b ≡ true
required r at true x h = refl
required r at false x h = absurd (refused≢done r at x h)

-- ---- refused: a test refused so, or it passed and a later one did

abbrev refused_as : {X Y : Type 0} → Outcome Y → Outcome X → Outcome Y
refused_as o (done x) = o
refused_as o (refused r at) = refused r at

pub stopped_or_passed : {X Y : Type 0} (m : Outcome X) (f : X → Outcome Y) (r : Refusal) (at : ℕ) → (m >>= f) ≡ refused r at
    → (m ≡ refused r at) ⊎ ((x : X) × (m ≡ done x) × (f x ≡ refused r at))
stopped_or_passed (done x) f r at h = inr (x, refl, h)
stopped_or_passed {X} {Y} (refused n p) f r at h = inl (ap (refused_as {Y = X} (refused n p)) h)

-- a test that does not refuse so was passed
pub past : {X Y : Type 0} (m : Outcome X) (f : X → Outcome Y) (r : Refusal) (at : ℕ) → (m ≡ refused r at → ⊥) → (m >>= f) ≡ refused r at → (x : X) × (m ≡ done x) × (f x ≡ refused r at)
past m f r at not_so h = elim (stopped_or_passed m f r at h) [ inl e ↦ absurd (not_so e) | inr p ↦ p ]

pub need_refused : {X : Type 0} (n r : Refusal) (at : ℕ) (o : Option X) → need n o ≡ refused r at → (o ≡ none) × (n ≡ r) × (0 ≡ at)
need_refused n r at none e = let i = refused_inj n r 0 at e in (refl, i.0, i.1)
need_refused n r at (some x) e = absurd (refused≢done r at x (sym e))

pub require_refused : (n r : Refusal) (p at : ℕ) (b : Bool) → require_at p n b ≡ refused r at → (b ≡ false) × (n ≡ r) × (p ≡ at)
require_refused n r p at true e = absurd (refused≢done r at tt (sym e))
require_refused n r p at false e = let i = refused_inj n r p at e in (refl, i.0, i.1)

-- what refuses with another number was passed
pub past_need : {X Y : Type 0} (n r : Refusal) (at : ℕ) (o : Option X) (f : X → Outcome Y) → (number n ≡ number r → ⊥) → (need n o >>= f) ≡ refused r at
    → (x : X) × (need n o ≡ done x) × (f x ≡ refused r at)
past_need n r at o f differs = past (need n o) f r at (λ e. differs (ap number (need_refused n r at o e).1))

pub past_test : {Y : Type 0} (n r : Refusal) (p at : ℕ) (b : Bool) (f : Unit {0} → Outcome Y) → (number n ≡ number r → ⊥) → (require_at p n b >>= f) ≡ refused r at
    → (x : Unit {0}) × (require_at p n b ≡ done x) × (f x ≡ refused r at)
past_test n r p at b f differs = past (require_at p n b) f r at (λ e. differs (ap number (require_refused n r p at b e).1))

-- ---- tests that pass

pub need_some : {X : Type 0} (r : Refusal) (o : Option X) (x : X) → o ≡ some x → need r o ≡ done x
need_some r o x e = ap (need r) e

pub passes : (r : Refusal) (at : ℕ) (b : Bool) → b ≡ true → require_at at r b ≡ done tt
passes r at b e = ap (require_at at r) e

pub then : {X Y : Type 0} (m : Outcome X) (f : X → Outcome Y) (x : X) (y : Outcome Y) → m ≡ done x → f x ≡ y → (m >>= f) ≡ y
then m f x y e h = ap (λ o. o >>= f) e ∙ h
