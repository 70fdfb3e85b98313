-- Entries of a list by a test of sameness.
use Rattle.std.specs.Prelude.{◌≡◌, ℕ, suc, Bool, true, false, cond, ◌||◌, List, [], ◌∷◌, Some, None, Option}
use Rattle.std.specs.List.{slice_get}

module _ {E : Type 0} (same : E → E → Bool) where
  -- some entry is the same as e
  abbrev pub has : List E → E → Bool
  has [] e = false
  has (x ∷ l) e = same x e || has l e

  -- how many entries stand before the first that is the same as e
  abbrev pub before : List E → E → ℕ
  before [] e = 0
  before (x ∷ l) e = cond (same x e) 0 (suc (before l e))

  -- the place of the first entry that is the same as e
  abbrev pub first : List E → E → Option ℕ
  first l e = cond (has l e) (Some (before l e)) None

  -- no entry is the same as a later one
  abbrev pub Apart : List E → Type 0
  Apart [] = Unit {0}
  Apart (x ∷ l) = (has l x ≡ false) × Apart l

  -- an entry that is the same as e stands at place i
  abbrev pub Stands : List E → E → ℕ → Type 0
  Stands l e i = (x : E) × (slice_get l i ≡ Some x) × (same x e ≡ true)

  -- The first entry that is the same as e is one that is; where entries are apart it is the only one,
  -- and each entry is found at its own place.
  pub record FirstIsTheOne : Type 0 where
    pub stands : (l : List E) (e : E) (i : ℕ) → first l e ≡ Some i → Stands l e i
    pub only : (l : List E) → Apart l → (e : E) (i : ℕ) → Stands l e i → first l e ≡ Some i
    pub at_most_one : (l : List E) → Apart l → (e : E) (i j : ℕ) → Stands l e i → Stands l e j → i ≡ j
    pub own_place : (l : List E) → Apart l → (e : E) (i : ℕ) → slice_get l i ≡ Some e → first l e ≡ Some i
