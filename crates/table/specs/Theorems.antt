-- What keeping each entry once comes to, for any sameness that is an equivalence.
use Rattle.std.specs.Prelude.{◌≡◌, ℕ, ◌≤◌, Bool, cond, List, [], ◌∷◌, length, take}
use Rattle.table.specs.Sameness.{has, Apart}
use Rattle.table.specs.Keeping.{keep_each, keep_each_in}

module _ {E : Type 0} (same : E → E → Bool) where
  -- a list without what is the same as x
  abbrev pub without : E → List E → List E
  without x [] = []
  without x (y ∷ l) = cond (same x y) (without x l) (y ∷ without x l)

  -- a list with later entries that are the same left out
  abbrev pub first_appearances : List E → List E
  first_appearances [] = []
  first_appearances (x ∷ l) = x ∷ without x (first_appearances l)

-- Keeping each entry of a list, beginning with an empty table, keeps their first appearances, in order.
pub record KeepsFirstAppearances {E : Type 0} (same : E → E → Bool) : Type 0 where
  -- a table with room has just these; one of n places the first n of them
  pub with_room : (n : ℕ) (es : List E) → length (first_appearances same es) ≤ n → keep_each_in same n [] es ≡ first_appearances same es
  pub in_places : (n : ℕ) (es : List E) → keep_each_in same n [] es ≡ take n (first_appearances same es)
  -- no two of them are the same, and each entry of the list is the same as one of them
  pub apart : (es : List E) → Apart same (first_appearances same es)
  pub complete : (es : List E) (e : E) → has same (first_appearances same es) e ≡ has same es e

-- A table that has room for what is to be kept keeps as one without bounds.
abbrev pub RoomSuffices : {E : Type 0} (same : E → E → Bool) → Type 0
RoomSuffices {E} same = (n : ℕ) (l es : List E) → length (keep_each same l es) ≤ n → keep_each_in same n l es ≡ keep_each same l es
