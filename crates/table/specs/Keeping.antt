-- Keeping an entry: nothing changes if one that is the same is there, else it is appended.
use Rattle.std.specs.Prelude.{ℕ, Bool, cond, List, [], ◌∷◌, ◌++◌, length, Ok, Err, Result, nat_lt}
use Rattle.table.specs.declared.Place.{Place}
use Rattle.table.specs.declared.Place.TheVariants.{Found, Added}
use Rattle.table.specs.declared.Full.{Full}
use Rattle.table.specs.Sameness.{has, before}

-- the place that an answer names
abbrev pub index : Place → ℕ
index (Found i) = i
index (Added i) = i

module _ {E : Type 0} (same : E → E → Bool) where
  abbrev pub keep : List E → E → List E
  keep l e = cond (has same l e) l (l ++ e ∷ [])

  abbrev pub keep_each : List E → List E → List E
  keep_each l [] = l
  keep_each l (e ∷ es) = keep_each (keep l e) es

  -- in a table of n places: where e is kept, or the refusal
  abbrev pub answer : ℕ → List E → E → Result Place Full
  answer n l e = cond (has same l e) (Ok (Found (before same l e))) (cond (nat_lt (length l) n) (Ok (Added (length l))) (Err (record {})))

  -- and what is kept after that; a refusal changes nothing
  abbrev pub keep_in : ℕ → List E → E → List E
  keep_in n l e = cond (has same l e) l (cond (nat_lt (length l) n) (l ++ e ∷ []) l)

  abbrev pub keep_each_in : ℕ → List E → List E → List E
  keep_each_in n l [] = l
  keep_each_in n l (e ∷ es) = keep_each_in n (keep_in n l e) es
