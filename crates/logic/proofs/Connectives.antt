-- Laws of the connectives on truth values, of sameness of whole numbers, and of a test at each number up to n.
use Rattle.std.proofs.Common.{◌≡◌, ℕ, zero, suc, ◌≤◌, Bool, true, false, not, ◌||◌, ℤ, refl, arith}
use native.Mathlib.Decide.{ℕ_discrete}
use mathlib.Core.Bool.{decide, decide_iff, false≢true}
use Rattle.std.proofs.lemmas.Bool.{and_parts}
use Rattle.logic.specs.Integers.{int_discrete}
use Rattle.logic.specs.World.{every}

pub implies_from : (x y : Bool) → (x ≡ true → y ≡ true) → (not x || y) ≡ true
implies_from true y h = h refl
implies_from false y h = refl

pub implies_at : (x y : Bool) → (not x || y) ≡ true → x ≡ true → y ≡ true
implies_at true y h e = h
implies_at false y h e = absurd (false≢true e)

pub not_both : (x : Bool) → not x ≡ true → x ≡ true → false ≡ true
not_both true h e = h
not_both false h e = e

pub not_not : (x : Bool) → x ≡ true → not (not x) ≡ true
not_not true h = h
not_not false h = h

pub from_not_not : (x : Bool) → not (not x) ≡ true → x ≡ true
from_not_not true h = h
from_not_not false h = h

pub nn_implies : (x : Bool) → (not (not x || false) || false) ≡ true → x ≡ true
nn_implies true h = refl
nn_implies false h = h

pub or_implies : (x y : Bool) → (x || y) ≡ true → (not (not x) || y) ≡ true
or_implies true y h = refl
or_implies false y h = h

pub implies_false : (x : Bool) → (not x || false) ≡ true → not x ≡ true
implies_false true h = h
implies_false false h = refl

pub not_implies_false : (x : Bool) → (not (not x) || false) ≡ true → x ≡ true
not_implies_false true h = refl
not_implies_false false h = h

-- ---- sameness of whole numbers

pub are_same : {m n : ℤ} → decide (int_discrete m n) ≡ true → m ≡ n
are_same {m} {n} = (decide_iff (int_discrete m n)).0

pub from_same : {m n : ℤ} → m ≡ n → decide (int_discrete m n) ≡ true
from_same {m} {n} = (decide_iff (int_discrete m n)).1

-- ---- a test at each number up to n

pub every_at : (n : ℕ) (test : ℕ → Bool) → every n test ≡ true → (x : ℕ) → x ≤ n → test x ≡ true
every_at zero test h x le = let e : x ≡ zero = omega arith in rw e h
every_at (suc n) test h x le =
    elim (ℕ_discrete x (suc n)) [
      | yes e ↦ rw e (and_parts _ _ h).0
      | no ne ↦ every_at n test (and_parts (test (suc n)) (every n test) h).1 x (omega (arith, ne))
    ]
