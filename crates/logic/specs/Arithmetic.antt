-- How numbers are added, negated and compared, and which of them may be written as literals.
use Rattle.std.specs.Prelude.{◌≡◌, ◌-◌, ◌^◌, Bool, true, ℤ, pos, neg_ℤ}
use Rattle.logic.specs.Integers.{between}

pub record Arithmetic : Type 0 where
  -- which whole numbers are its numbers
  pub has : ℤ → Bool
  pub sum : ℤ → ℤ → ℤ
  pub negative : ℤ → ℤ
  pub atmost : ℤ → ℤ → Bool
  -- which literals may be written
  pub admits : ℤ → Bool
  -- whether sums are carried: bounds may be added
  pub carries : Bool

-- n fits 64 bits with a sign
abbrev pub fits_64 : ℤ → Bool
fits_64 n = between (neg_ℤ (pos (2 ^ 63))) (pos (2 ^ 63 - 1)) n

pub record Lawful (A : Arithmetic) : Type 0 where
  pub has_zero : A.has (pos 0) ≡ true
  pub has_sum : (m n : ℤ) → A.has m ≡ true → A.has n ≡ true → A.has (A.sum m n) ≡ true
  pub has_negative : (n : ℤ) → A.has n ≡ true → A.has (A.negative n) ≡ true
  pub commutative : (m n : ℤ) → A.has m ≡ true → A.has n ≡ true → A.sum m n ≡ A.sum n m
  pub associative : (m n k : ℤ) → A.has m ≡ true → A.has n ≡ true → A.has k ≡ true → A.sum (A.sum m n) k ≡ A.sum m (A.sum n k)
  pub neutral : (n : ℤ) → A.has n ≡ true → A.sum n (pos 0) ≡ n
  pub cancels : (n : ℤ) → A.has n ≡ true → A.sum n (A.negative n) ≡ pos 0
  pub reflexive : (n : ℤ) → A.has n ≡ true → A.atmost n n ≡ true
  pub transitive : (m n k : ℤ) → A.has m ≡ true → A.has n ≡ true → A.has k ≡ true → A.atmost m n ≡ true → A.atmost n k ≡ true → A.atmost m k ≡ true
  pub admits_zero : A.admits (pos 0) ≡ true
  pub admits_its_own : (n : ℤ) → A.admits n ≡ true → A.has n ≡ true
  pub admits_64_bits : (n : ℤ) → A.admits n ≡ true → fits_64 n ≡ true
  pub carried : A.carries ≡ true → (m n j k : ℤ) → A.has m ≡ true → A.has n ≡ true → A.has j ≡ true → A.has k ≡ true
      → A.atmost m n ≡ true → A.atmost j k ≡ true → A.atmost (A.sum m j) (A.sum n k) ≡ true
