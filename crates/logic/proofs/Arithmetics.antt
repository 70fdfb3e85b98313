-- The arithmetics are lawful.
use Rattle.std.proofs.Common.{◌≡◌, ℕ, ◌+◌, ◌-◌, ◌%◌, ◌^◌, ◌<◌, true, ltb, ℤ, pos, negsuc, ◌+ℤ◌, neg_ℤ, nat_abs, refl, ap, arith}
use mathlib.Core.Bool.{false≢true}
use lib.IntN.{+ℤ_comm, +ℤ_assoc, +ℤ_idr, +ℤ_invr}
use lib.Signed.{le_z}
use Rattle.std.proofs.lemmas.Bool.{ltb-true, lt-ltb, le-leb, and_parts, and_from}
use Rattle.std.proofs.lemmas.Int.{ints}
use Rattle.logic.specs.Integers.{between}
use Rattle.logic.specs.Arithmetic.{Lawful, fits_64}
use Rattle.logic.specs.Arithmetics.{whole_between, whole, is_count, counts}

leZ_refl : (n : ℤ) → le_z n n ≡ true
leZ_refl n = grind (arith, ints)

leZ_trans : (m n k : ℤ) → le_z m n ≡ true → le_z n k ≡ true → le_z m k ≡ true
leZ_trans m n k h j = grind (arith, ints)

leZ_add : (m n j k : ℤ) → le_z m n ≡ true → le_z j k ≡ true → le_z (m +ℤ j) (n +ℤ k) ≡ true
leZ_add m n j k h i = grind (arith, ints)

within_fits : (low high n : ℤ) → fits_64 low ≡ true → fits_64 high ≡ true → between low high n ≡ true → fits_64 n ≡ true
within_fits low high n l h within =
    let p = and_parts (le_z low n) (le_z n high) within in
    let lo = and_parts (le_z (neg_ℤ (pos (2 ^ 63))) low) (le_z low (pos (2 ^ 63 - 1))) l in
    let hi = and_parts (le_z (neg_ℤ (pos (2 ^ 63))) high) (le_z high (pos (2 ^ 63 - 1))) h in
    and_from _ _ (leZ_trans (neg_ℤ (pos (2 ^ 63))) low n lo.0 p.0) (leZ_trans n high (pos (2 ^ 63 - 1)) p.1 hi.1)

count_fits : (n : ℤ) → is_count n ≡ true → fits_64 n ≡ true
count_fits (pos n) h = let b : n < 65536 = ltb-true _ _ h in le-leb _ _ (omega arith)
count_fits (negsuc n) h = absurd (false≢true h)

pub whole_between_lawful : (low high : ℤ) → fits_64 low ≡ true → fits_64 high ≡ true → between low high (pos 0) ≡ true → Lawful (whole_between low high)
whole_between_lawful low high l h zero_in = record {
  has_zero = refl;
  has_sum = λ m n _ _. refl;
  has_negative = λ n _. refl;
  commutative = λ m n _ _. +ℤ_comm m n;
  associative = λ m n k _ _ _. +ℤ_assoc m n k;
  neutral = λ n _. +ℤ_idr n;
  cancels = λ n _. +ℤ_invr n;
  reflexive = λ n _. leZ_refl n;
  transitive = λ m n k _ _ _. leZ_trans m n k;
  admits_zero = zero_in;
  admits_its_own = λ n _. refl;
  admits_64_bits = λ n. within_fits low high n l h;
  carried = λ _ m n j k _ _ _ _. leZ_add m n j k;
}

pub whole_lawful : Lawful whole
whole_lawful = whole_between_lawful (neg_ℤ (pos (10 ^ 15))) (pos (10 ^ 15)) refl refl refl

count_sum : (m : ℕ) → ltb (m % 65536) 65536 ≡ true
count_sum m = lt-ltb _ _ (omega arith)

pub counts_lawful : Lawful counts
counts_lawful = record {
  has_zero = refl;
  has_sum = λ m n _ _. count_sum _;
  has_negative = λ n _. count_sum _;
  commutative = λ m n _ _. ap pos (omega arith);
  associative = λ m n k _ _ _. ap pos (omega arith);
  neutral = neutral;
  cancels = cancels;
  reflexive = λ n _. leZ_refl n;
  transitive = λ m n k _ _ _. leZ_trans m n k;
  admits_zero = refl;
  admits_its_own = λ n h. h;
  admits_64_bits = count_fits;
  carried = λ c. absurd (false≢true c);
}
  where
    neutral : (n : ℤ) → is_count n ≡ true → pos ((nat_abs n + 0) % 65536) ≡ n
    neutral (pos n) h = let b : n < 65536 = ltb-true _ _ h in ap pos (omega arith)
    neutral (negsuc n) h = absurd (false≢true h)

    cancels : (n : ℤ) → is_count n ≡ true → pos ((nat_abs n + ((65536 - nat_abs n) % 65536)) % 65536) ≡ pos 0
    cancels (pos n) h = let b : n < 65536 = ltb-true _ _ h in ap pos (omega arith)
    cancels (negsuc n) h = absurd (false≢true h)
