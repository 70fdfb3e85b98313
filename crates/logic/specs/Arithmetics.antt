-- The two arithmetics: whole numbers, and counts modulo 65,536.
use Rattle.std.specs.Prelude.{◌+◌, ◌-◌, ◌%◌, ◌^◌, Bool, true, false, ℤ, pos, negsuc, ◌+ℤ◌, neg_ℤ, nat_lt, unsigned_abs}
use Rattle.std.specs.Int.Signed.{le_z}
use Rattle.logic.specs.Integers.{between}
use Rattle.logic.specs.Arithmetic.{Arithmetic}

-- all whole numbers, with the literals from low to high
abbrev pub whole_between : ℤ → ℤ → Arithmetic
whole_between low high = record {
  has = λ n. true;
  sum = ◌+ℤ◌;
  negative = neg_ℤ;
  atmost = le_z;
  admits = between low high;
  carries = true;
}

abbrev pub whole : Arithmetic
whole = whole_between (neg_ℤ (pos (10 ^ 15))) (pos (10 ^ 15))

-- 0 to 65,535, with sum and negative modulo 65,536
abbrev pub is_count : ℤ → Bool
is_count (pos n) = nat_lt n 65536
is_count (negsuc n) = false

abbrev pub counts : Arithmetic
counts = record {
  has = is_count;
  sum = λ m n. pos ((unsigned_abs m + unsigned_abs n) % 65536);
  negative = λ n. pos ((65536 - unsigned_abs n) % 65536);
  atmost = le_z;
  admits = is_count;
  carries = false;
}
