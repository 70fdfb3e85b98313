-- What an arithmetic does with literals.
use Rattle.std.specs.Prelude.{cond, ◌&&◌, ℤ, Some, None, Option}
use Rattle.logic.specs.Arithmetic.{Arithmetic}

-- the sum of two literals: refused exactly where it is not admitted; what is no literal has no sum
abbrev pub literal_sum : Arithmetic → ℤ → ℤ → Option ℤ
literal_sum A m n = cond (A.admits m && A.admits n && A.admits (A.sum m n)) (Some (A.sum m n)) None
