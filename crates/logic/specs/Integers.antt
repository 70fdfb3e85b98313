-- Whole numbers: sameness decided by a test that computes, and ranges.
use Rattle.std.proofs.Math.Decide.{ℕ_discrete}
use Rattle.std.specs.Prelude.{◌≡◌, Bool, ◌&&◌, ℤ, pos, negsuc, int_le}
use Rattle.std.proofs.Common.{sym, ap}
use Rattle.std.proofs.Math.IntN.{pos-ne-negsuc}
use Rattle.std.specs.Int.Signed.{mag}

unfoldable pub int_discrete : (m n : ℤ) → Dec (m ≡ n)
int_discrete (pos m) (pos n) = elim (ℕ_discrete m n) [ yes e ↦ yes (ap pos e) | no ne ↦ no (λ e. ne (ap mag e)) ]
int_discrete (pos m) (negsuc n) = no (pos-ne-negsuc m n)
int_discrete (negsuc m) (pos n) = no (λ e. pos-ne-negsuc n m (sym e))
int_discrete (negsuc m) (negsuc n) = elim (ℕ_discrete m n) [ yes e ↦ yes (ap negsuc e) | no ne ↦ no (λ e. ne (ap mag e)) ]

-- low ≤ n ≤ high
abbrev pub between : ℤ → ℤ → ℤ → Bool
between low high n = int_le low n && int_le n high
