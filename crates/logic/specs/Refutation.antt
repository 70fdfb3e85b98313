-- Refutations.
use Rattle.std.specs.Prelude.{◌≡◌, ℕ, true, ◌⊎◌, []}
use Rattle.std.proofs.Math.Option.{Option, some}
use Rattle.logic.specs.Syntax.{Formula, Plan, Proof, falsity}
use Rattle.logic.specs.Arithmetic.{Arithmetic}
use Rattle.logic.specs.Rules.{Concludes}
use Rattle.logic.specs.Facts.{Fact, States, admitted}
use Rattle.logic.specs.Plans.{Turns, Fresh}

-- a plan with fresh Skolem symbols turns the query into the initial formula, from which and from facts a proof concludes falsity
pub record Refutation (A : Arithmetic) (arity : ℕ → Option ℕ) (query : Formula) : Type 0 where
  pub plan : Plan
  pub initial : Formula
  pub turned : Turns arity 0 plan query initial
  pub fresh : Fresh plan query
  pub made : ℕ → Option Formula
  pub drawn : (k : ℕ) (φ : Formula) → made k ≡ some φ → (φ ≡ initial) ⊎ ((f : Fact) × States A f φ × (admitted A φ ≡ true))
  pub proof : Proof
  pub concludes : Concludes made [] proof falsity
