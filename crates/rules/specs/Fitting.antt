-- Whether a plan fits a formula, decided on the formula as it stands: nothing is put for a variable.
use Rattle.std.specs.Prelude.{ℕ, suc, ◌+◌, ◌&&◌}
use Rattle.std.proofs.Math.Option.{Option, none, some}
use Rattle.logic.specs.Syntax.{Formula, OneSided, Plan, falsity, connect, neg, forall, same, id, step, fork, skip, skol, recnn}
use Rattle.logic.specs.Rules.{when, left}
use Rattle.logic.specs.Plans.{Walked, misfit, yields, takes, inner_scope, two_inner}

-- the formula's shape: what its heads are down to its atoms
abbrev pub skeleton : Formula → Formula
skeleton (connect c φ ψ) = connect c (skeleton φ) (skeleton ψ)
skeleton (neg φ) = neg (skeleton φ)
skeleton (forall φ) = forall (skeleton φ)
skeleton φ = falsity

pub data Fit : Type 0 where
  -- the first position that does not fit
  misfits : ℕ → Fit
  -- so many positions, all fitting
  fits : ℕ → Fit

abbrev pub fit_of : Walked → Fit
fit_of (misfit k) = misfits k
fit_of (yields k met ψ) = fits k

-- one position more, before one sub-plan and before two
abbrev pub under_head : Fit → Fit
under_head (misfits k) = misfits (suc k)
under_head (fits k) = fits (suc k)

abbrev pub under_fork : Fit → Fit → Fit
under_fork (misfits k) f = misfits (suc k)
under_fork (fits k) (misfits j) = misfits (suc (k + j))
under_fork (fits k) (fits j) = fits (suc (k + j))

unfoldable pub if_some : {A : Type 0} → Option A → (A → Fit) → Fit
if_some none f = misfits 1
if_some (some x) f = f x

module _ (arity : ℕ → Option ℕ) where
  -- the formula that the sub-plan meets, with nothing put for its variable
  abbrev pub met_by : ℕ → OneSided → Formula → Option Formula
  met_by n skip χ = when (same χ (forall (left χ))) (left χ)
  met_by n (skol s) χ = when (takes (arity s) n && same χ (neg (forall (left (left χ))))) (neg (left (left χ)))
  met_by n recnn χ = when (same χ (neg (neg (left (left χ))))) (left (left χ))

  abbrev pub plan_fit : ℕ → Plan → Formula → Fit
  plan_fit n id χ = fits 1
  plan_fit n (step h p) χ = if_some (met_by n h χ) λ φ. under_head (plan_fit (inner_scope h n) p φ)
  plan_fit n (fork h p q) χ = if_some (two_inner h χ) λ c. under_fork (plan_fit n p c.0) (plan_fit n q c.1)
