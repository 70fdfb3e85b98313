-- The sub-proofs of a proof in the order in which they are counted, and what each concludes.
use Rattle.std.specs.Prelude.{ℕ, suc, List, [], ◌∷◌, ◌++◌, map}
use Rattle.std.proofs.Math.Option.{Option, none, some}
use Rattle.logic.specs.Syntax.{Formula, Proof, hyp, known, assume, eqrefl_thing, eqrefl_number, eqsub, inst, from, from_both}
use Rattle.logic.specs.Rules.{conclude}

-- a sub-proof with the hypotheses that it stands under
pub record Sub : Type 0 where
  pub hypotheses : List Formula
  pub proof : Proof

abbrev pub at : List Formula → Proof → List Sub
at H P = record { hypotheses = H; proof = P } ∷ []

-- operands before heads, left to right, written out; the proof itself is the last
abbrev pub subproofs : List Formula → Proof → List Sub
subproofs H (hyp i) = at H (hyp i)
subproofs H (known k) = at H (known k)
subproofs H (assume φ P) = subproofs (φ ∷ H) P ++ at H (assume φ P)
subproofs H (Proof.absurd P φ) = subproofs H P ++ at H (Proof.absurd P φ)
subproofs H (eqrefl_thing t) = at H (eqrefl_thing t)
subproofs H (eqrefl_number a) = at H (eqrefl_number a)
subproofs H (eqsub P ψ) = subproofs H P ++ at H (eqsub P ψ)
subproofs H (inst t P) = subproofs H P ++ at H (inst t P)
subproofs H (from r P) = subproofs H P ++ at H (from r P)
subproofs H (from_both r P Q) = subproofs H P ++ subproofs H Q ++ at H (from_both r P Q)

module _ (made : ℕ → Option Formula) where
  abbrev pub concluded_by : Sub → Option Formula
  concluded_by s = conclude made s.hypotheses s.proof

  -- what the sub-proofs conclude, one after the other; none where one concludes nothing
  abbrev pub conclusions : List Formula → Proof → List (Option Formula)
  conclusions H P = map concluded_by (subproofs H P)

-- the number, counted on from n, of the first that is none, 0 if each is some
abbrev pub first_none : ℕ → List (Option Formula) → ℕ
first_none n [] = 0
first_none n (none ∷ l) = suc n
first_none n (some φ ∷ l) = first_none (suc n) l

-- the position from 1 of the first sub-proof that concludes nothing, 0 if each concludes something
abbrev pub misfit_at : (ℕ → Option Formula) → Proof → ℕ
misfit_at made P = first_none 0 (conclusions made [] P)
