-- Closed formulas, facts and proofs.
use Rattle.std.specs.Prelude.{ℕ, Bool, true, ◌&&◌, nat_le}
use Rattle.logic.specs.Syntax.{Proof, hyp, known, assume, eqrefl_thing, eqrefl_number, eqsub, inst, from, from_both}
use Rattle.logic.specs.Tree.{Tree, thing_tree, number_tree, formula_tree, open_indices}

-- each open index is less than n
abbrev pub below : ℕ → Tree → Bool
below n t = nat_le (open_indices t) n

abbrev pub closed : Tree → Bool
closed t = below 0 t

-- what stands in the proof is closed, but for index 0 of the formula in which `eqsub` replaces
abbrev pub closed_proof : Proof → Bool
closed_proof (hyp i) = true
closed_proof (known k) = true
closed_proof (assume φ P) = closed (formula_tree φ) && closed_proof P
closed_proof (Proof.absurd P φ) = closed_proof P && closed (formula_tree φ)
closed_proof (eqrefl_thing t) = closed (thing_tree t)
closed_proof (eqrefl_number a) = closed (number_tree a)
closed_proof (eqsub P ψ) = closed_proof P && below 1 (formula_tree ψ)
closed_proof (inst t P) = closed (thing_tree t) && closed_proof P
closed_proof (from r P) = closed_proof P
closed_proof (from_both r P Q) = closed_proof P && closed_proof Q
