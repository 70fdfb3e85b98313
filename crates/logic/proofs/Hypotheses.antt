-- A proof that concludes something under n hypotheses has none open past them.
use Rattle.std.proofs.Common.{◌≡◌, ℕ, zero, suc, ◌≤◌, max, List, [], ◌∷◌, length, refl, subst, arith}
use mathlib.Core.Option.{Option, some, none-ne-some}
use Rattle.std.proofs.Math.Nat.{max-le}
use lib.ListN.{get_elem?}
use Rattle.logic.specs.Syntax.{Thing, Things, Number, Formula, Proof, equal, at_most}
use Rattle.logic.specs.Tree.{thing_tree, things_tree, number_tree, formula_tree, proof_tree, open_hypotheses}
use Rattle.logic.specs.Rules.{Concludes}
use Rattle.logic.specs.Rules.{by_hyp, by_known, by_assume, by_mp, by_absurd, by_nnpp, by_eqrefl_thing, by_eqrefl_number, by_eqtrans_things, by_eqtrans_numbers}
use Rattle.logic.specs.Rules.{by_eqsymm_things, by_eqsymm_numbers, by_eqsub, by_and1, by_and2, by_orimp, by_negelim, by_addneg, by_intro, by_elimnot, by_inst}
use Rattle.logic.proofs.Trees.{pred_le}

-- ---- what holds of each formula that a number names

abbrev pub Each : (Formula → Type 0) → (ℕ → Option Formula) → Type 0
Each P made = (k : ℕ) (φ : Formula) → made k ≡ some φ → P φ

pub one_more : (P : Formula → Type 0) (φ : Formula) (H : List Formula) → P φ → Each P (get_elem? H) → Each P (get_elem? (φ ∷ H))
one_more P φ H h hs zero χ e = let p : φ ≡ χ = cc in subst P p h
one_more P φ H h hs (suc k) χ e = hs k χ e

-- ---- only proofs have hypotheses

none_of_two : (m n : ℕ) → m ≡ 0 → n ≡ 0 → max m n ≡ 0
none_of_two m n h j = omega arith

mutual
  pub thing_hypotheses : (t : Thing) → open_hypotheses (thing_tree t) ≡ 0
  thing_hypotheses (Thing.var i) = refl
  thing_hypotheses (Thing.apply s l) = things_hypotheses l

  things_hypotheses : (l : Things) → open_hypotheses (things_tree l) ≡ 0
  things_hypotheses Things.nil = refl
  things_hypotheses (Things.cons t l) = none_of_two _ _ (thing_hypotheses t) (things_hypotheses l)

pub number_hypotheses : (a : Number) → open_hypotheses (number_tree a) ≡ 0
number_hypotheses (Number.lit n) = refl
number_hypotheses (Number.add a b) = none_of_two _ _ (number_hypotheses a) (number_hypotheses b)
number_hypotheses (Number.minus a) = number_hypotheses a
number_hypotheses (Number.measure s l) = things_hypotheses l

pub formula_hypotheses : (φ : Formula) → open_hypotheses (formula_tree φ) ≡ 0
formula_hypotheses Formula.falsity = refl
formula_hypotheses (Formula.connect c φ ψ) = none_of_two _ _ (formula_hypotheses φ) (formula_hypotheses ψ)
formula_hypotheses (Formula.neg φ) = formula_hypotheses φ
formula_hypotheses (Formula.eq_things t u) = none_of_two _ _ (thing_hypotheses t) (thing_hypotheses u)
formula_hypotheses (Formula.relate equal a b) = none_of_two _ _ (number_hypotheses a) (number_hypotheses b)
formula_hypotheses (Formula.relate at_most a b) = none_of_two _ _ (number_hypotheses a) (number_hypotheses b)
formula_hypotheses (Formula.atom s l) = things_hypotheses l
formula_hypotheses (Formula.forall φ) = formula_hypotheses φ

-- ---- a concluding proof

none_past : (m n : ℕ) → m ≡ 0 → m ≤ n
none_past m n e = omega arith

found_within : (H : List Formula) (i : ℕ) (φ : Formula) → get_elem? H i ≡ some φ → suc i ≤ length H
found_within [] i φ e = absurd (none-ne-some φ e)
found_within (ψ ∷ H) zero φ e = omega arith
found_within (ψ ∷ H) (suc i) φ e = omega (arith, found_within H i φ e)

pub hypotheses_within : {made : ℕ → Option Formula} {H : List Formula} {P : Proof} {φ : Formula} → Concludes made H P φ → open_hypotheses (proof_tree P) ≤ length H
hypotheses_within (by_hyp {H} {i} {φ} e) = found_within H i φ e
hypotheses_within (by_known e) = none_past _ _ refl
hypotheses_within (by_assume {φ} d) = pred_le _ _ (max-le (none_past _ _ (formula_hypotheses φ)) (hypotheses_within d))
hypotheses_within (by_mp d e) = max-le (hypotheses_within d) (hypotheses_within e)
hypotheses_within (by_absurd {φ} d) = max-le (hypotheses_within d) (none_past _ _ (formula_hypotheses φ))
hypotheses_within (by_nnpp d) = hypotheses_within d
hypotheses_within (by_eqrefl_thing {t}) = none_past _ _ (thing_hypotheses t)
hypotheses_within (by_eqrefl_number {a}) = none_past _ _ (number_hypotheses a)
hypotheses_within (by_eqtrans_things d e) = max-le (hypotheses_within d) (hypotheses_within e)
hypotheses_within (by_eqtrans_numbers d e) = max-le (hypotheses_within d) (hypotheses_within e)
hypotheses_within (by_eqsymm_things d) = hypotheses_within d
hypotheses_within (by_eqsymm_numbers d) = hypotheses_within d
hypotheses_within (by_eqsub {ψ} d) = max-le (hypotheses_within d) (none_past _ _ (formula_hypotheses ψ))
hypotheses_within (by_and1 d) = hypotheses_within d
hypotheses_within (by_and2 d) = hypotheses_within d
hypotheses_within (by_orimp d) = hypotheses_within d
hypotheses_within (by_negelim d e) = max-le (hypotheses_within d) (hypotheses_within e)
hypotheses_within (by_addneg d) = hypotheses_within d
hypotheses_within (by_intro d) = hypotheses_within d
hypotheses_within (by_elimnot d) = hypotheses_within d
hypotheses_within (by_inst {t} d) = max-le (none_past _ _ (thing_hypotheses t)) (hypotheses_within d)
