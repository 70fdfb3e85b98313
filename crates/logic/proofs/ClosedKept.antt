-- Substitution, proofs and plans keep formulas closed; a closed formula's truth does not depend on the environment.
use Rattle.std.proofs.Common.{◌≡◌, ℕ, zero, suc, ◌<◌, ◌≤◌, max, true, List, ◌∷◌, get_or, sym, refl, ap, subst, not-suc-le-zero, arith}
use mathlib.Core.Option.{Option}
use lib.ListN.{get_elem?}
use Rattle.std.proofs.Math.Nat.{max-le}
use Rattle.std.proofs.lemmas.Bool.{leb-true, and_parts}
use Rattle.logic.specs.Syntax.{Thing, Things, Number, Formula, Plan, Proof, var, apply, nil, cons, lit, add, minus, measure, falsity, connect, neg, eq_things, relate, atom, forall}
use Rattle.logic.specs.Substitution.{put}
use Rattle.logic.specs.Tree.{thing_tree, things_tree, number_tree, formula_tree, open_indices}
use Rattle.logic.specs.Arithmetic.{Arithmetic}
use Rattle.logic.specs.World.{World, value, values, amount, truth}
use Rattle.logic.specs.Rules.{Concludes}
use Rattle.logic.specs.Rules.{by_hyp, by_known, by_assume, by_mp, by_absurd, by_nnpp, by_eqrefl_thing, by_eqrefl_number, by_eqtrans_things, by_eqtrans_numbers}
use Rattle.logic.specs.Rules.{by_eqsymm_things, by_eqsymm_numbers, by_eqsub, by_and1, by_and2, by_orimp, by_negelim, by_addneg, by_intro, by_elimnot, by_inst}
use Rattle.logic.specs.Plans.{Turns, scope}
use Rattle.logic.specs.Plans.{by_id, by_skip, by_skol, by_recand, by_recor, by_recnor, by_recnand, by_recnn}
use Rattle.logic.specs.Closed.{below, closed, closed_proof}
use Rattle.logic.proofs.Hypotheses.{Each, one_more}
use Rattle.logic.proofs.Values.{every_same}
use Rattle.logic.proofs.Trees.{put_formula_tree, put_tree_open, raise_things_tree, raise_open, pred_le, le_pred, max_parts}

-- the open indices of a thing and of a formula
abbrev open_thing : Thing → ℕ
open_thing t = open_indices (thing_tree t)

abbrev pub open_number : Number → ℕ
open_number a = open_indices (number_tree a)

abbrev open_formula : Formula → ℕ
open_formula φ = open_indices (formula_tree φ)

scope_open : (n : ℕ) → open_indices (things_tree (scope n)) ≤ n
scope_open zero = omega arith
scope_open (suc n) =
    let h = raise_open 1 (things_tree (scope n)) in
    let ih = scope_open n in
    max-le (omega arith) (subst (λ x. open_indices x ≤ suc n) (sym (raise_things_tree (scope n))) (omega arith))

pub put_open : (k n : ℕ) (t : Thing) (φ : Formula) → k ≤ n → open_thing t ≤ n → open_formula φ ≤ suc n → open_formula (put k t φ) ≤ n
put_open k n t φ le ht h = subst (λ x. open_indices x ≤ n) (sym (put_formula_tree k t φ)) (put_tree_open k n (thing_tree t) (formula_tree φ) le ht h)

-- both of two
two : {a b c d n : ℕ} → (a ≤ n → c ≤ n) → (b ≤ n → d ≤ n) → max a b ≤ n → max c d ≤ n
two {a} {b} {c} {d} {n} f g h = let p = max_parts a b n h in max-le (f p.0) (g p.1)

pub turned_open : {arity : ℕ → Option ℕ} {n : ℕ} {p : Plan} {φ ψ : Formula} → Turns arity n p φ ψ → open_formula φ ≤ n → open_formula ψ ≤ n
turned_open by_id h = h
turned_open (by_skip d) h = pred_le _ _ (turned_open d (le_pred _ _ h))
turned_open (by_skol {n} {s} {φ} e d) h = turned_open d (put_open 0 n (apply s (scope n)) φ (omega arith) (scope_open n) (le_pred _ _ h))
turned_open (by_recand d e) h = two (turned_open d) (turned_open e) h
turned_open (by_recor d e) h = two (turned_open d) (turned_open e) h
turned_open (by_recnor d e) h = two (turned_open d) (turned_open e) h
turned_open (by_recnand d e) h = two (turned_open d) (turned_open e) h
turned_open (by_recnn d) h = turned_open d h

-- ---- proofs

abbrev AllClosed : (ℕ → Option Formula) → Type 0
AllClosed = Each (λ φ. open_formula φ ≤ 0)

module _ (made : ℕ → Option Formula) (known_closed : AllClosed made) where
  pub concluded_open : {H : List Formula} {P : Proof} {φ : Formula} → AllClosed (get_elem? H) → Concludes made H P φ → closed_proof P ≡ true → open_formula φ ≤ 0
  concluded_open hs (by_hyp e) c = hs _ _ e
  concluded_open hs (by_known e) c = known_closed _ _ e
  concluded_open {H} hs (by_assume {P} {φ} d) c =
      let p = and_parts (closed (formula_tree φ)) (closed_proof P) c in
      max-le (leb-true _ _ p.0) (concluded_open (one_more _ φ H (leb-true _ _ p.0) hs) d p.1)
  concluded_open hs (by_mp {P} {Q} {φ} {ψ} d e) c = let p = and_parts (closed_proof P) (closed_proof Q) c in (max_parts (open_formula φ) (open_formula ψ) 0 (concluded_open hs d p.0)).1
  concluded_open hs (by_absurd {P} {φ} d) c = leb-true _ _ (and_parts (closed_proof P) (closed (formula_tree φ)) c).1
  concluded_open hs (by_nnpp {φ} d) c = (max_parts (open_formula φ) 0 0 (max_parts (max (open_formula φ) 0) 0 0 (concluded_open hs d c)).0).0
  concluded_open hs (by_eqrefl_thing {t}) c = max-le (leb-true _ _ c) (leb-true _ _ c)
  concluded_open hs (by_eqrefl_number {a}) c = max-le (leb-true _ _ c) (leb-true _ _ c)
  concluded_open hs (by_eqtrans_things {P} {Q} {t} {u} {v} d e) c =
      let p = and_parts (closed_proof P) (closed_proof Q) c in
      max-le (max_parts (open_thing t) (open_thing u) 0 (concluded_open hs d p.0)).0 (max_parts (open_thing u) (open_thing v) 0 (concluded_open hs e p.1)).1
  concluded_open hs (by_eqtrans_numbers {P} {Q} {a = x} {b = y} {c = z} d e) c =
      let p = and_parts (closed_proof P) (closed_proof Q) c in
      max-le (max_parts (open_number x) (open_number y) 0 (concluded_open hs d p.0)).0 (max_parts (open_number y) (open_number z) 0 (concluded_open hs e p.1)).1
  concluded_open hs (by_eqsymm_things {t} {u} d) c = let p = max_parts (open_thing t) (open_thing u) 0 (concluded_open hs d c) in max-le p.1 p.0
  concluded_open hs (by_eqsymm_numbers {a} {b} d) c = let p = max_parts (open_number a) (open_number b) 0 (concluded_open hs d c) in max-le p.1 p.0
  concluded_open hs (by_eqsub {P} {t} {u} {ψ} d) c =
      let p = and_parts (closed_proof P) (below 1 (formula_tree ψ)) c in
      let q = max_parts (open_thing t) (open_thing u) 0 (concluded_open hs d p.0) in
      max-le (put_open 0 0 t ψ (omega arith) q.0 (leb-true _ _ p.1)) (put_open 0 0 u ψ (omega arith) q.1 (leb-true _ _ p.1))
  concluded_open hs (by_and1 {φ} {ψ} d) c = (max_parts (open_formula φ) (open_formula ψ) 0 (concluded_open hs d c)).0
  concluded_open hs (by_and2 {φ} {ψ} d) c = (max_parts (open_formula φ) (open_formula ψ) 0 (concluded_open hs d c)).1
  concluded_open hs (by_orimp d) c = concluded_open hs d c
  concluded_open hs (by_negelim d e) c = omega arith
  concluded_open hs (by_addneg d) c = concluded_open hs d c
  concluded_open hs (by_intro {φ} d) c = (max_parts (open_formula φ) 0 0 (concluded_open hs d c)).0
  concluded_open hs (by_elimnot {φ} d) c = (max_parts (open_formula φ) 0 0 (concluded_open hs d c)).0
  concluded_open hs (by_inst {P} {t} {φ} d) c =
      let p = and_parts (closed (thing_tree t)) (closed_proof P) c in
      put_open 0 0 t φ (omega arith) (leb-true _ _ p.0) (le_pred _ _ (concluded_open hs d p.1))

-- ---- the environment past the open indices does not matter

module _ {A : Arithmetic} (W : World A) where
  abbrev Alike : ℕ → List ℕ → List ℕ → Type 0
  Alike n ρ σ = (i : ℕ) → i < n → get_or ρ i 0 ≡ get_or σ i 0

  one_longer : (n x : ℕ) (ρ σ : List ℕ) → Alike n ρ σ → Alike (suc n) (x ∷ ρ) (x ∷ σ)
  one_longer n x ρ σ h zero l = refl
  one_longer n x ρ σ h (suc i) l = h i (omega arith)

  mutual
    alike_value : (n : ℕ) (ρ σ : List ℕ) (t : Thing) → Alike n ρ σ → open_thing t ≤ n → value W ρ t ≡ value W σ t
    alike_value n ρ σ (var i) h b = h i b
    alike_value n ρ σ (apply s l) h b = ap (W.thing s) (alike_values n ρ σ l h b)

    alike_values : (n : ℕ) (ρ σ : List ℕ) (l : Things) → Alike n ρ σ → open_indices (things_tree l) ≤ n → values W ρ l ≡ values W σ l
    alike_values n ρ σ nil h b = refl
    alike_values n ρ σ (cons t l) h b = let p = max_parts (open_thing t) (open_indices (things_tree l)) n b in cc (alike_value n ρ σ t h p.0, alike_values n ρ σ l h p.1)

  alike_amount : (n : ℕ) (ρ σ : List ℕ) (a : Number) → Alike n ρ σ → open_number a ≤ n → amount W ρ a ≡ amount W σ a
  alike_amount n ρ σ (lit m) h b = refl
  alike_amount n ρ σ (add x y) h b = let p = max_parts (open_number x) (open_number y) n b in cc (alike_amount n ρ σ x h p.0, alike_amount n ρ σ y h p.1)
  alike_amount n ρ σ (minus x) h b = cc (alike_amount n ρ σ x h b)
  alike_amount n ρ σ (measure s l) h b = ap (W.number s) (alike_values n ρ σ l h b)

  alike_truth : (n : ℕ) (ρ σ : List ℕ) (φ : Formula) → Alike n ρ σ → open_formula φ ≤ n → truth W ρ φ ≡ truth W σ φ
  alike_truth n ρ σ falsity h b = refl
  alike_truth n ρ σ (connect c φ ψ) h b = let p = max_parts (open_formula φ) (open_formula ψ) n b in cc (alike_truth n ρ σ φ h p.0, alike_truth n ρ σ ψ h p.1)
  alike_truth n ρ σ (neg φ) h b = cc (alike_truth n ρ σ φ h b)
  alike_truth n ρ σ (eq_things t u) h b = let p = max_parts (open_thing t) (open_thing u) n b in cc (alike_value n ρ σ t h p.0, alike_value n ρ σ u h p.1)
  alike_truth n ρ σ (relate r x y) h b = let p = max_parts (open_number x) (open_number y) n b in cc (alike_amount n ρ σ x h p.0, alike_amount n ρ σ y h p.1)
  alike_truth n ρ σ (atom s l) h b = ap (W.predicate s) (alike_values n ρ σ l h b)
  alike_truth n ρ σ (forall φ) h b = every_same W.last _ _ (λ x. alike_truth (suc n) (x ∷ ρ) (x ∷ σ) φ (one_longer n x ρ σ h) (le_pred _ _ b))

  pub closed_truth : (ρ σ : List ℕ) (φ : Formula) → open_formula φ ≤ 0 → truth W ρ φ ≡ truth W σ φ
  closed_truth ρ σ φ b = alike_truth 0 ρ σ φ (λ i l. absurd (not-suc-le-zero l)) b
