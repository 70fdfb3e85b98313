-- The function of the facts gives what the facts state, and nothing else.
use Rattle.std.proofs.Common.{◌≡◌, Bool, true, false, cond, ◌&&◌, ℤ, sym, refl, ap, ◌∙◌, subst, subst₂}
use Rattle.std.proofs.lemmas.Bool.{and_parts, and_from, cond_both, cond-true, cond-false}
use Rattle.logic.specs.Syntax.{Number, Formula, lit, add, minus, falsity, same, implies, neg, eq_numbers, leq}
use Rattle.logic.specs.Arithmetic.{Arithmetic}
use Rattle.logic.specs.Facts.{Fact, States, sum, atmost, cancel, swap, eqleq, leqtrans, pair}
use Rattle.logic.specs.Facts.{by_sum, by_atmost, by_above, by_cancel, by_swap, by_eqleq, by_leqtrans, by_pair}
use Rattle.logic.specs.Facts.{Stated, misshapen, unadmitted, formula, of_literal, upper, are_bounds, state}
use Rattle.logic.proofs.RulesAre.{same_true, same_refl}

-- ---- a formula is none of the reasons

abbrev IsFormula : Stated → Type 0
IsFormula (formula φ) = Unit {0}
IsFormula s = ⊥

abbrev the_formula : Stated → Formula
the_formula (formula φ) = φ
the_formula s = falsity

is_formula : (s : Stated) (φ : Formula) → s ≡ formula φ → IsFormula s
is_formula s φ e = subst IsFormula (sym e) tt

the_same : (φ ψ : Formula) → formula φ ≡ formula ψ → φ ≡ ψ
the_same φ ψ e = ap the_formula e

-- the test passed, if what follows else is no formula
chosen : (b : Bool) (x y : Stated) (φ : Formula) → (IsFormula y → ⊥) → cond b x y ≡ formula φ → (b ≡ true) × (x ≡ formula φ)
chosen true x y φ no_else h = (refl, h)
chosen false x y φ no_else h = absurd (no_else (is_formula y φ h))

literal : (a : Number) (f : ℤ → Stated) (φ : Formula) → of_literal a f ≡ formula φ → (m : ℤ) × (a ≡ lit m) × (f m ≡ formula φ)
literal (lit m) f φ h = (m, refl, h)
literal a f φ h = absurd (is_formula misshapen φ h)

module _ (A : Arithmetic) where
  sum_stated : (a b : Number) (m n : ℤ) (φ : Formula) → a ≡ lit m → b ≡ lit n → cond (A.admits (A.sum m n)) (formula (eq_numbers (add a b) (lit (A.sum m n)))) unadmitted ≡ formula φ → States A (sum a b) φ
  sum_stated a b m n φ ea eb h =
      let t = chosen _ _ _ φ (λ x. x) h in
      subst (States A (sum a b)) (the_same _ _ t.1) (subst₂ (λ x y. States A (sum x y) (eq_numbers (add x y) (lit (A.sum m n)))) (sym ea) (sym eb) (by_sum t.0))

  atmost_stated : (a b : Number) (m n : ℤ) → a ≡ lit m → b ≡ lit n → States A (atmost a b) (cond (A.atmost m n) (leq a b) (neg (leq a b)))
  atmost_stated a b m n ea eb =
      cond_both (A.atmost m n) _ _ (States A (atmost a b))
      (λ h. subst₂ (λ x y. States A (atmost x y) (leq x y)) (sym ea) (sym eb) (by_atmost h))
      (λ h. subst₂ (λ x y. States A (atmost x y) (neg (leq x y))) (sym ea) (sym eb) (by_above h))

  pair_stated : (φ ψ : Formula) (a b c : Number) (m n : ℤ) → A.carries ≡ true → A.admits (A.sum m n) ≡ true
      → (same φ (leq (add a b) (lit m)) && same ψ (leq (add (minus a) c) (lit n))) ≡ true
      → States A (pair φ ψ) (implies φ (implies ψ (leq (add b c) (lit (A.sum m n)))))
  pair_stated φ ψ a b c m n carries admits bounds =
      let p = and_parts (same φ (leq (add a b) (lit m))) (same ψ (leq (add (minus a) c) (lit n))) bounds in
      subst₂ (λ x y. States A (pair x y) (implies x (implies y (leq (add b c) (lit (A.sum m n)))))) (sym (same_true _ _ p.0)) (sym (same_true _ _ p.1)) (by_pair carries admits)

  pub fact_stated : (f : Fact) (φ : Formula) → state A f ≡ formula φ → States A f φ
  fact_stated (sum a b) φ h =
      let p = literal a _ φ h in
      let q = literal b _ φ p.2 in
      sum_stated a b _ _ φ p.1 q.1 q.2
  fact_stated (atmost a b) φ h =
      let p = literal a _ φ h in
      let q = literal b _ φ p.2 in
      subst (States A (atmost a b)) (the_same _ _ q.2) (atmost_stated a b _ _ p.1 q.1)
  fact_stated (cancel a) φ h = subst (States A (cancel a)) (the_same _ _ h) by_cancel
  fact_stated (swap a b) φ h = subst (States A (swap a b)) (the_same _ _ h) by_swap
  fact_stated (eqleq a b) φ h = subst (States A (eqleq a b)) (the_same _ _ h) by_eqleq
  fact_stated (leqtrans a b c) φ h = subst (States A (leqtrans a b c)) (the_same _ _ h) by_leqtrans
  fact_stated (pair φ ψ) χ h =
      let t = chosen _ _ _ χ (λ x. x) h in
      let p = literal (upper φ) _ χ t.1 in
      let q = literal (upper ψ) _ χ p.2 in
      let u = chosen _ _ _ χ (λ x. x) q.2 in
      let v = chosen _ _ _ χ (λ x. x) u.1 in
      subst (States A (pair φ ψ)) (the_same _ _ v.1) (pair_stated φ ψ _ _ _ _ _ t.0 v.0 u.0)

  pub state_gives : {f : Fact} {φ : Formula} → States A f φ → state A f ≡ formula φ
  state_gives (by_sum {m} {n} h) = cond-true (A.admits (A.sum m n)) _ _ h
  state_gives (by_atmost {m} {n} h) = ap formula (cond-true (A.atmost m n) _ _ h)
  state_gives (by_above {m} {n} h) = ap formula (cond-false (A.atmost m n) _ _ h)
  state_gives by_cancel = refl
  state_gives by_swap = refl
  state_gives by_eqleq = refl
  state_gives by_leqtrans = refl
  state_gives (by_pair {a} {b} {c} {m} {n} carries h) =
      cond-true A.carries _ _ carries
      ∙ cond-true (are_bounds (leq (add a b) (lit m)) (leq (add (minus a) c) (lit n)) m n) _ _ (and_from _ _ (same_refl _) (same_refl _))
      ∙ cond-true (A.admits (A.sum m n)) _ _ h
