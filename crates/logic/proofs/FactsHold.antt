-- What a fact states holds in every world over a lawful arithmetic.
use Rattle.std.proofs.Common.{◌≡◌, ℕ, Bool, true, not, ◌&&◌, List, [], ℤ, pos, sym, refl, ap, ◌∙◌, subst}
use Rattle.std.proofs.lemmas.Bool.{and_parts}
use Rattle.logic.specs.Syntax.{Number, Formula, lit, add, minus, measure}
use Rattle.logic.specs.Tree.{number_tree, literals_pass}
use Rattle.logic.specs.Arithmetic.{Arithmetic, Lawful}
use Rattle.logic.specs.World.{World, amount, Holds}
use Rattle.logic.specs.Facts.{Fact, States, admitted, by_sum, by_atmost, by_above, by_cancel, by_swap, by_eqleq, by_leqtrans, by_pair}
use Rattle.logic.proofs.Connectives.{implies_from, are_same, from_same}

module _ {A : Arithmetic} (L : Lawful A) where
  -- the literals of the number term are admitted
  abbrev pass : Number → Bool
  pass a = literals_pass A.admits (number_tree a)

  both_pass : (a b : Number) → (pass a && pass b) ≡ true → (pass a ≡ true) × (pass b ≡ true)
  both_pass a b h = and_parts (pass a) (pass b) h

  -- (a + b) + (−a + c) = b + c
  regrouped : (a b c : ℤ) → A.has a ≡ true → A.has b ≡ true → A.has c ≡ true → A.sum (A.sum a b) (A.sum (A.negative a) c) ≡ A.sum b c
  regrouped a b c ha hb hc =
      let hn = L.has_negative a ha in
      let hz = L.has_zero in
      ap (λ x. A.sum x (A.sum (A.negative a) c)) (L.commutative a b ha hb)
      ∙ L.associative b a (A.sum (A.negative a) c) hb ha (L.has_sum (A.negative a) c hn hc)
      ∙ ap (A.sum b) (sym (L.associative a (A.negative a) c ha hn hc) ∙ ap (λ x. A.sum x c) (L.cancels a ha) ∙ L.commutative (pos 0) c hz hc ∙ L.neutral c hc)

  module _ (W : World A) where
    number : (ρ : List ℕ) (a : Number) → pass a ≡ true → A.has (amount W ρ a) ≡ true
    number ρ (lit n) ok = L.admits_its_own n ok
    number ρ (add a b) ok = let p = and_parts (pass a) (pass b) ok in L.has_sum _ _ (number ρ a p.0) (number ρ b p.1)
    number ρ (minus a) ok = L.has_negative _ (number ρ a ok)
    number ρ (measure s l) ok = W.number_within s _

    pub fact_holds : {f : Fact} {φ : Formula} → States A f φ → admitted A φ ≡ true → Holds W φ
    fact_holds (by_sum admits) ok = from_same refl
    fact_holds (by_atmost h) ok = h
    fact_holds (by_above h) ok = ap not h
    fact_holds (by_cancel {a}) ok =
        let p = both_pass (add a (minus a)) (lit (pos 0)) ok in
        from_same (L.cancels _ (number [] a (both_pass a (minus a) p.0).0))
    fact_holds (by_swap {a} {b}) ok =
        let p = both_pass a b (both_pass (add a b) (add b a) ok).0 in
        from_same (L.commutative _ _ (number [] a p.0) (number [] b p.1))
    fact_holds (by_eqleq {a} {b}) ok =
        let p = both_pass a b (and_parts _ (pass a && pass b) ok).1 in
        implies_from _ _ (λ h. subst (λ x. A.atmost (amount W [] a) x ≡ true) (are_same h) (L.reflexive _ (number [] a p.0)))
    fact_holds (by_leqtrans {a} {b} {c}) ok =
        let p = and_parts (pass a && pass b) ((pass b && pass c) && (pass a && pass c)) ok in
        let q = and_parts (pass b && pass c) (pass a && pass c) p.1 in
        let ha = number [] a (both_pass a b p.0).0 in
        let hb = number [] b (both_pass a b p.0).1 in
        let hc = number [] c (both_pass b c q.0).1 in
        implies_from _ _ (λ h. implies_from _ _ (λ k. L.transitive _ _ _ ha hb hc h k))
    fact_holds (by_pair {a} {b} {c} {m} {n} carries admits) ok =
        let p = and_parts ((pass a && pass b) && A.admits m) (((pass a && pass c) && A.admits n) && ((pass b && pass c) && A.admits (A.sum m n))) ok in
        let q = and_parts ((pass a && pass c) && A.admits n) ((pass b && pass c) && A.admits (A.sum m n)) p.1 in
        let l = and_parts (pass a && pass b) (A.admits m) p.0 in
        let r = and_parts (pass a && pass c) (A.admits n) q.0 in
        let ha = number [] a (both_pass a b l.0).0 in
        let hb = number [] b (both_pass a b l.0).1 in
        let hc = number [] c (both_pass a c r.0).1 in
        implies_from _ _ (λ h. implies_from _ _ (λ k.
        subst (λ x. A.atmost x (A.sum m n) ≡ true) (regrouped _ _ _ ha hb hc)
        (L.carried carries _ _ _ _ (L.has_sum _ _ ha hb) (L.admits_its_own m l.1) (L.has_sum _ _ (L.has_negative _ ha) hc) (L.admits_its_own n r.1) h k)))
