-- Where sums are carried, bounds of two numbers add up to a bound of their sum.
use Rattle.std.proofs.Common.{◌≡◌, true, cond, ◌&&◌, ℤ, IfSome, Some, None, sym, subst, inl, inr}
use Rattle.std.proofs.lemmas.Bool.{cases_Bool, and_parts}
use Rattle.logic.specs.Arithmetic.{Arithmetic, Lawful}
use Rattle.arithmetic.specs.Literals.{literal_sum}

module _ (A : Arithmetic) (lawful : Lawful A) (carries : A.carries ≡ true) (m n : ℤ) where
  abbrev pub Bounds : ℤ → Type 0
  Bounds k = (a b : ℤ) → A.has a ≡ true → A.has b ≡ true → A.atmost a m ≡ true → A.atmost b n ≡ true → A.atmost (A.sum a b) k ≡ true

  pub sum_bounds : IfSome (literal_sum A m n) Bounds
  sum_bounds =
      elim (cases_Bool (A.admits m && A.admits n && A.admits (A.sum m n))) [
        | inl t ↦
            let both = and_parts (A.admits m && A.admits n) (A.admits (A.sum m n)) t in
            let each = and_parts (A.admits m) (A.admits n) both.0 in
            subst (λ b. IfSome (cond b (Some (A.sum m n)) None) Bounds) (sym t)
            (λ a b ha hb am bn. lawful.carried carries a m b n ha (lawful.admits_its_own m each.0) hb (lawful.admits_its_own n each.1) am bn)
        | inr f ↦ subst (λ b. IfSome (cond b (Some (A.sum m n)) None) Bounds) (sym f) tt
      ]
