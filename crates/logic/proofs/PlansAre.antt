-- The walk of a plan yields what the plan relates, and nothing else.
use Rattle.std.proofs.Common.{◌≡◌, ℕ, suc, true, sym, refl, ap, ◌∙◌, subst}
use mathlib.Core.Option.{Option, none, some, none-ne-some, some-injective}
use Rattle.std.proofs.lemmas.Bool.{and_parts, and_from, eqb-true, eq-eqb}
use Rattle.logic.specs.Syntax.{Formula, OneSided, TwoSided, Plan, connect, neg, forall, and, or, same, id, step, fork, skip, skol, recnn, recand, recor, recnor, recnand}
use Rattle.logic.specs.Rules.{when}
use Rattle.logic.specs.Plans.{Turns, by_id, by_skip, by_skol, by_recand, by_recor, by_recnor, by_recnand, by_recnn}
use Rattle.logic.specs.Plans.{Walked, misfit, yields, around, around_both, if_fits, takes, inner_scope, rebuilt, rejoined, inner, two_inner, result, turn}
use Rattle.logic.proofs.RulesAre.{tested, passes, fits, same_true, same_refl}

-- ---- what a walk yielded, taken apart

fitted : {A : Type 0} (o : Option A) (w : A → Walked) (ψ : Formula) → result (if_fits o w) ≡ some ψ → (x : A) × (o ≡ some x) × (result (w x) ≡ some ψ)
unfolding if_fits
fitted none w ψ h = absurd (none-ne-some ψ h)
fitted (some x) w ψ h = (x, refl, h)

around_parts : (χ : Formula) (make : Formula → Formula) (w : Walked) (ψ : Formula) → result (around χ make w) ≡ some ψ → (φ : Formula) × (result w ≡ some φ) × (make φ ≡ ψ)
around_parts χ make (misfit k) ψ h = absurd (none-ne-some ψ h)
around_parts χ make (yields k met φ) ψ h = (φ, refl, some-injective _ _ h)

both_parts : (χ : Formula) (make : Formula → Formula → Formula) (v w : Walked) (ψ : Formula) → result (around_both χ make v w) ≡ some ψ
    → (φ : Formula) × (φ' : Formula) × (result v ≡ some φ) × (result w ≡ some φ') × (make φ φ' ≡ ψ)
both_parts χ make (misfit k) w ψ h = absurd (none-ne-some ψ h)
both_parts χ make (yields k met φ) (misfit j) ψ h = absurd (none-ne-some ψ h)
both_parts χ make (yields k met φ) (yields j met' φ') ψ h = (φ, φ', refl, refl, some-injective _ _ h)

-- ---- and put together

fits_back : {A : Type 0} (o : Option A) (w : A → Walked) (x : A) → o ≡ some x → result (if_fits o w) ≡ result (w x)
unfolding if_fits
fits_back none w x e = absurd (none-ne-some x e)
fits_back (some y) w x e = ap (λ z. result (w z)) (some-injective y x e)

around_back : (χ : Formula) (make : Formula → Formula) (w : Walked) (φ : Formula) → result w ≡ some φ → result (around χ make w) ≡ some (make φ)
around_back χ make (misfit k) φ h = absurd (none-ne-some φ h)
around_back χ make (yields k met ψ) φ h = ap (λ x. some (make x)) (some-injective ψ φ h)

both_back : (χ : Formula) (make : Formula → Formula → Formula) (v w : Walked) (φ φ' : Formula) → result v ≡ some φ → result w ≡ some φ' → result (around_both χ make v w) ≡ some (make φ φ')
both_back χ make (misfit k) w φ φ' h g = absurd (none-ne-some φ h)
both_back χ make (yields k met ψ) (misfit j) φ φ' h g = absurd (none-ne-some φ' g)
both_back χ make (yields k met ψ) (yields j met' ψ') φ φ' h g = let e = some-injective ψ φ h in let f = some-injective ψ' φ' g in cc

-- ---- the tables

taken : (o : Option ℕ) (n : ℕ) → takes o n ≡ true → o ≡ some n
taken none n h = cc
taken (some m) n h = ap {B = Option ℕ} some (eqb-true m n h)

taken_back : (o : Option ℕ) (n : ℕ) → o ≡ some n → takes o n ≡ true
taken_back o n h = rw h (eq-eqb n n refl)

-- a formula of the shape that the head tests for, and what the sub-plan takes
shaped : {A : Type 0} (χ ξ : Formula) (x y : A) → when (same χ ξ) x ≡ some y → (ξ ≡ χ) × (x ≡ y)
shaped χ ξ x y h = let t = tested _ _ _ h in (sym (same_true _ _ t.0), t.1)

module _ (arity : ℕ → Option ℕ) where
  stepped : (h : OneSided) (n : ℕ) (p : Plan) (χ φ ψ : Formula) → inner arity n h χ ≡ some φ → Turns arity (inner_scope h n) p φ ψ → Turns arity n (step h p) χ (rebuilt h ψ)
  stepped skip n p χ φ ψ e d =
      let s = shaped _ _ _ _ e in
      subst (λ x. Turns arity n (step skip p) x (forall ψ)) s.0 (by_skip (subst (λ x. Turns arity (suc n) p x ψ) (sym s.1) d))
  stepped (skol s) n p χ φ ψ e d =
      let t = tested _ _ _ e in
      let c = and_parts (takes (arity s) n) _ t.0 in
      subst (λ x. Turns arity n (step (skol s) p) x ψ) (sym (same_true _ _ c.1)) (by_skol (taken (arity s) n c.0) (subst (λ x. Turns arity n p x ψ) (sym t.1) d))
  stepped recnn n p χ φ ψ e d =
      let s = shaped _ _ _ _ e in
      subst (λ x. Turns arity n (step recnn p) x ψ) s.0 (by_recnn (subst (λ x. Turns arity n p x ψ) (sym s.1) d))

  -- the sub-plan turns the formula that the head gives it
  left_turns : (n : ℕ) (p : Plan) (b c : Formula × Formula) (ψ : Formula) → b ≡ c → Turns arity n p c.0 ψ → Turns arity n p b.0 ψ
  left_turns n p b c ψ e d = subst (λ x. Turns arity n p x ψ) (ap (λ x. x.0) (sym e)) d

  right_turns : (n : ℕ) (p : Plan) (b c : Formula × Formula) (ψ : Formula) → b ≡ c → Turns arity n p c.1 ψ → Turns arity n p b.1 ψ
  right_turns n p b c ψ e d = subst (λ x. Turns arity n p x ψ) (ap (λ x. x.1) (sym e)) d

  forked : (h : TwoSided) (n : ℕ) (p q : Plan) (χ : Formula) (c : Formula × Formula) (ψ ψ' : Formula) → two_inner h χ ≡ some c → Turns arity n p c.0 ψ → Turns arity n q c.1 ψ'
      → Turns arity n (fork h p q) χ (connect (rejoined h) ψ ψ')
  forked recand n p q χ c ψ ψ' e d f =
      let s = shaped _ _ _ _ e in
      subst (λ x. Turns arity n (fork recand p q) x (and ψ ψ')) s.0 (by_recand (left_turns n p _ _ ψ s.1 d) (right_turns n q _ _ ψ' s.1 f))
  forked recor n p q χ c ψ ψ' e d f =
      let s = shaped _ _ _ _ e in
      subst (λ x. Turns arity n (fork recor p q) x (or ψ ψ')) s.0 (by_recor (left_turns n p _ _ ψ s.1 d) (right_turns n q _ _ ψ' s.1 f))
  forked recnor n p q χ c ψ ψ' e d f =
      let s = shaped _ _ _ _ e in
      subst (λ x. Turns arity n (fork recnor p q) x (and ψ ψ')) s.0 (by_recnor (left_turns n p _ _ ψ s.1 d) (right_turns n q _ _ ψ' s.1 f))
  forked recnand n p q χ c ψ ψ' e d f =
      let s = shaped _ _ _ _ e in
      subst (λ x. Turns arity n (fork recnand p q) x (or ψ ψ')) s.0 (by_recnand (left_turns n p _ _ ψ s.1 d) (right_turns n q _ _ ψ' s.1 f))

  pub turned : (n : ℕ) (p : Plan) (χ ψ : Formula) → turn arity n p χ ≡ some ψ → Turns arity n p χ ψ
  turned n id χ ψ h = subst (Turns arity n id χ) (some-injective _ _ h) by_id
  turned n (step h p) χ ψ e =
      let f = fitted _ _ _ e in
      let g = around_parts _ _ _ _ f.2 in
      subst (Turns arity n (step h p) χ) g.2 (stepped h n p χ _ _ f.1 (turned (inner_scope h n) p _ _ g.1))
  turned n (fork h p q) χ ψ e =
      let f = fitted _ _ _ e in
      let g = both_parts _ _ _ _ _ f.2 in
      subst (Turns arity n (fork h p q) χ) g.4 (forked h n p q χ _ _ _ f.1 (turned n p _ _ g.2) (turned n q _ _ g.3))

  -- ---- and back

  step_back : (h : OneSided) (n : ℕ) (p : Plan) (χ φ ψ : Formula) → inner arity n h χ ≡ some φ → turn arity (inner_scope h n) p φ ≡ some ψ → turn arity n (step h p) χ ≡ some (rebuilt h ψ)
  step_back h n p χ φ ψ e t = fits_back _ _ φ e ∙ around_back χ (rebuilt h) _ ψ t

  fork_back : (h : TwoSided) (n : ℕ) (p q : Plan) (χ : Formula) (c : Formula × Formula) (ψ ψ' : Formula) → two_inner h χ ≡ some c → turn arity n p c.0 ≡ some ψ → turn arity n q c.1 ≡ some ψ'
      → turn arity n (fork h p q) χ ≡ some (connect (rejoined h) ψ ψ')
  fork_back h n p q χ c ψ ψ' e t u = fits_back _ _ c e ∙ both_back χ (connect (rejoined h)) _ _ ψ ψ' t u

  pub turn_gives : {n : ℕ} {p : Plan} {φ ψ : Formula} → Turns arity n p φ ψ → turn arity n p φ ≡ some ψ
  turn_gives by_id = refl
  turn_gives (by_skip {n} {p} {φ} {ψ} d) = step_back skip n p (forall φ) φ ψ (fits _ φ) (turn_gives d)
  turn_gives (by_skol {n} {s} {p} {φ} {ψ} e d) = step_back (skol s) n p (neg (forall φ)) _ ψ (passes _ _ (and_from _ _ (taken_back (arity s) n e) (same_refl _))) (turn_gives d)
  turn_gives (by_recand {n} {p} {q} d e) = fork_back recand n p q _ _ _ _ (fits _ _) (turn_gives d) (turn_gives e)
  turn_gives (by_recor {n} {p} {q} d e) = fork_back recor n p q _ _ _ _ (fits _ _) (turn_gives d) (turn_gives e)
  turn_gives (by_recnor {n} {p} {q} d e) = fork_back recnor n p q _ _ _ _ (fits _ _) (turn_gives d) (turn_gives e)
  turn_gives (by_recnand {n} {p} {q} d e) = fork_back recnand n p q _ _ _ _ (fits _ _) (turn_gives d) (turn_gives e)
  turn_gives (by_recnn {n} {p} {φ} {ψ} d) = step_back recnn n p (neg (neg φ)) φ ψ (fits _ φ) (turn_gives d)
