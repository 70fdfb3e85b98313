-- Putting a thing for a variable leaves a formula's shape, so a plan's fit is decided on the formula as it stands.
use Rattle.std.proofs.Common.{◌≡◌, ℕ, suc, ◌&&◌, sym, refl, ap, ◌∙◌, ap₂}
use mathlib.Core.Bool.{decide}
use mathlib.Core.Option.{Option, none, some, map}
use Rattle.logic.specs.Syntax.{Thing, Formula, Connective, OneSided, TwoSided, Plan, implication, conjunction, disjunction, falsity, connect, neg, eq_things, relate, atom, forall, same}
use Rattle.logic.specs.Syntax.{id, step, fork, skip, skol, recnn, recand, recor, recnor, recnand, apply}
use Rattle.logic.specs.Substitution.{put, raise}
use Rattle.logic.specs.Rules.{when, left, right}
use Rattle.logic.specs.Plans.{Walked, misfit, yields, walk, inner, two_inner, takes, inner_scope, scope, around, around_both, if_fits, rebuilt, rejoined}
use Rattle.logic.proofs.RulesAre.{same_refl}
use Rattle.rules.proofs.Whens.{mapped_when}
use Rattle.rules.specs.Fitting.{skeleton, Fit, fit_of, under_head, under_fork, if_some, met_by, plan_fit}

-- putting a thing for a variable leaves the shape
pub put_skeleton : (k : ℕ) (t : Thing) (φ : Formula) → skeleton (put k t φ) ≡ skeleton φ
put_skeleton k t falsity = refl
put_skeleton k t (connect c φ ψ) = ap₂ (connect c) (put_skeleton k t φ) (put_skeleton k t ψ)
put_skeleton k t (neg φ) = ap neg (put_skeleton k t φ)
put_skeleton k t (eq_things u v) = refl
put_skeleton k t (relate r a b) = refl
put_skeleton k t (atom s l) = refl
put_skeleton k t (forall φ) = ap forall (put_skeleton (suc k) (raise t) φ)

pub left_skeleton : (χ : Formula) → skeleton (left χ) ≡ left (skeleton χ)
left_skeleton falsity = refl
left_skeleton (connect c φ ψ) = refl
left_skeleton (neg φ) = refl
left_skeleton (eq_things t u) = refl
left_skeleton (relate r a b) = refl
left_skeleton (atom s l) = refl
left_skeleton (forall φ) = refl

pub right_skeleton : (χ : Formula) → skeleton (right χ) ≡ right (skeleton χ)
right_skeleton falsity = refl
right_skeleton (connect c φ ψ) = refl
right_skeleton (neg φ) = refl
right_skeleton (eq_things t u) = refl
right_skeleton (relate r a b) = refl
right_skeleton (atom s l) = refl
right_skeleton (forall φ) = refl

-- ---- a formula passes a head's test if its shape does

pub forall_alike : (χ : Formula) → same χ (forall (left χ)) ≡ same (skeleton χ) (forall (left (skeleton χ)))
unfolding decide
forall_alike falsity = refl
forall_alike (connect c φ ψ) = refl
forall_alike (neg φ) = refl
forall_alike (eq_things t u) = refl
forall_alike (relate r a b) = refl
forall_alike (atom s l) = refl
forall_alike (forall φ) = same_refl (forall φ) ∙ sym (same_refl (forall (skeleton φ)))

pub neg_forall_alike : (χ : Formula) → same χ (neg (forall (left (left χ)))) ≡ same (skeleton χ) (neg (forall (left (left (skeleton χ)))))
unfolding decide
neg_forall_alike falsity = refl
neg_forall_alike (connect c φ ψ) = refl
neg_forall_alike (neg falsity) = refl
neg_forall_alike (neg (connect c φ ψ)) = refl
neg_forall_alike (neg (neg φ)) = refl
neg_forall_alike (neg (eq_things t u)) = refl
neg_forall_alike (neg (relate r a b)) = refl
neg_forall_alike (neg (atom s l)) = refl
neg_forall_alike (neg (forall φ)) = same_refl (neg (forall φ)) ∙ sym (same_refl (neg (forall (skeleton φ))))
neg_forall_alike (eq_things t u) = refl
neg_forall_alike (relate r a b) = refl
neg_forall_alike (atom s l) = refl
neg_forall_alike (forall φ) = refl

pub neg_neg_alike : (χ : Formula) → same χ (neg (neg (left (left χ)))) ≡ same (skeleton χ) (neg (neg (left (left (skeleton χ)))))
unfolding decide
neg_neg_alike falsity = refl
neg_neg_alike (connect c φ ψ) = refl
neg_neg_alike (neg falsity) = refl
neg_neg_alike (neg (connect c φ ψ)) = refl
neg_neg_alike (neg (neg φ)) = same_refl (neg (neg φ)) ∙ sym (same_refl (neg (neg (skeleton φ))))
neg_neg_alike (neg (eq_things t u)) = refl
neg_neg_alike (neg (relate r a b)) = refl
neg_neg_alike (neg (atom s l)) = refl
neg_neg_alike (neg (forall φ)) = refl
neg_neg_alike (eq_things t u) = refl
neg_neg_alike (relate r a b) = refl
neg_neg_alike (atom s l) = refl
neg_neg_alike (forall φ) = refl

pub connect_alike : (d : Connective) (χ : Formula) → same χ (connect d (left χ) (right χ)) ≡ same (skeleton χ) (connect d (left (skeleton χ)) (right (skeleton χ)))
unfolding decide
connect_alike implication falsity = refl
connect_alike implication (connect implication φ ψ) = same_refl (connect implication φ ψ) ∙ sym (same_refl (connect implication (skeleton φ) (skeleton ψ)))
connect_alike implication (connect conjunction φ ψ) = refl
connect_alike implication (connect disjunction φ ψ) = refl
connect_alike implication (neg φ) = refl
connect_alike implication (eq_things t u) = refl
connect_alike implication (relate r a b) = refl
connect_alike implication (atom s l) = refl
connect_alike implication (forall φ) = refl
connect_alike conjunction falsity = refl
connect_alike conjunction (connect implication φ ψ) = refl
connect_alike conjunction (connect conjunction φ ψ) = same_refl (connect conjunction φ ψ) ∙ sym (same_refl (connect conjunction (skeleton φ) (skeleton ψ)))
connect_alike conjunction (connect disjunction φ ψ) = refl
connect_alike conjunction (neg φ) = refl
connect_alike conjunction (eq_things t u) = refl
connect_alike conjunction (relate r a b) = refl
connect_alike conjunction (atom s l) = refl
connect_alike conjunction (forall φ) = refl
connect_alike disjunction falsity = refl
connect_alike disjunction (connect implication φ ψ) = refl
connect_alike disjunction (connect conjunction φ ψ) = refl
connect_alike disjunction (connect disjunction φ ψ) = same_refl (connect disjunction φ ψ) ∙ sym (same_refl (connect disjunction (skeleton φ) (skeleton ψ)))
connect_alike disjunction (neg φ) = refl
connect_alike disjunction (eq_things t u) = refl
connect_alike disjunction (relate r a b) = refl
connect_alike disjunction (atom s l) = refl
connect_alike disjunction (forall φ) = refl

pub neg_connect_alike : (d : Connective) (χ : Formula) → same χ (neg (connect d (left (left χ)) (right (left χ)))) ≡ same (skeleton χ) (neg (connect d (left (left (skeleton χ))) (right (left (skeleton χ)))))
unfolding decide
neg_connect_alike implication falsity = refl
neg_connect_alike implication (connect c φ ψ) = refl
neg_connect_alike implication (neg falsity) = refl
neg_connect_alike implication (neg (connect implication φ ψ)) = same_refl (neg (connect implication φ ψ)) ∙ sym (same_refl (neg (connect implication (skeleton φ) (skeleton ψ))))
neg_connect_alike implication (neg (connect conjunction φ ψ)) = refl
neg_connect_alike implication (neg (connect disjunction φ ψ)) = refl
neg_connect_alike implication (neg (neg φ)) = refl
neg_connect_alike implication (neg (eq_things t u)) = refl
neg_connect_alike implication (neg (relate r a b)) = refl
neg_connect_alike implication (neg (atom s l)) = refl
neg_connect_alike implication (neg (forall φ)) = refl
neg_connect_alike implication (eq_things t u) = refl
neg_connect_alike implication (relate r a b) = refl
neg_connect_alike implication (atom s l) = refl
neg_connect_alike implication (forall φ) = refl
neg_connect_alike conjunction falsity = refl
neg_connect_alike conjunction (connect c φ ψ) = refl
neg_connect_alike conjunction (neg falsity) = refl
neg_connect_alike conjunction (neg (connect implication φ ψ)) = refl
neg_connect_alike conjunction (neg (connect conjunction φ ψ)) = same_refl (neg (connect conjunction φ ψ)) ∙ sym (same_refl (neg (connect conjunction (skeleton φ) (skeleton ψ))))
neg_connect_alike conjunction (neg (connect disjunction φ ψ)) = refl
neg_connect_alike conjunction (neg (neg φ)) = refl
neg_connect_alike conjunction (neg (eq_things t u)) = refl
neg_connect_alike conjunction (neg (relate r a b)) = refl
neg_connect_alike conjunction (neg (atom s l)) = refl
neg_connect_alike conjunction (neg (forall φ)) = refl
neg_connect_alike conjunction (eq_things t u) = refl
neg_connect_alike conjunction (relate r a b) = refl
neg_connect_alike conjunction (atom s l) = refl
neg_connect_alike conjunction (forall φ) = refl
neg_connect_alike disjunction falsity = refl
neg_connect_alike disjunction (connect c φ ψ) = refl
neg_connect_alike disjunction (neg falsity) = refl
neg_connect_alike disjunction (neg (connect implication φ ψ)) = refl
neg_connect_alike disjunction (neg (connect conjunction φ ψ)) = refl
neg_connect_alike disjunction (neg (connect disjunction φ ψ)) = same_refl (neg (connect disjunction φ ψ)) ∙ sym (same_refl (neg (connect disjunction (skeleton φ) (skeleton ψ))))
neg_connect_alike disjunction (neg (neg φ)) = refl
neg_connect_alike disjunction (neg (eq_things t u)) = refl
neg_connect_alike disjunction (neg (relate r a b)) = refl
neg_connect_alike disjunction (neg (atom s l)) = refl
neg_connect_alike disjunction (neg (forall φ)) = refl
neg_connect_alike disjunction (eq_things t u) = refl
neg_connect_alike disjunction (relate r a b) = refl
neg_connect_alike disjunction (atom s l) = refl
neg_connect_alike disjunction (forall φ) = refl

-- ---- what a sub-plan meets, by shape

left_left : (χ : Formula) → skeleton (left (left χ)) ≡ left (left (skeleton χ))
left_left χ = left_skeleton (left χ) ∙ ap left (left_skeleton χ)

right_left : (χ : Formula) → skeleton (right (left χ)) ≡ right (left (skeleton χ))
right_left χ = right_skeleton (left χ) ∙ ap right (left_skeleton χ)

abbrev both : Formula × Formula → Formula × Formula
both c = (skeleton c.0, skeleton c.1)

two_skeleton : (h : TwoSided) (χ : Formula) → map both (two_inner h χ) ≡ two_inner h (skeleton χ)
two_skeleton recand χ = mapped_when both _ _ ∙ ap₂ when (connect_alike conjunction χ) (ap₂ (λ x y. (x, y)) (left_skeleton χ) (right_skeleton χ))
two_skeleton recor χ = mapped_when both _ _ ∙ ap₂ when (connect_alike disjunction χ) (ap₂ (λ x y. (x, y)) (left_skeleton χ) (right_skeleton χ))
two_skeleton recnor χ = mapped_when both _ _ ∙ ap₂ when (neg_connect_alike disjunction χ) (ap₂ (λ x y. (neg x, neg y)) (left_left χ) (right_left χ))
two_skeleton recnand χ = mapped_when both _ _ ∙ ap₂ when (neg_connect_alike conjunction χ) (ap₂ (λ x y. (neg x, neg y)) (left_left χ) (right_left χ))

-- ---- fits put together

step_fit : {A : Type 0} (g : A → A) (o : Option A) (w : A → Walked) (f : A → Fit) → ((x : A) → fit_of (w x) ≡ f (g x)) → fit_of (if_fits o w) ≡ if_some (map g o) f
unfolding if_fits if_some
step_fit g none w f e = refl
step_fit g (some x) w f e = e x

some_fit : {A : Type 0} (g : A → A) (o : Option A) (w f : A → Fit) → ((x : A) → w x ≡ f (g x)) → if_some o w ≡ if_some (map g o) f
unfolding if_some
some_fit g none w f e = refl
some_fit g (some x) w f e = e x

around_fit : (χ : Formula) (make : Formula → Formula) (w : Walked) → fit_of (around χ make w) ≡ under_head (fit_of w)
around_fit χ make (misfit k) = refl
around_fit χ make (yields k met ψ) = refl

both_fit : (χ : Formula) (make : Formula → Formula → Formula) (v w : Walked) → fit_of (around_both χ make v w) ≡ under_fork (fit_of v) (fit_of w)
both_fit χ make (misfit k) w = refl
both_fit χ make (yields k met ψ) (misfit j) = refl
both_fit χ make (yields k met ψ) (yields j met' ξ) = refl

module _ (arity : ℕ → Option ℕ) where
  -- the formula that the sub-plan takes has the shape of the one that it meets with nothing put
  inner_skeleton : (n : ℕ) (h : OneSided) (χ : Formula) → map skeleton (inner arity n h χ) ≡ met_by arity n h (skeleton χ)
  inner_skeleton n skip χ = mapped_when skeleton _ _ ∙ ap₂ when (forall_alike χ) (left_skeleton χ)
  inner_skeleton n (skol s) χ =
      mapped_when skeleton _ _ ∙ ap₂ when (ap (λ b. takes (arity s) n && b) (neg_forall_alike χ)) (ap neg (put_skeleton 0 (apply s (scope n)) (left (left χ)) ∙ left_left χ))
  inner_skeleton n recnn χ = mapped_when skeleton _ _ ∙ ap₂ when (neg_neg_alike χ) (left_left χ)

  met_skeleton : (n : ℕ) (h : OneSided) (χ : Formula) → map skeleton (met_by arity n h χ) ≡ met_by arity n h (skeleton χ)
  met_skeleton n skip χ = mapped_when skeleton _ _ ∙ ap₂ when (forall_alike χ) (left_skeleton χ)
  met_skeleton n (skol s) χ = mapped_when skeleton _ _ ∙ ap₂ when (ap (λ b. takes (arity s) n && b) (neg_forall_alike χ)) (ap neg (left_left χ))
  met_skeleton n recnn χ = mapped_when skeleton _ _ ∙ ap₂ when (neg_neg_alike χ) (left_left χ)

  walk_by_shape : (p : Plan) (n : ℕ) (χ : Formula) → fit_of (walk arity n p χ) ≡ plan_fit arity n p (skeleton χ)
  walk_by_shape id n χ = refl
  walk_by_shape (step h p) n χ =
      step_fit skeleton (inner arity n h χ) (λ φ. around χ (rebuilt h) (walk arity (inner_scope h n) p φ)) (λ φ. under_head (plan_fit arity (inner_scope h n) p φ))
      (λ φ. around_fit χ (rebuilt h) _ ∙ ap under_head (walk_by_shape p (inner_scope h n) φ))
      ∙ ap (λ o. if_some o λ φ. under_head (plan_fit arity (inner_scope h n) p φ)) (inner_skeleton n h χ)
  walk_by_shape (fork h p q) n χ =
      step_fit both (two_inner h χ) (λ c. around_both χ (connect (rejoined h)) (walk arity n p c.0) (walk arity n q c.1)) (λ c. under_fork (plan_fit arity n p c.0) (plan_fit arity n q c.1))
      (λ c. both_fit χ (connect (rejoined h)) (walk arity n p c.0) (walk arity n q c.1) ∙ ap₂ under_fork (walk_by_shape p n c.0) (walk_by_shape q n c.1))
      ∙ ap (λ o. if_some o λ c. under_fork (plan_fit arity n p c.0) (plan_fit arity n q c.1)) (two_skeleton h χ)

  fit_by_shape : (p : Plan) (n : ℕ) (χ : Formula) → plan_fit arity n p χ ≡ plan_fit arity n p (skeleton χ)
  fit_by_shape id n χ = refl
  fit_by_shape (step h p) n χ =
      some_fit skeleton (met_by arity n h χ) (λ φ. under_head (plan_fit arity (inner_scope h n) p φ)) (λ φ. under_head (plan_fit arity (inner_scope h n) p φ))
      (λ φ. ap under_head (fit_by_shape p (inner_scope h n) φ))
      ∙ ap (λ o. if_some o λ φ. under_head (plan_fit arity (inner_scope h n) p φ)) (met_skeleton n h χ)
  fit_by_shape (fork h p q) n χ =
      some_fit both (two_inner h χ) (λ c. under_fork (plan_fit arity n p c.0) (plan_fit arity n q c.1)) (λ c. under_fork (plan_fit arity n p c.0) (plan_fit arity n q c.1))
      (λ c. ap₂ under_fork (fit_by_shape p n c.0) (fit_by_shape q n c.1))
      ∙ ap (λ o. if_some o λ c. under_fork (plan_fit arity n p c.0) (plan_fit arity n q c.1)) (two_skeleton h χ)

  -- the walk's first misfit is that of the plan on the formula as it stands
  pub walk_fits_as_it_stands : (n : ℕ) (p : Plan) (χ : Formula) → fit_of (walk arity n p χ) ≡ plan_fit arity n p χ
  walk_fits_as_it_stands n p χ = walk_by_shape p n χ ∙ sym (fit_by_shape p n χ)
