-- The walk over a plan's tree yields the trees of what the plan's walk yields.
use Rattle.std.proofs.Common.{◌≡◌, ℕ, suc, ◌+◌, Bool, true, false, ◌&&◌, List, [], ◌∷◌, ◌++◌, map, sym, refl, ap, ◌∙◌, subst, ap₂, inl, inr}
use mathlib.Core.Bool.{and-true}
use mathlib.Core.Option
use mathlib.Core.Option.{Option, none, some}
use Rattle.std.proofs.lemmas.List.{map-append}
use Rattle.logic.specs.Syntax.{Formula, OneSided, TwoSided, Plan, connect, neg, forall, and, or, same, apply, id, step, fork, skip, skol, recnn, recand, recor, recnor, recnand}
use Rattle.logic.specs.Substitution.{instance_of}
use Rattle.logic.specs.Tree as trees
use Rattle.logic.specs.Tree.{Tree, unary, binary, formula_tree, plan_tree, parts}
use Rattle.logic.specs.Rules.{◌>>=◌, when, left, right}
use Rattle.logic.specs.Plans as plans
use Rattle.logic.specs.Plans.{Walked, walk, inner, two_inner, if_fits, takes, inner_scope, rejoined, scope}
use Rattle.logic.proofs.RulesAre.{same_refl, fits}
use Rattle.logic.proofs.Trees.{put_formula_tree}
use Rattle.model.specs.Session.{parts_of_each}
use Rattle.rules.specs.Turning.{Turned, yields, around, around_both, if_some, taken, taken_both, rebuilt, turned, parts_of_trees}
use Rattle.rules.specs.Typed.{in_trees}
use Rattle.rules.proofs.TypedShapes.{negation_or_not, conjunction_or_not, disjunction_or_not, forall_or_not}
use Rattle.rules.proofs.TypedRules.{fails}
use Rattle.rules.proofs.Whens.{mapped_when}

abbrev pair_trees : Formula × Formula → Tree × Tree
pair_trees c = (formula_tree c.0, formula_tree c.1)

-- ---- a shape and another test

fits_if : {A : Type 0} (b : Bool) (φ : Formula) (x : A) → when (b && same φ φ) x ≡ when b x
fits_if b φ x = ap (λ c. when (b && c) x) (same_refl φ) ∙ ap (λ c. when c x) (and-true b)

fails_if : {A : Type 0} (b : Bool) (φ ψ : Formula) (x : A) → (φ ≡ ψ → ⊥) → when (b && same φ ψ) x ≡ none
unfolding when
fails_if true φ ψ x differs = fails φ ψ x differs
fails_if false φ ψ x differs = refl

-- ---- what a head takes

module _ (arity : ℕ → Option ℕ) (n : ℕ) where
  -- the head takes the same of a formula and of its tree
  abbrev SameTaken : OneSided → Formula → Type 0
  SameTaken h χ = Option.map formula_tree (inner arity n h χ) ≡ taken arity n h (formula_tree χ)

  by_skip : (χ : Formula) → SameTaken skip χ
  by_skip χ = elim (forall_or_not χ) [
    | inl d ↦ subst (SameTaken skip) (sym d.1) (ap (Option.map formula_tree) (fits (forall d.0) d.0))
    | inr m ↦ ap (Option.map formula_tree) (fails χ (forall (left χ)) (left χ) (m.0 (left χ))) ∙ sym m.1
  ]

  twice_negated : (χ : Formula) → SameTaken recnn (neg χ)
  unfolding ◌>>=◌
  twice_negated χ = elim (negation_or_not χ) [
    | inl d ↦ subst (λ x. SameTaken recnn (neg x)) (sym d.1) (ap (Option.map formula_tree) (fits (neg (neg d.0)) d.0))
    | inr m ↦ ap (Option.map formula_tree) (fails (neg χ) (neg (neg (left χ))) (left χ) (λ e. m.0 (left χ) cc)) ∙ sym m.1
  ]

  by_recnn : (χ : Formula) → SameTaken recnn χ
  unfolding ◌>>=◌
  by_recnn χ = elim (negation_or_not χ) [
    | inl d ↦ subst (SameTaken recnn) (sym d.1) (twice_negated d.0)
    | inr m ↦ rw m.1 (ap (Option.map formula_tree) (fails χ (neg (neg (left (left χ)))) (left (left χ)) (m.0 (neg (left (left χ))))))
  ]

  skolemised : (s : ℕ) (χ : Formula) → SameTaken (skol s) (neg χ)
  unfolding ◌>>=◌
  skolemised s χ = elim (forall_or_not χ) [
    | inl d ↦
        let x = neg (instance_of d.0 (apply s (scope n))) in
        subst (λ y. SameTaken (skol s) (neg y)) (sym d.1)
        (ap (Option.map formula_tree) (fits_if (takes (arity s) n) (neg (forall d.0)) x)
        ∙ mapped_when formula_tree (takes (arity s) n) x
        ∙ ap (λ y. when (takes (arity s) n) (unary trees.neg y)) (put_formula_tree 0 (apply s (scope n)) d.0))
    | inr m ↦
        rw m.1
        (ap (Option.map formula_tree) (fails_if (takes (arity s) n) (neg χ) (neg (forall (left χ))) (neg (instance_of (left χ) (apply s (scope n)))) (λ e. m.0 (left χ) cc)))
  ]

  by_skol : (s : ℕ) (χ : Formula) → SameTaken (skol s) χ
  unfolding ◌>>=◌
  by_skol s χ = elim (negation_or_not χ) [
    | inl d ↦ subst (SameTaken (skol s)) (sym d.1) (skolemised s d.0)
    | inr m ↦
        rw m.1
        (ap (Option.map formula_tree) (fails_if (takes (arity s) n) χ (neg (forall (left (left χ)))) (neg (instance_of (left (left χ)) (apply s (scope n)))) (m.0 (forall (left (left χ))))))
  ]

  taken_typed : (h : OneSided) (χ : Formula) → Option.map formula_tree (inner arity n h χ) ≡ taken arity n h (formula_tree χ)
  taken_typed skip χ = by_skip χ
  taken_typed (skol s) χ = by_skol s χ
  taken_typed recnn χ = by_recnn χ

abbrev SameBoth : TwoSided → Formula → Type 0
SameBoth h χ = Option.map pair_trees (two_inner h χ) ≡ taken_both h (formula_tree χ)

by_recand : (χ : Formula) → SameBoth recand χ
by_recand χ = elim (conjunction_or_not χ) [
  | inl d ↦ subst (SameBoth recand) (sym d.2) (ap (Option.map pair_trees) (fits (and d.0 d.1) (d.0, d.1)))
  | inr m ↦ ap (Option.map pair_trees) (fails χ (and (left χ) (right χ)) (left χ, right χ) (m.0 (left χ) (right χ))) ∙ sym m.1
]

by_recor : (χ : Formula) → SameBoth recor χ
by_recor χ = elim (disjunction_or_not χ) [
  | inl d ↦ subst (SameBoth recor) (sym d.2) (ap (Option.map pair_trees) (fits (or d.0 d.1) (d.0, d.1)))
  | inr m ↦ ap (Option.map pair_trees) (fails χ (or (left χ) (right χ)) (left χ, right χ) (m.0 (left χ) (right χ))) ∙ sym m.1
]

disjunction_negated : (χ : Formula) → SameBoth recnor (neg χ)
unfolding ◌>>=◌
disjunction_negated χ = elim (disjunction_or_not χ) [
  | inl d ↦ subst (λ x. SameBoth recnor (neg x)) (sym d.2) (ap (Option.map pair_trees) (fits (neg (or d.0 d.1)) (neg d.0, neg d.1)))
  | inr m ↦ rw m.1 (ap (Option.map pair_trees) (fails (neg χ) (neg (or (left χ) (right χ))) (neg (left χ), neg (right χ)) (λ e. m.0 (left χ) (right χ) cc)))
]

by_recnor : (χ : Formula) → SameBoth recnor χ
unfolding ◌>>=◌
by_recnor χ = elim (negation_or_not χ) [
  | inl d ↦ subst (SameBoth recnor) (sym d.1) (disjunction_negated d.0)
  | inr m ↦
      rw m.1
      (ap (Option.map pair_trees) (fails χ (neg (or (left (left χ)) (right (left χ)))) (neg (left (left χ)), neg (right (left χ))) (m.0 (or (left (left χ)) (right (left χ))))))
]

conjunction_negated : (χ : Formula) → SameBoth recnand (neg χ)
unfolding ◌>>=◌
conjunction_negated χ = elim (conjunction_or_not χ) [
  | inl d ↦ subst (λ x. SameBoth recnand (neg x)) (sym d.2) (ap (Option.map pair_trees) (fits (neg (and d.0 d.1)) (neg d.0, neg d.1)))
  | inr m ↦ rw m.1 (ap (Option.map pair_trees) (fails (neg χ) (neg (and (left χ) (right χ))) (neg (left χ), neg (right χ)) (λ e. m.0 (left χ) (right χ) cc)))
]

by_recnand : (χ : Formula) → SameBoth recnand χ
unfolding ◌>>=◌
by_recnand χ = elim (negation_or_not χ) [
  | inl d ↦ subst (SameBoth recnand) (sym d.1) (conjunction_negated d.0)
  | inr m ↦
      rw m.1
      (ap (Option.map pair_trees) (fails χ (neg (and (left (left χ)) (right (left χ)))) (neg (left (left χ)), neg (right (left χ))) (m.0 (and (left (left χ)) (right (left χ))))))
]

taken_both_typed : (h : TwoSided) (χ : Formula) → Option.map pair_trees (two_inner h χ) ≡ taken_both h (formula_tree χ)
taken_both_typed recand χ = by_recand χ
taken_both_typed recor χ = by_recor χ
taken_both_typed recnor χ = by_recnor χ
taken_both_typed recnand χ = by_recnand χ

-- ---- positions put together

if_typed : {A B : Type 0} (g : A → B) (o : Option A) (t : B → Turned) (w : A → Walked) → ((x : A) → t (g x) ≡ in_trees (w x)) → if_some (Option.map g o) t ≡ in_trees (if_fits o w)
unfolding if_fits
if_typed g none t w e = refl
if_typed g (some x) t w e = e x

-- the trees of what was met, with one more at the end
met_more : (l : List Formula) (φ : Formula) (x : Tree) → formula_tree φ ≡ x → map formula_tree l ++ (x ∷ []) ≡ map formula_tree (l ++ (φ ∷ []))
met_more l φ x e = sym (map-append formula_tree l (φ ∷ []) ∙ ap (λ y. map formula_tree l ++ (y ∷ [])) e)

around_typed : (χ : Formula) (make : Formula → Formula) (make' : Tree → Tree) → ((ψ : Formula) → formula_tree (make ψ) ≡ make' (formula_tree ψ)) → (w : Walked)
    → around (formula_tree χ) make' (in_trees w) ≡ in_trees (plans.around χ make w)
around_typed χ make make' e (plans.misfit k) = refl
around_typed χ make make' e (plans.yields k met ψ) = ap₂ (yields (suc k)) (met_more (χ ∷ met) (make ψ) (make' (formula_tree ψ)) (e ψ)) (sym (e ψ))

around_both_typed : (χ : Formula) (make : Formula → Formula → Formula) (make' : Tree → Tree → Tree) → ((φ ψ : Formula) → formula_tree (make φ ψ) ≡ make' (formula_tree φ) (formula_tree ψ)) → (v w : Walked)
    → around_both (formula_tree χ) make' (in_trees v) (in_trees w) ≡ in_trees (plans.around_both χ make v w)
around_both_typed χ make make' e (plans.misfit k) w = refl
around_both_typed χ make make' e (plans.yields k met ψ) (plans.misfit j) = refl
around_both_typed χ make make' e (plans.yields k met ψ) (plans.yields j met' ξ) =
    let x = make' (formula_tree ψ) (formula_tree ξ) in
    ap₂ (yields (suc (k + j)))
    (ap (λ l. l ++ (x ∷ [])) (sym (map-append formula_tree (χ ∷ met) met')) ∙ met_more (χ ∷ met ++ met') (make ψ ξ) x (e ψ ξ))
    (sym (e ψ ξ))

rebuilt_typed : (h : OneSided) (ψ : Formula) → formula_tree (plans.rebuilt h ψ) ≡ rebuilt h (formula_tree ψ)
rebuilt_typed skip ψ = refl
rebuilt_typed (skol s) ψ = refl
rebuilt_typed recnn ψ = refl

pub turned_is_typed : (arity : ℕ → Option ℕ) (n : ℕ) (p : Plan) (φ : Formula) → turned arity n (plan_tree p) (formula_tree φ) ≡ in_trees (walk arity n p φ)
turned_is_typed arity n id φ = refl
turned_is_typed arity n (step h p) φ =
    let t = λ (x : Tree). around (formula_tree φ) (rebuilt h) (turned arity (inner_scope h n) (plan_tree p) x) in
    ap (λ o. if_some o t) (sym (taken_typed arity n h φ))
    ∙ if_typed formula_tree (inner arity n h φ) t (λ ψ. plans.around φ (plans.rebuilt h) (walk arity (inner_scope h n) p ψ))
    (λ ψ. ap (around (formula_tree φ) (rebuilt h)) (turned_is_typed arity (inner_scope h n) p ψ) ∙ around_typed φ (plans.rebuilt h) (rebuilt h) (rebuilt_typed h) (walk arity (inner_scope h n) p ψ))
turned_is_typed arity n (fork h p q) φ =
    let make = binary (trees.connect (rejoined h)) in
    let t = λ (c : Tree × Tree). around_both (formula_tree φ) make (turned arity n (plan_tree p) c.0) (turned arity n (plan_tree q) c.1) in
    ap (λ o. if_some o t) (sym (taken_both_typed h φ))
    ∙ if_typed pair_trees (two_inner h φ) t (λ c. plans.around_both φ (connect (rejoined h)) (walk arity n p c.0) (walk arity n q c.1))
    (λ c. ap₂ (around_both (formula_tree φ) make) (turned_is_typed arity n p c.0) (turned_is_typed arity n q c.1)
    ∙ around_both_typed φ (connect (rejoined h)) make (λ ψ ξ. refl) (walk arity n p c.0) (walk arity n q c.1))

-- ---- what is kept of the formulas met

pub parts_of_met : (met : List Formula) → parts_of_trees (map formula_tree met) ≡ parts_of_each met
parts_of_met [] = refl
parts_of_met (φ ∷ met) = ap (λ l. parts (formula_tree φ) ++ l) (parts_of_met met)
