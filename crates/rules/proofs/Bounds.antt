-- What is read off two bounds is what the fact of their sum states.
use Rattle.std.proofs.Common.{◌≡◌, Bool, true, false, cond, ◌&&◌, ℤ, Some, None, Option, sym, refl, ap, ◌∙◌, subst, ap₂, arith, inl, inr}
use Rattle.std.proofs.lemmas.Bool.{cases_Bool, and_parts, cond-true, cond-false}
use Rattle.logic.specs.Syntax.{Number, Formula, lit, add, minus, measure, equal, at_most, implies, leq, same}
use Rattle.logic.specs.Syntax as syntax
use Rattle.logic.specs.Tree.{Tree, Unary, leaf, unary, binary, number_tree, formula_tree, foralls, literals_pass}
use Rattle.logic.specs.Terms.{of_number}
use Rattle.logic.specs.Arithmetic.{Arithmetic}
use Rattle.logic.specs.Facts.{Stated, misshapen, unadmitted, formula, of_literal, state, pair, first, second, lower, upper, are_bounds}
use Rattle.logic.proofs.RulesAre.{same_true, same_refl}
use Rattle.logic.proofs.Trees.{same_tree_true, same_tree_refl, tree_injective}
use Rattle.model.specs.Refusal.{refused}
use Rattle.model.specs.Session.{stated}
use Rattle.arithmetic.specs.Literals.{literal_sum}
use Rattle.rules.specs.declared.refusal.Reason.{Reason}
use Rattle.rules.specs.Refusals.{refusal}
use Rattle.rules.specs.Shapes.{Added, Bounded, bound, no_bound, bounded, adds, refuses, is_minus, adds_admitted, adds_bounds, added}
use Rattle.rules.specs.Stating.{pair_tree}
use Rattle.rules.proofs.Literals.{sum_admitted, sum_unadmitted}
use Rattle.rules.proofs.TypedLimits.{number_foralls}

same_reason : (d e : Reason) → refuses d ≡ refuses e → d ≡ e
same_reason d e h = cc

-- ---- a formula that is a bound

record Bounds (φ : Formula) (a b : Tree) (n : ℤ) : Type 0 where
  left : Number
  right : Number
  formula_is : φ ≡ leq (add left right) (lit n)
  left_is : number_tree left ≡ a
  right_is : number_tree right ≡ b

limit_typed : (x y u : Number) (a b : Tree) (n : ℤ) → bounded (formula_tree (leq (add x y) u)) ≡ bound a b n → Bounds (leq (add x y) u) a b n
limit_typed x y (lit m) a b n h = record { left = x; right = y; formula_is = cc; left_is = cc; right_is = cc }
limit_typed x y (add v w) a b n h = absurd cc
limit_typed x y (minus v) a b n h = absurd cc
limit_typed x y (measure s l) a b n h = absurd cc

relation_typed : (t u : Number) (a b : Tree) (n : ℤ) → bounded (formula_tree (leq t u)) ≡ bound a b n → Bounds (leq t u) a b n
relation_typed (lit m) u a b n h = absurd cc
relation_typed (add x y) u a b n h = limit_typed x y u a b n h
relation_typed (minus x) u a b n h = absurd cc
relation_typed (measure s l) u a b n h = absurd cc

bound_typed : (φ : Formula) (a b : Tree) (n : ℤ) → bounded (formula_tree φ) ≡ bound a b n → Bounds φ a b n
bound_typed syntax.falsity a b n h = absurd cc
bound_typed (syntax.connect c φ ψ) a b n h = absurd cc
bound_typed (syntax.neg φ) a b n h = absurd cc
bound_typed (syntax.eq_things t u) a b n h = absurd cc
bound_typed (syntax.relate equal t u) a b n h = absurd cc
bound_typed (syntax.relate at_most t u) a b n h = relation_typed t u a b n h
bound_typed (syntax.atom s l) a b n h = absurd cc
bound_typed (syntax.forall φ) a b n h = absurd cc

minus_is : (t a : Tree) → is_minus t a ≡ true → t ≡ unary Unary.minus a
minus_is (leaf x) a h = absurd cc
minus_is (unary (Unary.application k s) t) a h = absurd cc
minus_is (unary Unary.minus t) a h = ap (unary Unary.minus) (same_tree_true t a h)
minus_is (unary Unary.neg t) a h = absurd cc
minus_is (unary Unary.forall t) a h = absurd cc
minus_is (unary (Unary.step s) t) a h = absurd cc
minus_is (unary Unary.eqrefl t) a h = absurd cc
minus_is (unary (Unary.from r) t) a h = absurd cc
minus_is (binary g t u) a h = absurd cc

number_injective : (a b : Number) → number_tree a ≡ number_tree b → a ≡ b
number_injective a b e = let h = tree_injective (of_number a) (of_number b) e in cc

-- ---- what the fact states

unless_literals : (u : Number) (f : ℤ → Stated) → ((n : ℤ) → u ≡ lit n → f n ≡ misshapen) → of_literal u f ≡ misshapen
unless_literals (lit n) f h = h n refl
unless_literals (add a b) f h = refl
unless_literals (minus a) f h = refl
unless_literals (measure s l) f h = refl

module _ (A : Arithmetic) where
  -- the sum of a + b ≤ m and -a + c ≤ n
  abbrev sum_formula : Number → Number → Number → ℤ → ℤ → Formula
  sum_formula a b c m n = implies (leq (add a b) (lit m)) (implies (leq (add (minus a) c) (lit n)) (leq (add b c) (lit (A.sum m n))))

  bounds_state : (a b c : Number) (m n : ℤ) → A.carries ≡ true
      → state A (pair (leq (add a b) (lit m)) (leq (add (minus a) c) (lit n))) ≡ cond (A.admits (A.sum m n)) (formula (sum_formula a b c m n)) unadmitted
  bounds_state a b c m n carries =
      cond-true A.carries _ _ carries
      ∙ cond-true (are_bounds (leq (add a b) (lit m)) (leq (add (minus a) c) (lit n)) m n) _ _ (ap₂ ◌&&◌ (same_refl (leq (add a b) (lit m))) (same_refl (leq (add (minus a) c) (lit n))))

  -- it has no `forall`
  sum_flat : (a b c : Number) (m n : ℤ) → foralls (formula_tree (sum_formula a b c m n)) ≡ 0
  sum_flat a b c m n = omega (arith, number_foralls a, number_foralls b, number_foralls c)

  -- two bounds that fit are not refused as unfounded
  fitting : (a b c : Number) (m n : ℤ) → adds_bounds A (bounded (formula_tree (leq (add a b) (lit m)))) (bounded (formula_tree (leq (add (minus a) c) (lit n)))) ≡ adds_admitted (number_tree b) (number_tree c) (literal_sum A m n)
  fitting a b c m n = cond-true _ _ _ (same_tree_refl (number_tree a))

  admitted_or_not : (b c : Tree) (o : Option ℤ) → adds_admitted b c o ≡ refuses Reason.Unfounded → ⊥
  admitted_or_not b c None h = absurd cc
  admitted_or_not b c (Some n) h = absurd cc

  module _ (φ ψ : Formula) (carries : A.carries ≡ true) where
    not_bounds : adds_bounds A (bounded (formula_tree φ)) (bounded (formula_tree ψ)) ≡ refuses Reason.Unfounded → (m n : ℤ) (b : Bool) → are_bounds φ ψ m n ≡ b → b ≡ false
    not_bounds h m n false e = refl
    not_bounds h m n true e =
        let a = first (lower φ) in
        let p = and_parts (same φ (leq (add a (second (lower φ))) (lit m))) (same ψ (leq (add (minus a) (second (lower ψ))) (lit n))) e in
        absurd (admitted_or_not _ _ (literal_sum A m n)
        (sym (fitting a (second (lower φ)) (second (lower ψ)) m n)
        ∙ sym (ap₂ (λ x y. adds_bounds A (bounded (formula_tree x)) (bounded (formula_tree y))) (same_true _ _ p.0) (same_true _ _ p.1)) ∙ h))

    unfounded_states : adds_bounds A (bounded (formula_tree φ)) (bounded (formula_tree ψ)) ≡ refuses Reason.Unfounded → state A (pair φ ψ) ≡ misshapen
    unfounded_states h =
        cond-true A.carries _ _ carries
        ∙ unless_literals (upper φ) _ (λ m em. unless_literals (upper ψ) _ (λ n en. cond-false (are_bounds φ ψ m n) _ _ (not_bounds h m n (are_bounds φ ψ m n) refl)))

    -- two bounds that fit
    record Fit (a b z c : Tree) (m n : ℤ) : Type 0 where
      summand : Number
      left : Number
      right : Number
      premise_is : φ ≡ leq (add summand left) (lit m)
      other_is : ψ ≡ leq (add (minus summand) right) (lit n)
      left_is : number_tree left ≡ b
      right_is : number_tree right ≡ c

    fits : (a b z c : Tree) (m n : ℤ) → bounded (formula_tree φ) ≡ bound a b m → bounded (formula_tree ψ) ≡ bound z c n → is_minus z a ≡ true → Fit a b z c m n
    fits a b z c m n x y h =
        let p = bound_typed φ a b m x in
        let q = bound_typed ψ z c n y in
        let e : q.left ≡ minus p.left = number_injective q.left (minus p.left) (q.left_is ∙ minus_is z a h ∙ ap (unary Unary.minus) (sym p.left_is)) in
        record {
          summand = p.left;
          left = p.right;
          right = q.right;
          premise_is = p.formula_is;
          other_is = q.formula_is ∙ ap (λ v. leq (add v q.right) (lit n)) e;
          left_is = p.right_is;
          right_is = q.right_is;
        }

    module _ (pass : literals_pass A.admits (formula_tree φ) ≡ true) (pass' : literals_pass A.admits (formula_tree ψ) ≡ true) where
      fit_state : (a b z c : Tree) (m n : ℤ) (f : Fit a b z c m n) → state A (pair φ ψ) ≡ cond (A.admits (A.sum m n)) (formula (sum_formula f.summand f.left f.right m n)) unadmitted
      fit_state a b z c m n f = ap₂ (λ x y. state A (pair x y)) f.premise_is f.other_is ∙ bounds_state f.summand f.left f.right m n carries

      premise_admitted : (a b z c : Tree) (m n : ℤ) → Fit a b z c m n → A.admits m ≡ true
      premise_admitted a b z c m n f =
          (and_parts (literals_pass A.admits (number_tree (add f.summand f.left))) (A.admits m) (subst (λ x. literals_pass A.admits (formula_tree x) ≡ true) f.premise_is pass)).1

      other_admitted : (a b z c : Tree) (m n : ℤ) → Fit a b z c m n → A.admits n ≡ true
      other_admitted a b z c m n f =
          (and_parts (literals_pass A.admits (number_tree (add (minus f.summand) f.right))) (A.admits n) (subst (λ x. literals_pass A.admits (formula_tree x) ≡ true) f.other_is pass')).1

      unadmitted_states : (a b z c : Tree) (m n : ℤ) → Fit a b z c m n → None ≡ literal_sum A m n → state A (pair φ ψ) ≡ unadmitted
      unadmitted_states a b z c m n f h =
          fit_state a b z c m n f ∙ cond-false _ _ _ (sum_unadmitted A m n (premise_admitted a b z c m n f) (other_admitted a b z c m n f) h)

      -- what is read gives the formula that the fact states
      record StatesSum (b c : Tree) (k : ℤ) : Type 0 where
        pub sum_states : Formula
        pub stated_as : state A (pair φ ψ) ≡ formula sum_states
        pub flat : foralls (formula_tree sum_states) ≡ 0
        pub tree_is : formula_tree sum_states ≡ pair_tree (formula_tree φ) (formula_tree ψ) b c k

      admitted_states : (a b z c : Tree) (m n k : ℤ) → Fit a b z c m n → Some k ≡ literal_sum A m n → StatesSum b c k
      admitted_states a b z c m n k f h =
          let s = sum_admitted A m n (premise_admitted a b z c m n f) (other_admitted a b z c m n f) k h in
          record {
            sum_states = sum_formula f.summand f.left f.right m n;
            stated_as = fit_state a b z c m n f ∙ cond-true _ _ _ s.0;
            flat = sum_flat f.summand f.left f.right m n;
            tree_is =
                ap₂ (λ p q. pair_tree (formula_tree p) (formula_tree q) (number_tree f.left) (number_tree f.right) (A.sum m n)) (sym f.premise_is) (sym f.other_is)
                ∙ ap₂ (λ p q. pair_tree (formula_tree φ) (formula_tree ψ) p q (A.sum m n)) f.left_is f.right_is ∙ ap (pair_tree (formula_tree φ) (formula_tree ψ) b c) (sym s.1);
          }

      abbrev RefusedBy : Reason → Type 0
      RefusedBy e = stated (state A (pair φ ψ)) ≡ refused (refusal e) 0

      -- ---- refusals, where sums are carried

      unfounded_refused : (e : Reason) → adds_bounds A (bounded (formula_tree φ)) (bounded (formula_tree ψ)) ≡ refuses Reason.Unfounded → refuses Reason.Unfounded ≡ refuses e → RefusedBy e
      unfounded_refused e h i = subst RefusedBy (same_reason _ _ i) (ap stated (unfounded_states h))

      admission_refused : (a b z c : Tree) (m n : ℤ) → Fit a b z c m n → (o : Option ℤ) → o ≡ literal_sum A m n → (e : Reason) → adds_admitted b c o ≡ refuses e → RefusedBy e
      admission_refused a b z c m n f None i e h = subst RefusedBy (same_reason _ _ h) (ap stated (unadmitted_states a b z c m n f i))
      admission_refused a b z c m n f (Some k) i e h = absurd cc

      refused_carried : (x y : Bounded) → bounded (formula_tree φ) ≡ x → bounded (formula_tree ψ) ≡ y → (e : Reason) → adds_bounds A x y ≡ refuses e → RefusedBy e
      refused_carried no_bound y ex ey e h = unfounded_refused e (ap₂ (adds_bounds A) ex ey) h
      refused_carried (bound a b m) no_bound ex ey e h = unfounded_refused e (ap₂ (adds_bounds A) ex ey) h
      refused_carried (bound a b m) (bound z c n) ex ey e h = elim (cases_Bool (is_minus z a)) [
        | inl t ↦ admission_refused a b z c m n (fits a b z c m n ex ey t) (literal_sum A m n) refl e (sym (cond-true (is_minus z a) _ _ t) ∙ h)
        | inr t ↦ let i = cond-false (is_minus z a) (adds_admitted b c (literal_sum A m n)) (refuses Reason.Unfounded) t in unfounded_refused e (ap₂ (adds_bounds A) ex ey ∙ i) (sym i ∙ h)
      ]

      -- ---- sums, where they are carried

      admission_states : (a b z c : Tree) (m n : ℤ) → Fit a b z c m n → (o : Option ℤ) → o ≡ literal_sum A m n → (p q : Tree) (k : ℤ) → adds_admitted b c o ≡ adds p q k → StatesSum p q k
      admission_states a b z c m n f None i p q k h = absurd cc
      admission_states a b z c m n f (Some j) i p q k h =
          let eb : b ≡ p = cc in
          let ec : c ≡ q = cc in
          let ek : Some k ≡ literal_sum A m n = cc in
          subst (λ t. StatesSum t q k) eb (subst (λ t. StatesSum b t k) ec (admitted_states a b z c m n k f ek))

      states_carried : (x y : Bounded) → bounded (formula_tree φ) ≡ x → bounded (formula_tree ψ) ≡ y → (p q : Tree) (k : ℤ) → adds_bounds A x y ≡ adds p q k → StatesSum p q k
      states_carried no_bound y ex ey p q k h = absurd cc
      states_carried (bound a b m) no_bound ex ey p q k h = absurd cc
      states_carried (bound a b m) (bound z c n) ex ey p q k h = elim (cases_Bool (is_minus z a)) [
        | inl t ↦ admission_states a b z c m n (fits a b z c m n ex ey t) (literal_sum A m n) refl p q k (sym (cond-true (is_minus z a) _ _ t) ∙ h)
        | inr t ↦ absurd (cc (sym h ∙ cond-false (is_minus z a) (adds_admitted b c (literal_sum A m n)) (refuses Reason.Unfounded) t))
      ]

-- ---- what is read of two bounds whose literals are admitted

module _ (A : Arithmetic) (φ ψ : Formula) {s t : Tree} (e : s ≡ formula_tree φ) (f : t ≡ formula_tree ψ) where
  module _ (pass : literals_pass A.admits (formula_tree φ) ≡ true) (pass' : literals_pass A.admits (formula_tree ψ) ≡ true) where
    read : {r : Added} → r ≡ added A (bounded s) (bounded t) → r ≡ added A (bounded (formula_tree φ)) (bounded (formula_tree ψ))
    read {r} h = subst (λ x. r ≡ added A (bounded (formula_tree φ)) (bounded x)) f (subst (λ x. r ≡ added A (bounded x) (bounded t)) e h)

    -- a refusal is the fact's
    pub pair_refused : (d : Reason) → refuses d ≡ added A (bounded s) (bounded t) → stated (state A (pair φ ψ)) ≡ refused (refusal d) 0
    pair_refused d h = elim (cases_Bool A.carries) [
      | inl c ↦ refused_carried A φ ψ c pass pass' (bounded (formula_tree φ)) (bounded (formula_tree ψ)) refl refl d (sym (read h ∙ cond-true A.carries _ _ c))
      | inr c ↦
          let i = cond-false A.carries (adds_bounds A (bounded (formula_tree φ)) (bounded (formula_tree ψ))) (refuses Reason.Uncarried) c in
          subst (λ x. stated (state A (pair φ ψ)) ≡ refused (refusal x) 0) (same_reason _ _ (sym (read h ∙ i))) (ap stated (cond-false A.carries _ _ c))
    ]

    -- and a sum the formula that it states
    pub pair_states : (b c : Tree) (k : ℤ) → adds b c k ≡ added A (bounded s) (bounded t) → (χ : Formula) × (state A (pair φ ψ) ≡ formula χ) × (foralls (formula_tree χ) ≡ 0) × (formula_tree χ ≡ pair_tree (formula_tree φ) (formula_tree ψ) b c k)
    pair_states b c k h = elim (cases_Bool A.carries) [
      | inl y ↦
          let z = states_carried A φ ψ y pass pass' (bounded (formula_tree φ)) (bounded (formula_tree ψ)) refl refl b c k (sym (read h ∙ cond-true A.carries _ _ y)) in
          (z.sum_states, z.stated_as, z.flat, z.tree_is)
      | inr y ↦ absurd (cc (read h ∙ cond-false A.carries (adds_bounds A (bounded (formula_tree φ)) (bounded (formula_tree ψ))) (refuses Reason.Uncarried) y))
    ]
