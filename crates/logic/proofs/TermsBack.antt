-- What a class of terms shows, and that a tree read as a term is the term's tree.
use Rattle.std.proofs.Common.{◌≡◌, ℕ, ◌⊎◌, sym, refl, ap, ◌∙◌, ap₂, inl, inr}
use mathlib.Core.Option.{Option, none, some, none-ne-some, some-injective}
use Rattle.logic.specs.Syntax.{Thing, Things, Number, Formula, Plan, Proof}
use Rattle.logic.specs.Tree.{Kind, Leaf, Unary, Binary, Tree, leaf, unary, binary, things_tree}
use Rattle.logic.specs.Terms.{Term, of_thing, of_things, of_number, of_formula, of_plan, of_proof, term_tree, as_thing, as_things, as_number, as_formula, as_plan, as_proof}
use Rattle.logic.specs.Terms.{one, two, or_else, leaf_term, applied, unary_term, binary_term, tree_term}
use Rattle.logic.proofs.RulesAre.{bound}

pub is_thing : (t : Term) (x : Thing) → as_thing t ≡ some x → t ≡ of_thing x
is_thing (of_thing t) x h = ap of_thing (some-injective t x h)
is_thing t x h = absurd (none-ne-some x h)

pub is_list : (t : Term) (x : Things) → as_things t ≡ some x → t ≡ of_things x
is_list (of_things l) x h = ap of_things (some-injective l x h)
is_list t x h = absurd (none-ne-some x h)

pub is_number : (t : Term) (x : Number) → as_number t ≡ some x → t ≡ of_number x
is_number (of_number a) x h = ap of_number (some-injective a x h)
is_number t x h = absurd (none-ne-some x h)

pub is_formula : (t : Term) (x : Formula) → as_formula t ≡ some x → t ≡ of_formula x
is_formula (of_formula φ) x h = ap of_formula (some-injective φ x h)
is_formula t x h = absurd (none-ne-some x h)

pub is_plan : (t : Term) (x : Plan) → as_plan t ≡ some x → t ≡ of_plan x
is_plan (of_plan p) x h = ap of_plan (some-injective p x h)
is_plan t x h = absurd (none-ne-some x h)

pub is_proof : (t : Term) (x : Proof) → as_proof t ≡ some x → t ≡ of_proof x
is_proof (of_proof P) x h = ap of_proof (some-injective P x h)
is_proof t x h = absurd (none-ne-some x h)

-- ---- the tree of what a head makes

-- a class of terms: what its test shows
abbrev pub Shows : {X : Type 0} → (Term → Option X) → (X → Term) → Type 0
Shows {X} class of = (t : Term) (x : X) → class t ≡ some x → t ≡ of x

one_back : {X : Type 0} (class : Term → Option X) (of : X → Term) → Shows class of → (f : X → Term) (head : Tree → Tree) → ((x : X) → term_tree (f x) ≡ head (term_tree (of x)))
    → (t v : Term) → one (class t) f ≡ some v → term_tree v ≡ head (term_tree t)
one_back class of shows f head tree t v h =
    let b = bound (class t) _ v h in
    sym (ap term_tree (some-injective _ _ b.2)) ∙ tree b.0 ∙ sym (ap (λ u. head (term_tree u)) (shows t b.0 b.1))

two_back : {X Y : Type 0} (class : Term → Option X) (of : X → Term) → Shows class of → (class' : Term → Option Y) (of' : Y → Term) → Shows class' of'
    → (f : X → Y → Term) (head : Tree → Tree → Tree) → ((x : X) (y : Y) → term_tree (f x y) ≡ head (term_tree (of x)) (term_tree (of' y)))
    → (t u v : Term) → two (class t) (class' u) f ≡ some v → term_tree v ≡ head (term_tree t) (term_tree u)
two_back class of shows class' of' shows' f head tree t u v h =
    let b = bound (class t) _ v h in
    let c = bound (class' u) _ v b.2 in
    sym (ap term_tree (some-injective _ _ c.2)) ∙ tree b.0 c.0
    ∙ sym (ap₂ (λ x y. head (term_tree x) (term_tree y)) (shows t b.0 b.1) (shows' u c.0 c.1))

either : (o p : Option Term) (v : Term) → or_else o p ≡ some v → (o ≡ some v) ⊎ (p ≡ some v)
unfolding or_else
either none p v h = inr h
either (some t) p v h = inl h

either_back : (o p : Option Term) (v : Term) (u : Tree) → (o ≡ some v → term_tree v ≡ u) → (p ≡ some v → term_tree v ≡ u) → or_else o p ≡ some v → term_tree v ≡ u
either_back o p v u f g h = elim (either o p v h) [ inl e ↦ f e | inr e ↦ g e ]

leaf_back : (x : Leaf) → term_tree (leaf_term x) ≡ leaf x
leaf_back (Leaf.var i) = refl
leaf_back x = refl

applied_back : (k : Kind) (s : ℕ) (l : Things) → term_tree (applied k s l) ≡ unary (Unary.application k s) (things_tree l)
applied_back Kind.thing s l = refl
applied_back Kind.number s l = refl
applied_back Kind.predicate s l = refl

unary_back : (h : Unary) (t v : Term) → unary_term h t ≡ some v → term_tree v ≡ unary h (term_tree t)
unary_back (Unary.application k s) t v e = one_back as_things of_things is_list (applied k s) (unary (Unary.application k s)) (applied_back k s) t v e
unary_back Unary.minus t v e = one_back as_number of_number is_number _ (unary Unary.minus) (λ x. refl) t v e
unary_back Unary.neg t v e = one_back as_formula of_formula is_formula _ (unary Unary.neg) (λ x. refl) t v e
unary_back Unary.forall t v e = one_back as_formula of_formula is_formula _ (unary Unary.forall) (λ x. refl) t v e
unary_back (Unary.step h) t v e = one_back as_plan of_plan is_plan _ (unary (Unary.step h)) (λ x. refl) t v e
unary_back Unary.eqrefl t v e =
    either_back _ _ v _ (one_back as_thing of_thing is_thing _ (unary Unary.eqrefl) (λ x. refl) t v) (one_back as_number of_number is_number _ (unary Unary.eqrefl) (λ x. refl) t v) e
unary_back (Unary.from r) t v e = one_back as_proof of_proof is_proof _ (unary (Unary.from r)) (λ x. refl) t v e

binary_back : (h : Binary) (t u v : Term) → binary_term h t u ≡ some v → term_tree v ≡ binary h (term_tree t) (term_tree u)
binary_back Binary.cons t u v e = two_back as_thing of_thing is_thing as_things of_things is_list _ (binary Binary.cons) (λ x y. refl) t u v e
binary_back Binary.add t u v e = two_back as_number of_number is_number as_number of_number is_number _ (binary Binary.add) (λ x y. refl) t u v e
binary_back (Binary.connect c) t u v e = two_back as_formula of_formula is_formula as_formula of_formula is_formula _ (binary (Binary.connect c)) (λ x y. refl) t u v e
binary_back Binary.eq t u v e =
    either_back _ _ v _ (two_back as_thing of_thing is_thing as_thing of_thing is_thing _ (binary Binary.eq) (λ x y. refl) t u v)
    (two_back as_number of_number is_number as_number of_number is_number _ (binary Binary.eq) (λ x y. refl) t u v) e
binary_back Binary.leq t u v e = two_back as_number of_number is_number as_number of_number is_number _ (binary Binary.leq) (λ x y. refl) t u v e
binary_back (Binary.fork h) t u v e = two_back as_plan of_plan is_plan as_plan of_plan is_plan _ (binary (Binary.fork h)) (λ x y. refl) t u v e
binary_back Binary.assume t u v e = two_back as_formula of_formula is_formula as_proof of_proof is_proof _ (binary Binary.assume) (λ x y. refl) t u v e
binary_back Binary.absurd t u v e = two_back as_proof of_proof is_proof as_formula of_formula is_formula _ (binary Binary.absurd) (λ x y. refl) t u v e
binary_back Binary.eqsub t u v e = two_back as_proof of_proof is_proof as_formula of_formula is_formula _ (binary Binary.eqsub) (λ x y. refl) t u v e
binary_back Binary.inst t u v e = two_back as_thing of_thing is_thing as_proof of_proof is_proof _ (binary Binary.inst) (λ x y. refl) t u v e
binary_back (Binary.from_both r) t u v e = two_back as_proof of_proof is_proof as_proof of_proof is_proof _ (binary (Binary.from_both r)) (λ x y. refl) t u v e

-- a tree that is read as a term is the term's tree
pub tree_of_term : (t : Tree) (x : Term) → tree_term t ≡ some x → term_tree x ≡ t
tree_of_term (leaf y) x e = sym (ap term_tree (some-injective _ _ e)) ∙ leaf_back y
tree_of_term (unary h t) x e =
    let b = bound (tree_term t) _ x e in
    unary_back h b.0 x b.2 ∙ ap (unary h) (tree_of_term t b.0 b.1)
tree_of_term (binary h t u) x e =
    let b = bound (tree_term t) _ x e in
    let c = bound (tree_term u) _ x b.2 in
    binary_back h b.0 c.0 x c.2 ∙ ap₂ (binary h) (tree_of_term t b.0 b.1) (tree_of_term u c.0 c.1)
