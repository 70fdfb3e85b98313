-- A tree that is read as a term is that term's tree and of its class, and a head takes operands of the classes that make it a term.
use Rattle.std.proofs.Common.{◌≡◌, Bool, true, false, ◌&&◌, ◌||◌, sym, refl, ap, ◌∙◌, ap₂}
use mathlib.Core.Option.{Option, none, some}
use Rattle.logic.specs.Syntax as syntax
use Rattle.logic.specs.Tree.{Unary, Binary, Tree, unary, binary, thing_tree, things_tree, number_tree, formula_tree, plan_tree, proof_tree}
use Rattle.logic.specs.Rules.{◌>>=◌}
use Rattle.logic.specs.Terms.{Term, of_thing, of_things, of_number, of_formula, of_plan, of_proof, term_tree, as_thing, as_things, as_number, as_formula, as_plan, as_proof}
use Rattle.logic.specs.Terms.{one, two, or_else, unary_term, binary_term, tree_term}
use Rattle.logic.proofs.TermsBack as back
use Rattle.logic.proofs.TermsBack.{tree_of_term}
use Rattle.terms.specs.declared.records.Class.{Class}
use Rattle.terms.specs.Classes.{tree_class, term_class}
use Rattle.terms.proofs.ClassIs.{class_is}
use Rattle.rules.specs.Forms.{is_thing}
use Rattle.rules.specs.Sorts.{is_list, is_number, is_formula, is_plan, is_proof, takes_one, takes_two}

-- ---- the tree of a term, by its class

pub thing_of : (t : Tree) (u : syntax.Thing) → tree_term t ≡ some (of_thing u) → t ≡ thing_tree u
thing_of t u e = sym (tree_of_term t (of_thing u) e)

pub things_of : (t : Tree) (l : syntax.Things) → tree_term t ≡ some (of_things l) → t ≡ things_tree l
things_of t l e = sym (tree_of_term t (of_things l) e)

pub number_of : (t : Tree) (a : syntax.Number) → tree_term t ≡ some (of_number a) → t ≡ number_tree a
number_of t a e = sym (tree_of_term t (of_number a) e)

pub formula_of : (t : Tree) (φ : syntax.Formula) → tree_term t ≡ some (of_formula φ) → t ≡ formula_tree φ
formula_of t φ e = sym (tree_of_term t (of_formula φ) e)

pub plan_of : (t : Tree) (p : syntax.Plan) → tree_term t ≡ some (of_plan p) → t ≡ plan_tree p
plan_of t p e = sym (tree_of_term t (of_plan p) e)

pub proof_of : (t : Tree) (P : syntax.Proof) → tree_term t ≡ some (of_proof P) → t ≡ proof_tree P
proof_of t P e = sym (tree_of_term t (of_proof P) e)

pub class_of_term : (t : Tree) (x : Term) → tree_term t ≡ some x → tree_class t ≡ term_class x
class_of_term t x e = sym (ap tree_class (tree_of_term t x e)) ∙ class_is x

-- ---- a test of the class passes exactly if the term is of it

abbrev is_some : {X : Type 0} → Option X → Bool
is_some none = false
is_some (some x) = true

something : {X : Type 0} (o : Option X) → is_some o ≡ true → (x : X) × (o ≡ some x)
something none e = absurd cc
something (some x) e = (x, refl)

nothing : {X : Type 0} (o : Option X) → is_some o ≡ false → o ≡ none
nothing none e = refl
nothing (some x) e = absurd cc

tests_thing : (x : Term) → is_thing (term_class x) ≡ is_some (as_thing x)
tests_thing (of_thing t) = refl
tests_thing (of_things l) = refl
tests_thing (of_number a) = refl
tests_thing (of_formula φ) = refl
tests_thing (of_plan p) = refl
tests_thing (of_proof P) = refl

tests_list : (x : Term) → is_list (term_class x) ≡ is_some (as_things x)
tests_list (of_thing t) = refl
tests_list (of_things l) = refl
tests_list (of_number a) = refl
tests_list (of_formula φ) = refl
tests_list (of_plan p) = refl
tests_list (of_proof P) = refl

tests_number : (x : Term) → is_number (term_class x) ≡ is_some (as_number x)
tests_number (of_thing t) = refl
tests_number (of_things l) = refl
tests_number (of_number a) = refl
tests_number (of_formula φ) = refl
tests_number (of_plan p) = refl
tests_number (of_proof P) = refl

tests_formula : (x : Term) → is_formula (term_class x) ≡ is_some (as_formula x)
tests_formula (of_thing t) = refl
tests_formula (of_things l) = refl
tests_formula (of_number a) = refl
tests_formula (of_formula φ) = refl
tests_formula (of_plan p) = refl
tests_formula (of_proof P) = refl

tests_plan : (x : Term) → is_plan (term_class x) ≡ is_some (as_plan x)
tests_plan (of_thing t) = refl
tests_plan (of_things l) = refl
tests_plan (of_number a) = refl
tests_plan (of_formula φ) = refl
tests_plan (of_plan p) = refl
tests_plan (of_proof P) = refl

tests_proof : (x : Term) → is_proof (term_class x) ≡ is_some (as_proof x)
tests_proof (of_thing t) = refl
tests_proof (of_things l) = refl
tests_proof (of_number a) = refl
tests_proof (of_formula φ) = refl
tests_proof (of_plan p) = refl
tests_proof (of_proof P) = refl

-- ---- a head makes a term exactly if it takes the operands' classes

made_of_one : {X : Type 0} (b : Bool) (o : Option X) (f : X → Term) → b ≡ is_some o → b ≡ is_some (one o f)
unfolding ◌>>=◌
made_of_one b none f e = e
made_of_one b (some x) f e = e

made_of_two : {X Y : Type 0} (b c : Bool) (o : Option X) (p : Option Y) (f : X → Y → Term) → b ≡ is_some o → c ≡ is_some p → (b && c) ≡ is_some (two o p f)
unfolding ◌>>=◌
made_of_two b c none p f e d = ap (λ x. x && c) e
made_of_two b c (some x) none f e d = ap₂ (λ x y. x && y) e d
made_of_two b c (some x) (some y) f e d = ap₂ (λ x y. x && y) e d

made_either : (b c : Bool) (o p : Option Term) → b ≡ is_some o → c ≡ is_some p → (b || c) ≡ is_some (or_else o p)
unfolding or_else
made_either b c none p e d = ap₂ (λ x y. x || y) e d
made_either b c (some t) p e d = ap (λ x. x || c) e

takes_one_right : (h : Unary) (x : Term) → takes_one h (term_class x) ≡ is_some (unary_term h x)
takes_one_right (Unary.application k s) x = made_of_one _ (as_things x) _ (tests_list x)
takes_one_right Unary.minus x = made_of_one _ (as_number x) _ (tests_number x)
takes_one_right Unary.neg x = made_of_one _ (as_formula x) _ (tests_formula x)
takes_one_right Unary.forall x = made_of_one _ (as_formula x) _ (tests_formula x)
takes_one_right (Unary.step h) x = made_of_one _ (as_plan x) _ (tests_plan x)
takes_one_right Unary.eqrefl x = made_either _ _ _ _ (made_of_one _ (as_thing x) _ (tests_thing x)) (made_of_one _ (as_number x) _ (tests_number x))
takes_one_right (Unary.from r) x = made_of_one _ (as_proof x) _ (tests_proof x)

takes_two_right : (h : Binary) (x y : Term) → takes_two h (term_class x) (term_class y) ≡ is_some (binary_term h x y)
takes_two_right Binary.cons x y = made_of_two _ _ (as_thing x) (as_things y) _ (tests_thing x) (tests_list y)
takes_two_right Binary.add x y = made_of_two _ _ (as_number x) (as_number y) _ (tests_number x) (tests_number y)
takes_two_right (Binary.connect c) x y = made_of_two _ _ (as_formula x) (as_formula y) _ (tests_formula x) (tests_formula y)
takes_two_right Binary.eq x y =
    made_either _ _ _ _ (made_of_two _ _ (as_thing x) (as_thing y) _ (tests_thing x) (tests_thing y)) (made_of_two _ _ (as_number x) (as_number y) _ (tests_number x) (tests_number y))
takes_two_right Binary.leq x y = made_of_two _ _ (as_number x) (as_number y) _ (tests_number x) (tests_number y)
takes_two_right (Binary.fork h) x y = made_of_two _ _ (as_plan x) (as_plan y) _ (tests_plan x) (tests_plan y)
takes_two_right Binary.assume x y = made_of_two _ _ (as_formula x) (as_proof y) _ (tests_formula x) (tests_proof y)
takes_two_right Binary.absurd x y = made_of_two _ _ (as_proof x) (as_formula y) _ (tests_proof x) (tests_formula y)
takes_two_right Binary.eqsub x y = made_of_two _ _ (as_proof x) (as_formula y) _ (tests_proof x) (tests_formula y)
takes_two_right Binary.inst x y = made_of_two _ _ (as_thing x) (as_proof y) _ (tests_thing x) (tests_proof y)
takes_two_right (Binary.from_both r) x y = made_of_two _ _ (as_proof x) (as_proof y) _ (tests_proof x) (tests_proof y)

-- what a test that passes exactly if there is a term tells
told : (b : Bool) (o : Option Term) → b ≡ is_some o → (b ≡ true → (y : Term) × (o ≡ some y)) × (b ≡ false → o ≡ none)
told b o e = (λ h. something o (sym e ∙ h), λ h. nothing o (sym e ∙ h))

pub typed_unary : (h : Unary) (t : Tree) (x : Term) → tree_term t ≡ some x
    → (takes_one h (tree_class t) ≡ true → (y : Term) × (tree_term (unary h t) ≡ some y)) × (takes_one h (tree_class t) ≡ false → tree_term (unary h t) ≡ none)
unfolding ◌>>=◌
typed_unary h t x e =
    let made : tree_term (unary h t) ≡ unary_term h x = rw e in
    told _ _ (ap (takes_one h) (class_of_term t x e) ∙ takes_one_right h x ∙ sym (ap is_some made))

pub typed_binary : (h : Binary) (t u : Tree) (x y : Term) → tree_term t ≡ some x → tree_term u ≡ some y
    → (takes_two h (tree_class t) (tree_class u) ≡ true → (z : Term) × (tree_term (binary h t u) ≡ some z)) × (takes_two h (tree_class t) (tree_class u) ≡ false → tree_term (binary h t u) ≡ none)
unfolding ◌>>=◌
typed_binary h t u x y e d =
    let made : tree_term (binary h t u) ≡ binary_term h x y = rw (e, d) in
    told _ _ (ap₂ (takes_two h) (class_of_term t x e) (class_of_term u y d) ∙ takes_two_right h x y ∙ sym (ap is_some made))

-- ---- a term by a test of its tree's class

by_class : {X : Type 0} (test : Class → Bool) (read : Term → Option X) (of : X → Term) → ((x : Term) → test (term_class x) ≡ is_some (read x)) → ((x : Term) (a : X) → read x ≡ some a → x ≡ of a)
    → (t : Tree) (x : Term) → tree_term t ≡ some x
    → (test (tree_class t) ≡ true → (a : X) × (read x ≡ some a) × (t ≡ term_tree (of a))) × (test (tree_class t) ≡ false → read x ≡ none)
by_class test read of tests shows t x e = (
  λ h.
      let s = something (read x) (sym (tests x) ∙ sym (ap test (class_of_term t x e)) ∙ h) in
      (s.0, s.1, sym (tree_of_term t x e) ∙ ap term_tree (shows x s.0 s.1)),
  λ h. nothing (read x) (sym (tests x) ∙ sym (ap test (class_of_term t x e)) ∙ h),
)

pub thing_by_class : (t : Tree) (x : Term) → tree_term t ≡ some x
    → (is_thing (tree_class t) ≡ true → (u : syntax.Thing) × (as_thing x ≡ some u) × (t ≡ thing_tree u)) × (is_thing (tree_class t) ≡ false → as_thing x ≡ none)
thing_by_class = by_class is_thing as_thing of_thing tests_thing back.is_thing

pub list_by_class : (t : Tree) (x : Term) → tree_term t ≡ some x
    → (is_list (tree_class t) ≡ true → (l : syntax.Things) × (as_things x ≡ some l) × (t ≡ things_tree l)) × (is_list (tree_class t) ≡ false → as_things x ≡ none)
list_by_class = by_class is_list as_things of_things tests_list back.is_list

pub number_by_class : (t : Tree) (x : Term) → tree_term t ≡ some x
    → (is_number (tree_class t) ≡ true → (a : syntax.Number) × (as_number x ≡ some a) × (t ≡ number_tree a)) × (is_number (tree_class t) ≡ false → as_number x ≡ none)
number_by_class = by_class is_number as_number of_number tests_number back.is_number

pub formula_by_class : (t : Tree) (x : Term) → tree_term t ≡ some x
    → (is_formula (tree_class t) ≡ true → (φ : syntax.Formula) × (as_formula x ≡ some φ) × (t ≡ formula_tree φ)) × (is_formula (tree_class t) ≡ false → as_formula x ≡ none)
formula_by_class = by_class is_formula as_formula of_formula tests_formula back.is_formula

pub plan_by_class : (t : Tree) (x : Term) → tree_term t ≡ some x
    → (is_plan (tree_class t) ≡ true → (p : syntax.Plan) × (as_plan x ≡ some p) × (t ≡ plan_tree p)) × (is_plan (tree_class t) ≡ false → as_plan x ≡ none)
plan_by_class = by_class is_plan as_plan of_plan tests_plan back.is_plan

pub proof_by_class : (t : Tree) (x : Term) → tree_term t ≡ some x
    → (is_proof (tree_class t) ≡ true → (P : syntax.Proof) × (as_proof x ≡ some P) × (t ≡ proof_tree P)) × (is_proof (tree_class t) ≡ false → as_proof x ≡ none)
proof_by_class = by_class is_proof as_proof of_proof tests_proof back.is_proof
