-- What a rule concludes of the trees of its premises is the tree of what it concludes of the premises.
use Rattle.std.proofs.Common.{◌≡◌, Bool, true, false, cond, sym, refl, ap, ◌∙◌, subst, inl, inr}
use mathlib.Core.Option.{none, some, map}
use Rattle.std.specs.Cmp.{both_ways}
use Rattle.logic.specs.Syntax.{Thing, Number, Formula, OnePremise, TwoPremises, falsity, neg, eq_things, implies, and, or, eq_numbers, same, same_thing, same_number}
use Rattle.logic.specs.Syntax.{nnpp, eqsymm, and1, and2, orimp, addneg, intro, elimnot, mp, eqtrans, negelim}
use Rattle.logic.specs.Tree as trees
use Rattle.logic.specs.Tree.{Tree, binary, same_tree, thing_tree, number_tree, formula_tree}
use Rattle.logic.specs.Rules as rules
use Rattle.logic.specs.Rules.{when, left, right, conclude_from, conclude_both}
use Rattle.logic.specs.Terms.{of_thing, of_number, of_formula}
use Rattle.logic.proofs.RulesAre.{same_true, same_refl, same_thing_true, same_thing_refl, same_number_true, same_number_refl, fits}
use Rattle.logic.proofs.Trees.{same_tree_true, same_tree_refl, tree_injective}
use Rattle.rules.specs.Forms.{form, is_falsity, denied, negated, detached, from_one, from_two, absurdity}
use Rattle.rules.proofs.TypedShapes.{read_alike, denial_or_not, negation_or_not, conjunction_or_not, disjunction_or_not, implication_or_not, falsity_or_not, equation_or_not, no_denial, no_negation, no_conjunction, no_disjunction, no_equation}

-- ---- sameness of terms is sameness of trees

pub same_formula_tree : (φ ψ : Formula) → same_tree (formula_tree φ) (formula_tree ψ) ≡ same φ ψ
same_formula_tree φ ψ =
    both_ways _ _
    (λ e. let p = tree_injective (of_formula φ) (of_formula ψ) (same_tree_true _ _ e) in let q : φ ≡ ψ = cc in subst (λ x. same φ x ≡ true) q (same_refl φ))
    (λ e. subst (λ x. same_tree (formula_tree φ) (formula_tree x) ≡ true) (same_true φ ψ e) (same_tree_refl (formula_tree φ)))

-- a test that nothing but equality passes
pub fails : {A : Type 0} (φ ψ : Formula) (x : A) → (φ ≡ ψ → ⊥) → when (same φ ψ) x ≡ none
unfolding when
fails φ ψ x differs = let e : same φ ψ ≡ false = both_ways _ _ (λ e. absurd (differs (same_true φ ψ e))) (λ e. absurd cc) in rw e

-- ---- rules of one premise

-- the rule is the same on the formula and on its tree
abbrev SameFrom : OnePremise → Formula → Type 0
SameFrom r χ = map formula_tree (conclude_from r χ) ≡ from_one r (formula_tree χ)

doubly_denied : (χ : Formula) → SameFrom nnpp (implies χ falsity)
doubly_denied χ = elim (denial_or_not χ) [
  | inl d ↦ subst (λ x. SameFrom nnpp (implies x falsity)) (sym d.1) (ap (map formula_tree) (fits (implies (implies d.0 falsity) falsity) d.0))
  | inr n ↦ ap (map formula_tree) (fails (implies χ falsity) (implies (implies (left χ) falsity) falsity) (left χ) (λ e. n.0 (left χ) cc)) ∙ sym n.1
]

by_nnpp : (χ : Formula) → SameFrom nnpp χ
by_nnpp χ = elim (denial_or_not χ) [
  | inl d ↦ subst (SameFrom nnpp) (sym d.1) (doubly_denied d.0)
  | inr n ↦ ap (map formula_tree) (fails χ (implies (implies (left (left χ)) falsity) falsity) (left (left χ)) (n.0 (implies (left (left χ)) falsity))) ∙ sym (ap denied (no_denial _ n.1).0)
]

negation_denied : (χ : Formula) → SameFrom elimnot (implies χ falsity)
negation_denied χ = elim (negation_or_not χ) [
  | inl d ↦ subst (λ x. SameFrom elimnot (implies x falsity)) (sym d.1) (ap (map formula_tree) (fits (implies (neg d.0) falsity) d.0))
  | inr n ↦ ap (map formula_tree) (fails (implies χ falsity) (implies (neg (left χ)) falsity) (left χ) (λ e. n.0 (left χ) cc)) ∙ sym n.1
]

by_elimnot : (χ : Formula) → SameFrom elimnot χ
by_elimnot χ = elim (denial_or_not χ) [
  | inl d ↦ subst (SameFrom elimnot) (sym d.1) (negation_denied d.0)
  | inr n ↦ ap (map formula_tree) (fails χ (implies (neg (left (left χ))) falsity) (left (left χ)) (n.0 (neg (left (left χ))))) ∙ sym (ap negated (no_denial _ n.1).0)
]

by_intro : (χ : Formula) → SameFrom intro χ
by_intro χ = elim (denial_or_not χ) [
  | inl d ↦ subst (SameFrom intro) (sym d.1) (ap (map formula_tree) (fits (implies d.0 falsity) (neg d.0)))
  | inr n ↦ ap (map formula_tree) (fails χ (implies (left χ) falsity) (neg (left χ)) (n.0 (left χ))) ∙ sym (no_denial _ n.1).1
]

by_and1 : (χ : Formula) → SameFrom and1 χ
by_and1 χ = elim (conjunction_or_not χ) [
  | inl d ↦ subst (SameFrom and1) (sym d.2) (ap (map formula_tree) (fits (and d.0 d.1) d.0))
  | inr n ↦ ap (map formula_tree) (fails χ (and (left χ) (right χ)) (left χ) (n.0 (left χ) (right χ))) ∙ sym (no_conjunction _ n.1).0
]

by_and2 : (χ : Formula) → SameFrom and2 χ
by_and2 χ = elim (conjunction_or_not χ) [
  | inl d ↦ subst (SameFrom and2) (sym d.2) (ap (map formula_tree) (fits (and d.0 d.1) d.1))
  | inr n ↦ ap (map formula_tree) (fails χ (and (left χ) (right χ)) (right χ) (n.0 (left χ) (right χ))) ∙ sym (no_conjunction _ n.1).1
]

by_orimp : (χ : Formula) → SameFrom orimp χ
by_orimp χ = elim (disjunction_or_not χ) [
  | inl d ↦ subst (SameFrom orimp) (sym d.2) (ap (map formula_tree) (fits (or d.0 d.1) (implies (neg d.0) d.1)))
  | inr n ↦ ap (map formula_tree) (fails χ (or (left χ) (right χ)) (implies (neg (left χ)) (right χ)) (n.0 (left χ) (right χ))) ∙ sym (no_disjunction _ n.1)
]

by_eqsymm : (χ : Formula) → SameFrom eqsymm χ
unfolding rules.◌>>=◌
by_eqsymm χ = elim (equation_or_not χ) [
  | inl d ↦ subst (SameFrom eqsymm) (sym d.2) refl
  | inr (inl d) ↦ subst (SameFrom eqsymm) (sym d.2) refl
  | inr (inr n) ↦ rw (n.0, n.1)
]

pub from_one_typed : (r : OnePremise) (χ : Formula) → map formula_tree (conclude_from r χ) ≡ from_one r (formula_tree χ)
from_one_typed nnpp χ = by_nnpp χ
from_one_typed eqsymm χ = by_eqsymm χ
from_one_typed and1 χ = by_and1 χ
from_one_typed and2 χ = by_and2 χ
from_one_typed orimp χ = by_orimp χ
from_one_typed addneg χ = refl
from_one_typed intro χ = by_intro χ
from_one_typed elimnot χ = by_elimnot χ

-- ---- rules of two premises

mapped_when : {A B : Type 0} (f : A → B) (b : Bool) (x : A) → map f (when b x) ≡ cond b (some (f x)) none
unfolding when
mapped_when f true x = refl
mapped_when f false x = refl

-- tests for sameness that pass together
same_together : (φ ψ χ ξ : Formula) → (φ ≡ ψ → χ ≡ ξ) → (χ ≡ ξ → φ ≡ ψ) → same φ ψ ≡ same χ ξ
same_together φ ψ χ ξ f g =
    both_ways _ _
    (λ e. subst (λ x. same χ x ≡ true) (f (same_true φ ψ e)) (same_refl χ))
    (λ e. subst (λ x. same φ x ≡ true) (g (same_true χ ξ e)) (same_refl φ))

abbrev SameBoth : TwoPremises → Formula → Formula → Type 0
SameBoth r χ ξ = map formula_tree (conclude_both r χ ξ) ≡ from_two r (formula_tree χ) (formula_tree ξ)

detaches : (φ ψ ξ : Formula) → SameBoth mp (implies φ ψ) ξ
detaches φ ψ ξ =
    mapped_when formula_tree (same (implies φ ψ) (implies ξ ψ)) ψ
    ∙ ap (λ b. cond b (some (formula_tree ψ)) none) (same_together (implies φ ψ) (implies ξ ψ) φ ξ (λ e. cc) (λ e. cc) ∙ sym (same_formula_tree φ ξ))
    ∙ sym (read_alike (λ f. detached f (formula_tree ξ)) (is_falsity (formula_tree ψ)) (formula_tree φ) (formula_tree ψ) _ refl refl)

by_mp : (χ ξ : Formula) → SameBoth mp χ ξ
by_mp χ ξ = elim (implication_or_not χ) [
  | inl d ↦ subst (λ x. SameBoth mp x ξ) (sym d.2) (detaches d.0 d.1 ξ)
  | inr n ↦ ap (map formula_tree) (fails χ (implies ξ (right χ)) (right χ) (n.0 ξ (right χ))) ∙ sym (n.1 (formula_tree ξ))
]

clashes : (φ ξ : Formula) → SameBoth negelim (neg φ) ξ
clashes φ ξ =
    mapped_when formula_tree (same (neg φ) (neg ξ)) falsity
    ∙ ap (λ b. cond b (some (formula_tree falsity)) none) (same_together (neg φ) (neg ξ) φ ξ (λ e. cc) (λ e. cc) ∙ sym (same_formula_tree φ ξ))

by_negelim : (χ ξ : Formula) → SameBoth negelim χ ξ
by_negelim χ ξ = elim (negation_or_not χ) [
  | inl d ↦ subst (λ x. SameBoth negelim x ξ) (sym d.1) (clashes d.0 ξ)
  | inr n ↦ ap (map formula_tree) (fails χ (neg ξ) falsity (n.0 ξ)) ∙ sym (no_negation _ n.1 (formula_tree ξ))
]

-- ---- chained equations

same_thing_tree : (t u : Thing) → same_tree (thing_tree t) (thing_tree u) ≡ same_thing t u
same_thing_tree t u =
    both_ways _ _
    (λ e. let p = tree_injective (of_thing t) (of_thing u) (same_tree_true _ _ e) in let q : t ≡ u = cc in subst (λ x. same_thing t x ≡ true) q (same_thing_refl t))
    (λ e. subst (λ x. same_tree (thing_tree t) (thing_tree x) ≡ true) (same_thing_true t u e) (same_tree_refl (thing_tree t)))

same_number_tree : (a b : Number) → same_tree (number_tree a) (number_tree b) ≡ same_number a b
same_number_tree a b =
    both_ways _ _
    (λ e. let p = tree_injective (of_number a) (of_number b) (same_tree_true _ _ e) in let q : a ≡ b = cc in subst (λ x. same_number a x ≡ true) q (same_number_refl a))
    (λ e. subst (λ x. same_tree (number_tree a) (number_tree x) ≡ true) (same_number_true a b e) (same_tree_refl (number_tree a)))

-- a thing's tree is no number term's
thing_no_number : (t : Thing) (a : Number) → thing_tree t ≡ number_tree a → ⊥
thing_no_number t a e = let p = tree_injective (of_thing t) (of_number a) e in cc

differ : (x y : Tree) → (x ≡ y → ⊥) → same_tree x y ≡ false
differ x y d = both_ways _ _ (λ e. absurd (d (same_tree_true x y e))) (λ e. absurd cc)

things_chain : (t u : Thing) (ξ : Formula) → SameBoth eqtrans (eq_things t u) ξ
unfolding rules.◌>>=◌
things_chain t u ξ = elim (equation_or_not ξ) [
  | inl d ↦ subst (SameBoth eqtrans (eq_things t u)) (sym d.2)
      (mapped_when formula_tree (same_thing u d.0) (eq_things t d.1) ∙ ap (λ b. cond b (some (formula_tree (eq_things t d.1))) none) (sym (same_thing_tree u d.0)))
  | inr (inl d) ↦ subst (SameBoth eqtrans (eq_things t u)) (sym d.2)
      (sym (ap (λ b. cond b (some (binary trees.eq (thing_tree t) (number_tree d.1))) none) (differ _ _ (thing_no_number u d.0))))
  | inr (inr n) ↦ rw (n.0, (no_equation _ n.1).chains_to_none (thing_tree t) (thing_tree u))
]

numbers_chain : (a b : Number) (ξ : Formula) → SameBoth eqtrans (eq_numbers a b) ξ
unfolding rules.◌>>=◌
numbers_chain a b ξ = elim (equation_or_not ξ) [
  | inl d ↦ subst (SameBoth eqtrans (eq_numbers a b)) (sym d.2)
      (sym (ap (λ c. cond c (some (binary trees.eq (number_tree a) (thing_tree d.1))) none) (differ _ _ (λ e. thing_no_number d.0 b (sym e)))))
  | inr (inl d) ↦ subst (SameBoth eqtrans (eq_numbers a b)) (sym d.2)
      (mapped_when formula_tree (same_number b d.0) (eq_numbers a d.1) ∙ ap (λ c. cond c (some (formula_tree (eq_numbers a d.1))) none) (sym (same_number_tree b d.0)))
  | inr (inr n) ↦ rw (n.0, (no_equation _ n.1).chains_to_none (number_tree a) (number_tree b))
]

by_eqtrans : (χ ξ : Formula) → SameBoth eqtrans χ ξ
unfolding rules.◌>>=◌
by_eqtrans χ ξ = elim (equation_or_not χ) [
  | inl d ↦ subst (λ x. SameBoth eqtrans x ξ) (sym d.2) (things_chain d.0 d.1 ξ)
  | inr (inl d) ↦ subst (λ x. SameBoth eqtrans x ξ) (sym d.2) (numbers_chain d.0 d.1 ξ)
  | inr (inr n) ↦ rw (n.0, (no_equation _ n.1).chains_none (form (formula_tree ξ)))
]

pub from_two_typed : (r : TwoPremises) (χ ξ : Formula) → map formula_tree (conclude_both r χ ξ) ≡ from_two r (formula_tree χ) (formula_tree ξ)
from_two_typed mp χ ξ = by_mp χ ξ
from_two_typed eqtrans χ ξ = by_eqtrans χ ξ
from_two_typed negelim χ ξ = by_negelim χ ξ

pub absurdity_typed : (χ φ : Formula) → map formula_tree (when (same χ falsity) φ) ≡ absurdity (form (formula_tree χ)) (formula_tree φ)
absurdity_typed χ φ = elim (falsity_or_not χ) [
  | inl e ↦ subst (λ x. map formula_tree (when (same x falsity) φ) ≡ absurdity (form (formula_tree x)) (formula_tree φ)) (sym e) (ap (map formula_tree) (fits falsity φ))
  | inr n ↦ ap (map formula_tree) (fails χ falsity φ n.0) ∙ sym (n.1 (formula_tree φ))
]
