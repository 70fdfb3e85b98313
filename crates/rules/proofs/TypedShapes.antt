-- The shape of a formula's tree is the shape of the formula.
use Rattle.std.proofs.Common.{◌≡◌, Bool, true, false, cond, ◌⊎◌, refl, inl, inr}
use mathlib.Core.Option.{none}
use Rattle.logic.specs.Syntax.{Thing, Number, Formula, implication, conjunction, disjunction, equal, at_most, falsity, connect, neg, eq_things, relate, atom, forall, implies, and, or, eq_numbers}
use Rattle.logic.specs.Tree.{Tree, formula_tree}
use Rattle.logic.specs.Rules.{sides}
use Rattle.rules.specs.Forms as forms
use Rattle.rules.specs.Forms.{Form, form, is_falsity, inner, denied, negated, left_conjunct, right_conjunct, otherwise, refuted, turned, detached, clashing, absurdity, chained, instantiated, replaced}
use Rattle.rules.specs.Turning.{body, conjuncts, disjuncts}

-- a denial and another implication are read alike
pub read_alike : {X : Type 0} (read : Form → X) (b : Bool) (t u : Tree) (x : X) → read (forms.denial t u) ≡ x → read (forms.implies t u) ≡ x → read (cond b (forms.denial t u) (forms.implies t u)) ≡ x
read_alike read true t u x d i = d
read_alike read false t u x d i = i

-- ---- a formula is of the shape, or of none that is read so

pub denial_or_not : (χ : Formula) → ((φ : Formula) × (χ ≡ implies φ falsity)) ⊎ (((φ : Formula) → χ ≡ implies φ falsity → ⊥) × (denied (form (formula_tree χ)) ≡ none))
denial_or_not falsity = inr (λ φ e. cc, refl)
denial_or_not (connect implication α falsity) = inl (α, refl)
denial_or_not (connect implication α (connect c β γ)) = inr (λ φ e. cc, refl)
denial_or_not (connect implication α (neg β)) = inr (λ φ e. cc, refl)
denial_or_not (connect implication α (eq_things t u)) = inr (λ φ e. cc, refl)
denial_or_not (connect implication α (relate r a b)) = inr (λ φ e. cc, refl)
denial_or_not (connect implication α (atom s l)) = inr (λ φ e. cc, refl)
denial_or_not (connect implication α (forall β)) = inr (λ φ e. cc, refl)
denial_or_not (connect conjunction α β) = inr (λ φ e. cc, refl)
denial_or_not (connect disjunction α β) = inr (λ φ e. cc, refl)
denial_or_not (neg α) = inr (λ φ e. cc, refl)
denial_or_not (eq_things t u) = inr (λ φ e. cc, refl)
denial_or_not (relate equal a b) = inr (λ φ e. cc, refl)
denial_or_not (relate at_most a b) = inr (λ φ e. cc, refl)
denial_or_not (atom s l) = inr (λ φ e. cc, refl)
denial_or_not (forall α) = inr (λ φ e. cc, refl)

pub negation_or_not : (χ : Formula) → ((φ : Formula) × (χ ≡ neg φ)) ⊎ (((φ : Formula) → χ ≡ neg φ → ⊥) × (negated (form (formula_tree χ)) ≡ none))
negation_or_not falsity = inr (λ φ e. cc, refl)
negation_or_not (connect implication α β) = inr (λ φ e. cc, read_alike negated (is_falsity (formula_tree β)) _ _ none refl refl)
negation_or_not (connect conjunction α β) = inr (λ φ e. cc, refl)
negation_or_not (connect disjunction α β) = inr (λ φ e. cc, refl)
negation_or_not (neg α) = inl (α, refl)
negation_or_not (eq_things t u) = inr (λ φ e. cc, refl)
negation_or_not (relate equal a b) = inr (λ φ e. cc, refl)
negation_or_not (relate at_most a b) = inr (λ φ e. cc, refl)
negation_or_not (atom s l) = inr (λ φ e. cc, refl)
negation_or_not (forall α) = inr (λ φ e. cc, refl)

pub conjunction_or_not : (χ : Formula) → ((φ : Formula) × (ψ : Formula) × (χ ≡ and φ ψ)) ⊎ (((φ ψ : Formula) → χ ≡ and φ ψ → ⊥) × (conjuncts (form (formula_tree χ)) ≡ none))
conjunction_or_not falsity = inr (λ φ ψ e. cc, refl)
conjunction_or_not (connect implication α β) = inr (λ φ ψ e. cc, read_alike conjuncts (is_falsity (formula_tree β)) _ _ none refl refl)
conjunction_or_not (connect conjunction α β) = inl (α, β, refl)
conjunction_or_not (connect disjunction α β) = inr (λ φ ψ e. cc, refl)
conjunction_or_not (neg α) = inr (λ φ ψ e. cc, refl)
conjunction_or_not (eq_things t u) = inr (λ φ ψ e. cc, refl)
conjunction_or_not (relate equal a b) = inr (λ φ ψ e. cc, refl)
conjunction_or_not (relate at_most a b) = inr (λ φ ψ e. cc, refl)
conjunction_or_not (atom s l) = inr (λ φ ψ e. cc, refl)
conjunction_or_not (forall α) = inr (λ φ ψ e. cc, refl)

pub disjunction_or_not : (χ : Formula) → ((φ : Formula) × (ψ : Formula) × (χ ≡ or φ ψ)) ⊎ (((φ ψ : Formula) → χ ≡ or φ ψ → ⊥) × (disjuncts (form (formula_tree χ)) ≡ none))
disjunction_or_not falsity = inr (λ φ ψ e. cc, refl)
disjunction_or_not (connect implication α β) = inr (λ φ ψ e. cc, read_alike disjuncts (is_falsity (formula_tree β)) _ _ none refl refl)
disjunction_or_not (connect conjunction α β) = inr (λ φ ψ e. cc, refl)
disjunction_or_not (connect disjunction α β) = inl (α, β, refl)
disjunction_or_not (neg α) = inr (λ φ ψ e. cc, refl)
disjunction_or_not (eq_things t u) = inr (λ φ ψ e. cc, refl)
disjunction_or_not (relate equal a b) = inr (λ φ ψ e. cc, refl)
disjunction_or_not (relate at_most a b) = inr (λ φ ψ e. cc, refl)
disjunction_or_not (atom s l) = inr (λ φ ψ e. cc, refl)
disjunction_or_not (forall α) = inr (λ φ ψ e. cc, refl)

pub forall_or_not : (χ : Formula) → ((φ : Formula) × (χ ≡ forall φ)) ⊎ (((φ : Formula) → χ ≡ forall φ → ⊥) × (body (form (formula_tree χ)) ≡ none))
forall_or_not falsity = inr (λ φ e. cc, refl)
forall_or_not (connect implication α β) = inr (λ φ e. cc, read_alike body (is_falsity (formula_tree β)) _ _ none refl refl)
forall_or_not (connect conjunction α β) = inr (λ φ e. cc, refl)
forall_or_not (connect disjunction α β) = inr (λ φ e. cc, refl)
forall_or_not (neg α) = inr (λ φ e. cc, refl)
forall_or_not (eq_things t u) = inr (λ φ e. cc, refl)
forall_or_not (relate equal a b) = inr (λ φ e. cc, refl)
forall_or_not (relate at_most a b) = inr (λ φ e. cc, refl)
forall_or_not (atom s l) = inr (λ φ e. cc, refl)
forall_or_not (forall α) = inl (α, refl)

pub implication_or_not : (χ : Formula) → ((φ : Formula) × (ψ : Formula) × (χ ≡ implies φ ψ)) ⊎ (((φ ψ : Formula) → χ ≡ implies φ ψ → ⊥) × ((x : Tree) → detached (form (formula_tree χ)) x ≡ none))
implication_or_not falsity = inr (λ φ ψ e. cc, λ x. refl)
implication_or_not (connect implication α β) = inl (α, β, refl)
implication_or_not (connect conjunction α β) = inr (λ φ ψ e. cc, λ x. refl)
implication_or_not (connect disjunction α β) = inr (λ φ ψ e. cc, λ x. refl)
implication_or_not (neg α) = inr (λ φ ψ e. cc, λ x. refl)
implication_or_not (eq_things t u) = inr (λ φ ψ e. cc, λ x. refl)
implication_or_not (relate equal a b) = inr (λ φ ψ e. cc, λ x. refl)
implication_or_not (relate at_most a b) = inr (λ φ ψ e. cc, λ x. refl)
implication_or_not (atom s l) = inr (λ φ ψ e. cc, λ x. refl)
implication_or_not (forall α) = inr (λ φ ψ e. cc, λ x. refl)

pub falsity_or_not : (χ : Formula) → (χ ≡ falsity) ⊎ ((χ ≡ falsity → ⊥) × ((x : Tree) → absurdity (form (formula_tree χ)) x ≡ none))
falsity_or_not falsity = inl refl
falsity_or_not (connect implication α β) = inr (λ e. cc, λ x. read_alike (λ f. absurdity f x) (is_falsity (formula_tree β)) _ _ none refl refl)
falsity_or_not (connect conjunction α β) = inr (λ e. cc, λ x. refl)
falsity_or_not (connect disjunction α β) = inr (λ e. cc, λ x. refl)
falsity_or_not (neg α) = inr (λ e. cc, λ x. refl)
falsity_or_not (eq_things t u) = inr (λ e. cc, λ x. refl)
falsity_or_not (relate equal a b) = inr (λ e. cc, λ x. refl)
falsity_or_not (relate at_most a b) = inr (λ e. cc, λ x. refl)
falsity_or_not (atom s l) = inr (λ e. cc, λ x. refl)
falsity_or_not (forall α) = inr (λ e. cc, λ x. refl)

-- an equation of things, one of numbers, or none
pub equation_or_not : (χ : Formula)
    → ((t : Thing) × (u : Thing) × (χ ≡ eq_things t u)) ⊎ (((a : Number) × (b : Number) × (χ ≡ eq_numbers a b)) ⊎ ((sides χ ≡ none) × (turned (form (formula_tree χ)) ≡ none)))
equation_or_not falsity = inr (inr (refl, refl))
equation_or_not (connect implication α β) = inr (inr (refl, read_alike turned (is_falsity (formula_tree β)) _ _ none refl refl))
equation_or_not (connect conjunction α β) = inr (inr (refl, refl))
equation_or_not (connect disjunction α β) = inr (inr (refl, refl))
equation_or_not (neg α) = inr (inr (refl, refl))
equation_or_not (eq_things t u) = inl (t, u, refl)
equation_or_not (relate equal a b) = inr (inl (a, b, refl))
equation_or_not (relate at_most a b) = inr (inr (refl, refl))
equation_or_not (atom s l) = inr (inr (refl, refl))
equation_or_not (forall α) = inr (inr (refl, refl))

-- ---- what is not read one way is not read another

pub no_denial : (f : Form) → denied f ≡ none → (inner f ≡ forms.other) × (refuted f ≡ none)
no_denial forms.falsity e = (refl, refl)
no_denial (forms.implies t u) e = (refl, refl)
no_denial (forms.denial t u) e = absurd cc
no_denial (forms.conjunction t u) e = (refl, refl)
no_denial (forms.disjunction t u) e = (refl, refl)
no_denial (forms.neg t) e = (refl, refl)
no_denial (forms.eq t u) e = (refl, refl)
no_denial (forms.forall t) e = (refl, refl)
no_denial forms.other e = (refl, refl)

pub no_negation : (f : Form) → negated f ≡ none → (x : Tree) → clashing f x ≡ none
no_negation forms.falsity e x = refl
no_negation (forms.implies t u) e x = refl
no_negation (forms.denial t u) e x = refl
no_negation (forms.conjunction t u) e x = refl
no_negation (forms.disjunction t u) e x = refl
no_negation (forms.neg t) e x = absurd cc
no_negation (forms.eq t u) e x = refl
no_negation (forms.forall t) e x = refl
no_negation forms.other e x = refl

pub no_conjunction : (f : Form) → conjuncts f ≡ none → (left_conjunct f ≡ none) × (right_conjunct f ≡ none)
no_conjunction forms.falsity e = (refl, refl)
no_conjunction (forms.implies t u) e = (refl, refl)
no_conjunction (forms.denial t u) e = (refl, refl)
no_conjunction (forms.conjunction t u) e = absurd cc
no_conjunction (forms.disjunction t u) e = (refl, refl)
no_conjunction (forms.neg t) e = (refl, refl)
no_conjunction (forms.eq t u) e = (refl, refl)
no_conjunction (forms.forall t) e = (refl, refl)
no_conjunction forms.other e = (refl, refl)

pub no_disjunction : (f : Form) → disjuncts f ≡ none → otherwise f ≡ none
no_disjunction forms.falsity e = refl
no_disjunction (forms.implies t u) e = refl
no_disjunction (forms.denial t u) e = refl
no_disjunction (forms.conjunction t u) e = refl
no_disjunction (forms.disjunction t u) e = absurd cc
no_disjunction (forms.neg t) e = refl
no_disjunction (forms.eq t u) e = refl
no_disjunction (forms.forall t) e = refl
no_disjunction forms.other e = refl

pub no_forall : (f : Form) → body f ≡ none → (x : Tree) → instantiated f x ≡ none
no_forall forms.falsity e x = refl
no_forall (forms.implies t u) e x = refl
no_forall (forms.denial t u) e x = refl
no_forall (forms.conjunction t u) e x = refl
no_forall (forms.disjunction t u) e x = refl
no_forall (forms.neg t) e x = refl
no_forall (forms.eq t u) e x = refl
no_forall (forms.forall t) e x = absurd cc
no_forall forms.other e x = refl

pub record NoEquation (f : Form) : Type 0 where
  pub replaces_none : (x : Tree) → replaced f x ≡ none
  pub chains_none : (g : Form) → chained f g ≡ none
  pub chains_to_none : (t u : Tree) → chained (forms.eq t u) f ≡ none

pub no_equation : (f : Form) → turned f ≡ none → NoEquation f
no_equation forms.falsity e = record { replaces_none = λ x. refl; chains_none = λ g. refl; chains_to_none = λ a b. refl }
no_equation (forms.implies t u) e = record { replaces_none = λ x. refl; chains_none = λ g. refl; chains_to_none = λ a b. refl }
no_equation (forms.denial t u) e = record { replaces_none = λ x. refl; chains_none = λ g. refl; chains_to_none = λ a b. refl }
no_equation (forms.conjunction t u) e = record { replaces_none = λ x. refl; chains_none = λ g. refl; chains_to_none = λ a b. refl }
no_equation (forms.disjunction t u) e = record { replaces_none = λ x. refl; chains_none = λ g. refl; chains_to_none = λ a b. refl }
no_equation (forms.neg t) e = record { replaces_none = λ x. refl; chains_none = λ g. refl; chains_to_none = λ a b. refl }
no_equation (forms.eq t u) e = absurd cc
no_equation (forms.forall t) e = record { replaces_none = λ x. refl; chains_none = λ g. refl; chains_to_none = λ a b. refl }
no_equation forms.other e = record { replaces_none = λ x. refl; chains_none = λ g. refl; chains_to_none = λ a b. refl }
