-- Putting a closed thing for an index is the same on formulas and on their trees, and so are the rules that do so.
use Rattle.std.proofs.Common.{◌≡◌, true, false, cond, ◌&&◌, leb, sym, ap, ◌∙◌, subst, ap₂, inl, inr, arith}
use mathlib.Core.Option.{Option, none, some, map}
use Rattle.std.proofs.lemmas.Bool.{cond-true, leb-true, le-leb, and_from}
use Rattle.logic.specs.Syntax.{Thing, Number, Formula, implication, eq_things, forall, same}
use Rattle.logic.specs.Substitution.{instance_of}
use Rattle.logic.specs.Tree as trees
use Rattle.logic.specs.Tree.{Tree, binary, put_tree, thing_tree, number_tree, formula_tree, open_indices, foralls}
use Rattle.logic.specs.Closed.{closed}
use Rattle.logic.specs.Rules as rules
use Rattle.logic.specs.Rules.{when, left, sides}
use Rattle.logic.specs.Terms.{of_thing, of_number}
use Rattle.logic.proofs.RulesAre.{fits}
use Rattle.logic.proofs.Trees.{put_formula_tree, thing_foralls, max_parts}
use Rattle.terms.proofs.ClassIs.{class_is}
use Rattle.rules.specs.Forms.{form, is_thing, closed_thing, instantiated, replaced}
use Rattle.rules.proofs.TypedShapes.{forall_or_not, equation_or_not, no_forall, no_equation}
use Rattle.rules.proofs.TypedRules.{fails}

-- a closed thing's tree is one of a closed thing
pub closed_thing_tree : (t : Thing) → closed (thing_tree t) ≡ true → closed_thing (thing_tree t) ≡ true
closed_thing_tree t c =
    let n : leb (foralls (thing_tree t)) 0 ≡ true = le-leb _ _ (omega (arith, thing_foralls t)) in
    and_from _ _ (and_from _ _ (ap is_thing (class_is (of_thing t))) c) n

-- a number term's is not
number_no_thing : (a : Number) → closed_thing (number_tree a) ≡ false
number_no_thing a = ap (λ c. is_thing c && leb (open_indices (number_tree a)) 0 && leb (foralls (number_tree a)) 0) (class_is (of_number a))

-- the sides of a closed equation are closed
pub closed_sides : (t u : Thing) → closed (formula_tree (eq_things t u)) ≡ true → (closed (thing_tree t) ≡ true) × (closed (thing_tree u) ≡ true)
closed_sides t u c =
    let p = max_parts (open_indices (thing_tree t)) (open_indices (thing_tree u)) 0 (leb-true _ _ c) in
    (le-leb _ _ p.0, le-leb _ _ p.1)

pub instantiated_typed : (χ : Formula) (t : Thing) → closed (thing_tree t) ≡ true
    → map formula_tree (when (same χ (forall (left χ))) (instance_of (left χ) t)) ≡ instantiated (form (formula_tree χ)) (thing_tree t)
instantiated_typed χ t c = elim (forall_or_not χ) [
  | inl d ↦
      subst (λ x. map formula_tree (when (same x (forall (left x))) (instance_of (left x) t)) ≡ instantiated (form (formula_tree x)) (thing_tree t)) (sym d.1)
      (ap (map formula_tree) (fits (forall d.0) (instance_of d.0 t))
      ∙ ap some (put_formula_tree 0 t d.0)
      ∙ sym (cond-true _ (some (put_tree 0 (thing_tree t) (formula_tree d.0))) none (closed_thing_tree t c)))
  | inr n ↦ ap (map formula_tree) (fails χ (forall (left χ)) (instance_of (left χ) t) (n.0 (left χ))) ∙ sym (no_forall _ n.1 (thing_tree t))
]

-- ψ at the left side implies ψ at the right side
abbrev at_sides : Tree → Tree → Tree → Option Tree
at_sides x t u = some (binary (trees.connect implication) (put_tree 0 t x) (put_tree 0 u x))

abbrev replacement : Formula → Formula → Option Formula
replacement ψ χ = rules.◌>>=◌ (sides χ) (rules.replaced ψ)

pub replaced_typed : (χ ψ : Formula) → closed (formula_tree χ) ≡ true → map formula_tree (rules.◌>>=◌ (sides χ) (rules.replaced ψ)) ≡ replaced (form (formula_tree χ)) (formula_tree ψ)
unfolding rules.◌>>=◌
replaced_typed χ ψ c = elim (equation_or_not χ) [
  | inl d ↦
      let p = closed_sides d.0 d.1 (subst (λ x. closed (formula_tree x) ≡ true) d.2 c) in
      subst (λ x. map formula_tree (replacement ψ x) ≡ replaced (form (formula_tree x)) (formula_tree ψ)) (sym d.2)
      (ap₂ (λ x y. some (binary (trees.connect implication) x y)) (put_formula_tree 0 d.0 ψ) (put_formula_tree 0 d.1 ψ)
      ∙ sym (cond-true _ (at_sides (formula_tree ψ) (thing_tree d.0) (thing_tree d.1)) none (and_from _ _ (closed_thing_tree d.0 p.0) (closed_thing_tree d.1 p.1))))
  | inr (inl d) ↦
      subst (λ x. map formula_tree (replacement ψ x) ≡ replaced (form (formula_tree x)) (formula_tree ψ)) (sym d.2)
      (sym (ap (λ b. cond (b && closed_thing (number_tree d.1)) (at_sides (formula_tree ψ) (number_tree d.0) (number_tree d.1)) none) (number_no_thing d.0)))
  | inr (inr n) ↦ rw (n.0, (no_equation _ n.1).replaces_none (formula_tree ψ))
]
