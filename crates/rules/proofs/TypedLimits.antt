-- A formula is within the limits exactly if its size and its nesting are: it assumes nothing, and its head has no index. A number term has no `forall`.
use Rattle.std.proofs.Common.{◌≡◌, max, true, ◌&&◌, leb, List, [], ◌∷◌, map, sym, refl, ◌∙◌, ap₂, arith}
use mathlib.Core.Bool.{and-true}
use Rattle.std.proofs.lemmas.Bool.{le-leb}
use Rattle.logic.specs.Syntax.{Thing, Things, Number, Formula, equal, at_most, var, apply, nil, cons, lit, add, minus, measure, falsity, connect, neg, eq_things, relate, atom, forall}
use Rattle.logic.specs.Tree.{thing_tree, things_tree, number_tree, formula_tree, assumptions, foralls}
use Rattle.logic.proofs.Trees.{thing_foralls}
use Rattle.model.specs.Limits.{limits, own_index_within, within}
use Rattle.model.specs.Tests.{each}
use Rattle.model.specs.Session.{each_within}
use Rattle.rules.specs.Forms.{small}

mutual
  thing_assumes_nothing : (t : Thing) → assumptions (thing_tree t) ≡ 0
  thing_assumes_nothing (var i) = refl
  thing_assumes_nothing (apply s l) = things_assume_nothing l

  things_assume_nothing : (l : Things) → assumptions (things_tree l) ≡ 0
  things_assume_nothing nil = refl
  things_assume_nothing (cons t l) = ap₂ max (thing_assumes_nothing t) (things_assume_nothing l)

number_assumes_nothing : (a : Number) → assumptions (number_tree a) ≡ 0
number_assumes_nothing (lit n) = refl
number_assumes_nothing (add a b) = ap₂ max (number_assumes_nothing a) (number_assumes_nothing b)
number_assumes_nothing (minus a) = number_assumes_nothing a
number_assumes_nothing (measure s l) = things_assume_nothing l

pub number_foralls : (a : Number) → foralls (number_tree a) ≡ 0
number_foralls (lit n) = refl
number_foralls (add a b) = ap₂ max (number_foralls a) (number_foralls b)
number_foralls (minus a) = number_foralls a
number_foralls (measure s l) = thing_foralls (apply s l)

formula_assumes_nothing : (φ : Formula) → assumptions (formula_tree φ) ≡ 0
formula_assumes_nothing falsity = refl
formula_assumes_nothing (connect c φ ψ) = ap₂ max (formula_assumes_nothing φ) (formula_assumes_nothing ψ)
formula_assumes_nothing (neg φ) = formula_assumes_nothing φ
formula_assumes_nothing (eq_things t u) = ap₂ max (thing_assumes_nothing t) (thing_assumes_nothing u)
formula_assumes_nothing (relate equal a b) = ap₂ max (number_assumes_nothing a) (number_assumes_nothing b)
formula_assumes_nothing (relate at_most a b) = ap₂ max (number_assumes_nothing a) (number_assumes_nothing b)
formula_assumes_nothing (atom s l) = things_assume_nothing l
formula_assumes_nothing (forall φ) = formula_assumes_nothing φ

formula_without_index : (φ : Formula) → own_index_within limits (formula_tree φ) ≡ true
formula_without_index falsity = refl
formula_without_index (connect c φ ψ) = refl
formula_without_index (neg φ) = refl
formula_without_index (eq_things t u) = refl
formula_without_index (relate r a b) = refl
formula_without_index (atom s l) = refl
formula_without_index (forall φ) = refl

pub small_is_within : (φ : Formula) → small (formula_tree φ) ≡ within limits (formula_tree φ)
small_is_within φ =
    let s = small (formula_tree φ) in
    let a : leb (assumptions (formula_tree φ)) 64 ≡ true = le-leb _ _ (omega (arith, formula_assumes_nothing φ)) in
    sym (ap₂ (λ x y. s && x && y) a (formula_without_index φ) ∙ and-true (s && true) ∙ and-true s)

-- each of several formulas
pub each_small_is_within : (l : List Formula) → each small (map formula_tree l) ≡ each_within limits l
each_small_is_within [] = refl
each_small_is_within (φ ∷ l) = ap₂ (λ x y. x && y) (small_is_within φ) (each_small_is_within l)
