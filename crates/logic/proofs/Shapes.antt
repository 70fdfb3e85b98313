-- The shape of a formula or a number term, read off its tree.
use Rattle.std.proofs.Common.{◌≡◌, ◌⊎◌, ℤ, refl, inl, inr}
use mathlib.Core.Bool.{false≢true}
use Rattle.logic.specs.Syntax.{Thing, Number, Connective, Formula, equal, at_most, eq_numbers, leq}
use Rattle.logic.specs.Terms.{of_number, of_formula}
use Rattle.logic.proofs.Trees.{tree_injective}
use Rattle.logic.specs.Tree.{Leaf, Unary, Binary, Tree, leaf, unary, binary, thing_tree, number_tree, formula_tree}

pub is_falsity : (χ : Formula) → formula_tree χ ≡ leaf Leaf.falsity → χ ≡ Formula.falsity
is_falsity χ e = cc (tree_injective (of_formula χ) (of_formula Formula.falsity) e)

pub is_connect : (χ : Formula) (c : Connective) (a b : Tree) → formula_tree χ ≡ binary (Binary.connect c) a b
    → (φ : Formula) × (ψ : Formula) × (χ ≡ Formula.connect c φ ψ) × (formula_tree φ ≡ a) × (formula_tree ψ ≡ b)
is_connect (Formula.connect d φ ψ) c a b e = (φ, ψ, cc, cc, cc)
is_connect (Formula.relate equal x y) c a b e = absurd (false≢true cc)
is_connect χ c a b e = absurd (false≢true cc)

pub is_neg : (χ : Formula) (a : Tree) → formula_tree χ ≡ unary Unary.neg a → (φ : Formula) × (χ ≡ Formula.neg φ) × (formula_tree φ ≡ a)
is_neg (Formula.neg φ) a e = (φ, refl, cc)
is_neg (Formula.relate equal x y) a e = absurd (false≢true cc)
is_neg χ a e = absurd (false≢true cc)

pub is_forall : (χ : Formula) (a : Tree) → formula_tree χ ≡ unary Unary.forall a → (φ : Formula) × (χ ≡ Formula.forall φ) × (formula_tree φ ≡ a)
is_forall (Formula.forall φ) a e = (φ, refl, cc)
is_forall (Formula.relate equal x y) a e = absurd (false≢true cc)
is_forall χ a e = absurd (false≢true cc)

pub is_equation : (χ : Formula) (a b : Tree) → formula_tree χ ≡ binary Binary.eq a b
    → ((t : Thing) × (u : Thing) × (χ ≡ Formula.eq_things t u) × (thing_tree t ≡ a) × (thing_tree u ≡ b))
    ⊎ ((x : Number) × (y : Number) × (χ ≡ eq_numbers x y) × (number_tree x ≡ a) × (number_tree y ≡ b))
is_equation (Formula.eq_things t u) a b e = inl (t, u, refl, cc, cc)
is_equation (Formula.relate equal x y) a b e = inr (x, y, refl, cc, cc)
is_equation χ a b e = absurd (false≢true cc)

pub is_order : (χ : Formula) (a b : Tree) → formula_tree χ ≡ binary Binary.leq a b → (x : Number) × (y : Number) × (χ ≡ leq x y) × (number_tree x ≡ a) × (number_tree y ≡ b)
is_order (Formula.relate at_most x y) a b e = (x, y, refl, cc, cc)
is_order χ a b e = absurd (false≢true cc)

pub is_literal : (z : Number) (n : ℤ) → number_tree z ≡ leaf (Leaf.lit n) → z ≡ Number.lit n
is_literal z n e = cc (tree_injective (of_number z) (of_number (Number.lit n)) e)

pub is_sum : (z : Number) (a b : Tree) → number_tree z ≡ binary Binary.add a b → (x : Number) × (y : Number) × (z ≡ Number.add x y) × (number_tree x ≡ a) × (number_tree y ≡ b)
is_sum (Number.add x y) a b e = (x, y, refl, cc, cc)
is_sum z a b e = absurd (false≢true cc)

pub is_minus : (z : Number) (a : Tree) → number_tree z ≡ unary Unary.minus a → (x : Number) × (z ≡ Number.minus x) × (number_tree x ≡ a)
is_minus (Number.minus x) a e = (x, refl, cc)
is_minus z a e = absurd (false≢true cc)
