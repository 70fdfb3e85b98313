-- A conclusion that is to be kept: the tree that it stands for, over the trees at the indices.
use Rattle.std.specs.Prelude.{◌≡◌, ℕ, ◌<◌, true}
use Rattle.std.proofs.Math.Option.{Option, none, some}
use Rattle.std.specs.declared.option.Option as std
use Rattle.logic.specs.Syntax as syntax
use Rattle.logic.specs.Tree as trees
use Rattle.logic.specs.Tree.{Tree, leaf, unary, binary, put_tree}
use Rattle.rules.specs.declared.conclusions.Conclusion.{Conclusion}
use Rattle.rules.specs.declared.conclusions.Conclusion.TheVariants.{Stands, Falsity, Negation, Doubled, Implication, Exclusion, Equation, Instance, Replacement}
use Rattle.rules.specs.declared.conclusions.Shape as shapes
use Rattle.rules.specs.Forms.{Form, falsity, implies, denial, conjunction, disjunction, neg, eq, forall, other, closed_thing}

abbrev pub built : (ℕ → Tree) → Conclusion → Tree
built f (Stands a) = f a
built f Falsity = leaf trees.falsity
built f (Negation a) = unary trees.neg (f a)
built f (Doubled a) = unary trees.neg (unary trees.neg (f a))
built f (Implication a b) = binary (trees.connect syntax.implication) (f a) (f b)
built f (Exclusion a b) = binary (trees.connect syntax.implication) (unary trees.neg (f a)) (f b)
built f (Equation a b) = binary trees.eq (f a) (f b)
built f (Instance a t) = put_tree 0 (f t) (f a)
built f (Replacement a t u) = binary (trees.connect syntax.implication) (put_tree 0 (f t) (f a)) (put_tree 0 (f u) (f a))

-- its indices are less than n, and only closed things are put for an index
abbrev pub Buildable : ℕ → (ℕ → Tree) → Conclusion → Type 0
Buildable n f (Stands a) = a < n
Buildable n f Falsity = Unit {0}
Buildable n f (Negation a) = a < n
Buildable n f (Doubled a) = a < n
Buildable n f (Implication a b) = (a < n) × (b < n)
Buildable n f (Exclusion a b) = (a < n) × (b < n)
Buildable n f (Equation a b) = (a < n) × (b < n)
Buildable n f (Instance a t) = (a < n) × (t < n) × (closed_thing (f t) ≡ true)
Buildable n f (Replacement a t u) = (a < n) × (t < n) × (u < n) × (closed_thing (f t) ≡ true) × (closed_thing (f u) ≡ true)

abbrev pub shaped : (ℕ → Tree) → shapes.Shape → Form
shaped f shapes.TheVariants.Falsity = falsity
shaped f (shapes.TheVariants.Implies a b) = implies (f a) (f b)
shaped f (shapes.TheVariants.Denial a b) = denial (f a) (f b)
shaped f (shapes.TheVariants.And a b) = conjunction (f a) (f b)
shaped f (shapes.TheVariants.Or a b) = disjunction (f a) (f b)
shaped f (shapes.TheVariants.Neg a) = neg (f a)
shaped f (shapes.TheVariants.Eq a b) = eq (f a) (f b)
shaped f (shapes.TheVariants.Forall a) = forall (f a)
shaped f shapes.TheVariants.Other = other

-- the indices of the shape are less than n
abbrev pub Below : ℕ → shapes.Shape → Type 0
Below n shapes.TheVariants.Falsity = Unit {0}
Below n (shapes.TheVariants.Implies a b) = (a < n) × (b < n)
Below n (shapes.TheVariants.Denial a b) = (a < n) × (b < n)
Below n (shapes.TheVariants.And a b) = (a < n) × (b < n)
Below n (shapes.TheVariants.Or a b) = (a < n) × (b < n)
Below n (shapes.TheVariants.Neg a) = a < n
Below n (shapes.TheVariants.Eq a b) = (a < n) × (b < n)
Below n (shapes.TheVariants.Forall a) = a < n
Below n shapes.TheVariants.Other = Unit {0}

-- what was decided, as a tree
abbrev pub chosen : (ℕ → Tree) → std.Option Conclusion → Option Tree
chosen f (std.TheVariants.Some c) = some (built f c)
chosen f std.TheVariants.None = none

abbrev pub Choosable : ℕ → (ℕ → Tree) → std.Option Conclusion → Type 0
Choosable n f (std.TheVariants.Some c) = Buildable n f c
Choosable n f std.TheVariants.None = Unit {0}
