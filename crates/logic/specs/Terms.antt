-- Terms of every kind as one type, and the term that a head makes of its operands, if they are of the classes that it takes.
use Rattle.std.specs.Prelude.{ℕ}
use Rattle.std.proofs.Math.Option.{Option, none, some}
use Rattle.logic.specs.Syntax.{Thing, Things, Number, Formula, Plan, Proof, equal, at_most, eq_things, relate}
use Rattle.logic.specs.Tree.{Kind, Leaf, Unary, Binary, Tree, leaf, unary, binary, thing_tree, things_tree, number_tree, formula_tree, plan_tree, proof_tree}
use Rattle.logic.specs.Rules.{◌>>=◌}

pub data Term : Type 0 where
  of_thing : Thing → Term
  of_things : Things → Term
  of_number : Number → Term
  of_formula : Formula → Term
  of_plan : Plan → Term
  of_proof : Proof → Term

abbrev pub term_tree : Term → Tree
term_tree (of_thing t) = thing_tree t
term_tree (of_things l) = things_tree l
term_tree (of_number a) = number_tree a
term_tree (of_formula φ) = formula_tree φ
term_tree (of_plan p) = plan_tree p
term_tree (of_proof P) = proof_tree P

-- ---- the term, if it is of the class

abbrev pub as_thing : Term → Option Thing
as_thing (of_thing t) = some t
as_thing (of_things l) = none
as_thing (of_number a) = none
as_thing (of_formula φ) = none
as_thing (of_plan p) = none
as_thing (of_proof P) = none

abbrev pub as_things : Term → Option Things
as_things (of_thing t) = none
as_things (of_things l) = some l
as_things (of_number a) = none
as_things (of_formula φ) = none
as_things (of_plan p) = none
as_things (of_proof P) = none

abbrev pub as_number : Term → Option Number
as_number (of_thing t) = none
as_number (of_things l) = none
as_number (of_number a) = some a
as_number (of_formula φ) = none
as_number (of_plan p) = none
as_number (of_proof P) = none

abbrev pub as_formula : Term → Option Formula
as_formula (of_thing t) = none
as_formula (of_things l) = none
as_formula (of_number a) = none
as_formula (of_formula φ) = some φ
as_formula (of_plan p) = none
as_formula (of_proof P) = none

abbrev pub as_plan : Term → Option Plan
as_plan (of_thing t) = none
as_plan (of_things l) = none
as_plan (of_number a) = none
as_plan (of_formula φ) = none
as_plan (of_plan p) = some p
as_plan (of_proof P) = none

abbrev pub as_proof : Term → Option Proof
as_proof (of_thing t) = none
as_proof (of_things l) = none
as_proof (of_number a) = none
as_proof (of_formula φ) = none
as_proof (of_plan p) = none
as_proof (of_proof P) = some P

-- ---- the term that a head makes of its operands

-- f of the operands, if they are of the classes
abbrev pub one : {X : Type 0} → Option X → (X → Term) → Option Term
one x f = x >>= λ a. some (f a)

abbrev pub two : {X Y : Type 0} → Option X → Option Y → (X → Y → Term) → Option Term
two x y f = x >>= λ a. y >>= λ b. some (f a b)

unfoldable pub or_else : Option Term → Option Term → Option Term
or_else none o = o
or_else (some t) o = some t

abbrev pub leaf_term : Leaf → Term
leaf_term (Leaf.var i) = of_thing (Thing.var i)
leaf_term Leaf.nil = of_things Things.nil
leaf_term (Leaf.lit n) = of_number (Number.lit n)
leaf_term Leaf.falsity = of_formula Formula.falsity
leaf_term Leaf.id = of_plan Plan.id
leaf_term (Leaf.hyp i) = of_proof (Proof.hyp i)
leaf_term (Leaf.known k) = of_proof (Proof.known k)

abbrev pub applied : Kind → ℕ → Things → Term
applied Kind.thing s l = of_thing (Thing.apply s l)
applied Kind.number s l = of_number (Number.measure s l)
applied Kind.predicate s l = of_formula (Formula.atom s l)

abbrev pub unary_term : Unary → Term → Option Term
unary_term (Unary.application k s) t = one (as_things t) (applied k s)
unary_term Unary.minus t = one (as_number t) λ a. of_number (Number.minus a)
unary_term Unary.neg t = one (as_formula t) λ φ. of_formula (Formula.neg φ)
unary_term Unary.forall t = one (as_formula t) λ φ. of_formula (Formula.forall φ)
unary_term (Unary.step h) t = one (as_plan t) λ p. of_plan (Plan.step h p)
unary_term Unary.eqrefl t = or_else (one (as_thing t) λ u. of_proof (Proof.eqrefl_thing u)) (one (as_number t) λ a. of_proof (Proof.eqrefl_number a))
unary_term (Unary.from r) t = one (as_proof t) λ P. of_proof (Proof.from r P)

abbrev pub binary_term : Binary → Term → Term → Option Term
binary_term Binary.cons t u = two (as_thing t) (as_things u) λ x l. of_things (Things.cons x l)
binary_term Binary.add t u = two (as_number t) (as_number u) λ a b. of_number (Number.add a b)
binary_term (Binary.connect c) t u = two (as_formula t) (as_formula u) λ φ ψ. of_formula (Formula.connect c φ ψ)
binary_term Binary.eq t u =
    or_else (two (as_thing t) (as_thing u) λ x y. of_formula (eq_things x y)) (two (as_number t) (as_number u) λ a b. of_formula (relate equal a b))
binary_term Binary.leq t u = two (as_number t) (as_number u) λ a b. of_formula (relate at_most a b)
binary_term (Binary.fork h) t u = two (as_plan t) (as_plan u) λ p q. of_plan (Plan.fork h p q)
binary_term Binary.assume t u = two (as_formula t) (as_proof u) λ φ P. of_proof (Proof.assume φ P)
binary_term Binary.absurd t u = two (as_proof t) (as_formula u) λ P φ. of_proof (Proof.absurd P φ)
binary_term Binary.eqsub t u = two (as_proof t) (as_formula u) λ P ψ. of_proof (Proof.eqsub P ψ)
binary_term Binary.inst t u = two (as_thing t) (as_proof u) λ x P. of_proof (Proof.inst x P)
binary_term (Binary.from_both r) t u = two (as_proof t) (as_proof u) λ P Q. of_proof (Proof.from_both r P Q)

-- the term that the tree is of, if it is of one
abbrev pub tree_term : Tree → Option Term
tree_term (leaf x) = some (leaf_term x)
tree_term (unary h t) = do
  x ← tree_term t
  unary_term h x
tree_term (binary h t u) = do
  x ← tree_term t
  y ← tree_term u
  binary_term h x y
