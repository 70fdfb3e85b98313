-- The class of a term, by its head: the heads that are not named are those of proofs.
use Rattle.logic.specs.Tree as trees
use Rattle.logic.specs.Tree.{Tree, leaf, unary, binary}
use Rattle.logic.specs.Terms.{Term, of_thing, of_things, of_number, of_formula, of_plan, of_proof}
use Rattle.terms.specs.declared.records.Class.{Class}
use Rattle.terms.specs.declared.records.Class.TheVariants.{Thing, Things, Number, Formula, Plan, Proof}

abbrev pub kind_class : trees.Kind → Class
kind_class trees.thing = Thing
kind_class trees.number = Number
kind_class trees.predicate = Formula

abbrev pub leaf_class : trees.Leaf → Class
leaf_class (trees.var i) = Thing
leaf_class trees.nil = Things
leaf_class (trees.lit n) = Number
leaf_class trees.falsity = Formula
leaf_class trees.id = Plan
leaf_class x = Proof

abbrev pub unary_class : trees.Unary → Class
unary_class (trees.application k s) = kind_class k
unary_class trees.minus = Number
unary_class trees.neg = Formula
unary_class trees.forall = Formula
unary_class (trees.step h) = Plan
unary_class h = Proof

abbrev pub binary_class : trees.Binary → Class
binary_class trees.cons = Things
binary_class trees.add = Number
binary_class (trees.connect c) = Formula
binary_class trees.eq = Formula
binary_class trees.leq = Formula
binary_class (trees.fork h) = Plan
binary_class h = Proof

abbrev pub tree_class : Tree → Class
tree_class (leaf x) = leaf_class x
tree_class (unary h t) = unary_class h
tree_class (binary h t u) = binary_class h

-- the class of a typed term
abbrev pub term_class : Term → Class
term_class (of_thing t) = Thing
term_class (of_things l) = Things
term_class (of_number a) = Number
term_class (of_formula φ) = Formula
term_class (of_plan p) = Plan
term_class (of_proof P) = Proof
