-- The heads of the records as heads of trees: one table for each kind of head.
use Rattle.logic.specs.Syntax as syntax
use Rattle.logic.specs.Tree as trees
use Rattle.terms.specs.declared.records.Kind as kinds
use Rattle.terms.specs.declared.records.Connective as connectives
use Rattle.terms.specs.declared.records.OneSided as ones
use Rattle.terms.specs.declared.records.TwoSided as twos
use Rattle.terms.specs.declared.records.OnePremise as premises
use Rattle.terms.specs.declared.records.TwoPremises as pairs
use Rattle.terms.specs.declared.records.Leaf as leaves
use Rattle.terms.specs.declared.records.Unary as unaries
use Rattle.terms.specs.declared.records.Binary as binaries

abbrev pub kind_head : kinds.Kind → trees.Kind
kind_head kinds.TheVariants.Thing = trees.thing
kind_head kinds.TheVariants.Number = trees.number
kind_head kinds.TheVariants.Predicate = trees.predicate

abbrev pub connective : connectives.Connective → syntax.Connective
connective connectives.TheVariants.Implication = syntax.implication
connective connectives.TheVariants.Conjunction = syntax.conjunction
connective connectives.TheVariants.Disjunction = syntax.disjunction

abbrev pub one_sided : ones.OneSided → syntax.OneSided
one_sided ones.TheVariants.Skip = syntax.skip
one_sided (ones.TheVariants.Skol s) = syntax.skol s
one_sided ones.TheVariants.Recnn = syntax.recnn

abbrev pub two_sided : twos.TwoSided → syntax.TwoSided
two_sided twos.TheVariants.Recand = syntax.recand
two_sided twos.TheVariants.Recor = syntax.recor
two_sided twos.TheVariants.Recnor = syntax.recnor
two_sided twos.TheVariants.Recnand = syntax.recnand

abbrev pub one_premise : premises.OnePremise → syntax.OnePremise
one_premise premises.TheVariants.Nnpp = syntax.nnpp
one_premise premises.TheVariants.Eqsymm = syntax.eqsymm
one_premise premises.TheVariants.And1 = syntax.and1
one_premise premises.TheVariants.And2 = syntax.and2
one_premise premises.TheVariants.Orimp = syntax.orimp
one_premise premises.TheVariants.Addneg = syntax.addneg
one_premise premises.TheVariants.Intro = syntax.intro
one_premise premises.TheVariants.Elimnot = syntax.elimnot

abbrev pub two_premises : pairs.TwoPremises → syntax.TwoPremises
two_premises pairs.TheVariants.Mp = syntax.mp
two_premises pairs.TheVariants.Eqtrans = syntax.eqtrans
two_premises pairs.TheVariants.Negelim = syntax.negelim

abbrev pub leaf_head : leaves.Leaf → trees.Leaf
leaf_head (leaves.TheVariants.Var i) = trees.var i
leaf_head leaves.TheVariants.Nil = trees.nil
leaf_head (leaves.TheVariants.Lit n) = trees.lit n
leaf_head leaves.TheVariants.False = trees.falsity
leaf_head leaves.TheVariants.Id = trees.id
leaf_head (leaves.TheVariants.Hyp i) = trees.hyp i
leaf_head (leaves.TheVariants.Known k) = trees.known k

abbrev pub unary_head : unaries.Unary → trees.Unary
unary_head (unaries.TheVariants.Application k s) = trees.application (kind_head k) s
unary_head unaries.TheVariants.Minus = trees.minus
unary_head unaries.TheVariants.Neg = trees.neg
unary_head unaries.TheVariants.Forall = trees.forall
unary_head (unaries.TheVariants.Step h) = trees.step (one_sided h)
unary_head unaries.TheVariants.Eqrefl = trees.eqrefl
unary_head (unaries.TheVariants.From r) = trees.from (one_premise r)

abbrev pub binary_head : binaries.Binary → trees.Binary
binary_head binaries.TheVariants.Cons = trees.cons
binary_head binaries.TheVariants.Add = trees.add
binary_head (binaries.TheVariants.Connect c) = trees.connect (connective c)
binary_head binaries.TheVariants.Eq = trees.eq
binary_head binaries.TheVariants.Leq = trees.leq
binary_head (binaries.TheVariants.Fork h) = trees.fork (two_sided h)
binary_head binaries.TheVariants.Assume = trees.assume
binary_head binaries.TheVariants.Absurd = trees.absurd
binary_head binaries.TheVariants.Eqsub = trees.eqsub
binary_head binaries.TheVariants.Inst = trees.inst
binary_head (binaries.TheVariants.FromBoth r) = trees.from_both (two_premises r)
