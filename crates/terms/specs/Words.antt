-- Records in words: a head with its own numbers, then its operands' indices.
use Rattle.std.specs.Prelude.{ℕ, List, ◌++◌, codes, decimal}
use Rattle.std.specs.Fmt.{signed_decimal}
use Rattle.terms.specs.declared.records.Kind as kinds
use Rattle.terms.specs.declared.records.Connective as connectives
use Rattle.terms.specs.declared.records.OneSided as ones
use Rattle.terms.specs.declared.records.TwoSided as twos
use Rattle.terms.specs.declared.records.OnePremise as premises
use Rattle.terms.specs.declared.records.TwoPremises as pairs
use Rattle.terms.specs.declared.records.Leaf as leaves
use Rattle.terms.specs.declared.records.Unary as unaries
use Rattle.terms.specs.declared.records.Binary as binaries
use Rattle.terms.specs.declared.records.Record as records

abbrev pub kind_word : kinds.Kind → List ℕ
kind_word kinds.TheVariants.Thing = codes "thing"
kind_word kinds.TheVariants.Number = codes "number"
kind_word kinds.TheVariants.Predicate = codes "pred"

abbrev pub connective_word : connectives.Connective → List ℕ
connective_word connectives.TheVariants.Implication = codes "implies"
connective_word connectives.TheVariants.Conjunction = codes "and"
connective_word connectives.TheVariants.Disjunction = codes "or"

abbrev pub one_sided_words : ones.OneSided → List ℕ
one_sided_words ones.TheVariants.Skip = codes "skip"
one_sided_words (ones.TheVariants.Skol s) = codes "skol " ++ decimal s
one_sided_words ones.TheVariants.Recnn = codes "recnn"

abbrev pub two_sided_word : twos.TwoSided → List ℕ
two_sided_word twos.TheVariants.Recand = codes "recand"
two_sided_word twos.TheVariants.Recor = codes "recor"
two_sided_word twos.TheVariants.Recnor = codes "recnor"
two_sided_word twos.TheVariants.Recnand = codes "recnand"

abbrev pub one_premise_word : premises.OnePremise → List ℕ
one_premise_word premises.TheVariants.Nnpp = codes "nnpp"
one_premise_word premises.TheVariants.Eqsymm = codes "eqsymm"
one_premise_word premises.TheVariants.And1 = codes "and1"
one_premise_word premises.TheVariants.And2 = codes "and2"
one_premise_word premises.TheVariants.Orimp = codes "orimp"
one_premise_word premises.TheVariants.Addneg = codes "addneg"
one_premise_word premises.TheVariants.Intro = codes "intro"
one_premise_word premises.TheVariants.Elimnot = codes "elimnot"

abbrev pub two_premises_word : pairs.TwoPremises → List ℕ
two_premises_word pairs.TheVariants.Mp = codes "mp"
two_premises_word pairs.TheVariants.Eqtrans = codes "eqtrans"
two_premises_word pairs.TheVariants.Negelim = codes "negelim"

abbrev pub leaf_words : leaves.Leaf → List ℕ
leaf_words (leaves.TheVariants.Var i) = codes "var " ++ decimal i
leaf_words leaves.TheVariants.Nil = codes "nil"
leaf_words (leaves.TheVariants.Lit n) = codes "lit " ++ signed_decimal n
leaf_words leaves.TheVariants.False = codes "false"
leaf_words leaves.TheVariants.Id = codes "id"
leaf_words (leaves.TheVariants.Hyp i) = codes "hyp " ++ decimal i
leaf_words (leaves.TheVariants.Known k) = codes "known " ++ decimal k

abbrev pub unary_words : unaries.Unary → List ℕ
unary_words (unaries.TheVariants.Application k s) = codes "app " ++ (kind_word k ++ (codes " " ++ decimal s))
unary_words unaries.TheVariants.Minus = codes "minus"
unary_words unaries.TheVariants.Neg = codes "neg"
unary_words unaries.TheVariants.Forall = codes "forall"
unary_words (unaries.TheVariants.Step h) = one_sided_words h
unary_words unaries.TheVariants.Eqrefl = codes "eqrefl"
unary_words (unaries.TheVariants.From r) = one_premise_word r

abbrev pub binary_word : binaries.Binary → List ℕ
binary_word binaries.TheVariants.Cons = codes "cons"
binary_word binaries.TheVariants.Add = codes "add"
binary_word (binaries.TheVariants.Connect c) = connective_word c
binary_word binaries.TheVariants.Eq = codes "eq"
binary_word binaries.TheVariants.Leq = codes "leq"
binary_word (binaries.TheVariants.Fork h) = two_sided_word h
binary_word binaries.TheVariants.Assume = codes "assume"
binary_word binaries.TheVariants.Absurd = codes "absurd"
binary_word binaries.TheVariants.Eqsub = codes "eqsub"
binary_word binaries.TheVariants.Inst = codes "inst"
binary_word (binaries.TheVariants.FromBoth r) = two_premises_word r

abbrev pub record_words : records.Record → List ℕ
record_words (records.TheVariants.Leaf h) = leaf_words h
record_words (records.TheVariants.Unary h a) = unary_words h ++ (codes " of " ++ decimal a)
record_words (records.TheVariants.Binary h a b) = binary_word h ++ (codes " of " ++ (decimal a ++ (codes " and " ++ decimal b)))
