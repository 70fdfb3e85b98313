-- The tables of heads are injective: heads with one image are one, and cc tells two constructors apart.
use Rattle.std.specs.Prelude.{◌≡◌}
use Rattle.std.proofs.Common.{ap}
use Rattle.terms.specs.declared.records.Kind as kinds
use Rattle.terms.specs.declared.records.Connective as connectives
use Rattle.terms.specs.declared.records.OneSided as ones
use Rattle.terms.specs.declared.records.TwoSided as twos
use Rattle.terms.specs.declared.records.OnePremise as premises
use Rattle.terms.specs.declared.records.TwoPremises as pairs
use Rattle.terms.specs.declared.records.Leaf as leaves
use Rattle.terms.specs.declared.records.Unary as unaries
use Rattle.terms.specs.declared.records.Binary as binaries
use Rattle.terms.specs.Heads.{kind_head, connective, one_sided, two_sided, one_premise, two_premises, leaf_head, unary_head, binary_head}

pub kind_head_injective : (x y : kinds.Kind) → kind_head x ≡ kind_head y → x ≡ y
kind_head_injective kinds.TheVariants.Thing kinds.TheVariants.Thing e = cc
kind_head_injective x kinds.TheVariants.Thing e = cc
kind_head_injective x y e = cc

connective_injective : (x y : connectives.Connective) → connective x ≡ connective y → x ≡ y
connective_injective connectives.TheVariants.Implication connectives.TheVariants.Implication e = cc
connective_injective x connectives.TheVariants.Implication e = cc
connective_injective x y e = cc

one_sided_injective : (x y : ones.OneSided) → one_sided x ≡ one_sided y → x ≡ y
one_sided_injective ones.TheVariants.Skip ones.TheVariants.Skip e = cc
one_sided_injective x ones.TheVariants.Skip e = cc
one_sided_injective x y e = cc

two_sided_injective : (x y : twos.TwoSided) → two_sided x ≡ two_sided y → x ≡ y
two_sided_injective twos.TheVariants.Recand twos.TheVariants.Recand e = cc
two_sided_injective x twos.TheVariants.Recand e = cc
two_sided_injective x y e = cc

one_premise_injective : (x y : premises.OnePremise) → one_premise x ≡ one_premise y → x ≡ y
one_premise_injective premises.TheVariants.Nnpp premises.TheVariants.Nnpp e = cc
one_premise_injective x premises.TheVariants.Nnpp e = cc
one_premise_injective x y e = cc

two_premises_injective : (x y : pairs.TwoPremises) → two_premises x ≡ two_premises y → x ≡ y
two_premises_injective pairs.TheVariants.Mp pairs.TheVariants.Mp e = cc
two_premises_injective x pairs.TheVariants.Mp e = cc
two_premises_injective x y e = cc

pub leaf_head_injective : (x y : leaves.Leaf) → leaf_head x ≡ leaf_head y → x ≡ y
leaf_head_injective leaves.TheVariants.Nil leaves.TheVariants.Nil e = cc
leaf_head_injective x leaves.TheVariants.Nil e = cc
leaf_head_injective x y e = cc

pub unary_head_injective : (x y : unaries.Unary) → unary_head x ≡ unary_head y → x ≡ y
unary_head_injective (unaries.TheVariants.Application j s) (unaries.TheVariants.Application k t) e = let kind = kind_head_injective j k (cc) in cc
unary_head_injective (unaries.TheVariants.Step g) (unaries.TheVariants.Step h) e = ap unaries.TheVariants.Step (one_sided_injective g h (cc))
unary_head_injective (unaries.TheVariants.From q) (unaries.TheVariants.From r) e = ap unaries.TheVariants.From (one_premise_injective q r (cc))
unary_head_injective x unaries.TheVariants.Minus e = cc
unary_head_injective x y e = cc

pub binary_head_injective : (x y : binaries.Binary) → binary_head x ≡ binary_head y → x ≡ y
binary_head_injective (binaries.TheVariants.Connect c) (binaries.TheVariants.Connect d) e = ap binaries.TheVariants.Connect (connective_injective c d (cc))
binary_head_injective (binaries.TheVariants.Fork g) (binaries.TheVariants.Fork h) e = ap binaries.TheVariants.Fork (two_sided_injective g h (cc))
binary_head_injective (binaries.TheVariants.FromBoth q) (binaries.TheVariants.FromBoth r) e = ap binaries.TheVariants.FromBoth (two_premises_injective q r (cc))
binary_head_injective x binaries.TheVariants.Cons e = cc
binary_head_injective x y e = cc
