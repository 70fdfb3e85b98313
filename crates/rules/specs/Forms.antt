-- What a rule concludes of the trees of its premises: the rules by the shapes of the premises.
use Rattle.std.specs.Prelude.{Bool, true, false, cond, ◌&&◌, nat_le}
use Rattle.std.proofs.Math.Option.{Option, none, some}
use Rattle.logic.specs.Syntax as syntax
use Rattle.logic.specs.Tree as trees
use Rattle.logic.specs.Tree.{Tree, leaf, unary, binary, same_tree, put_tree, size, foralls, open_indices}
use Rattle.terms.specs.declared.records.Class as classes
use Rattle.terms.specs.Classes.{tree_class}

-- the shape of a formula, as far as a rule looks at it; a denial is an implication of falsity
pub data Form : Type 0 where
  falsity : Form
  implies : Tree → Tree → Form
  denial : Tree → Tree → Form
  conjunction : Tree → Tree → Form
  disjunction : Tree → Tree → Form
  neg : Tree → Form
  eq : Tree → Tree → Form
  forall : Tree → Form
  other : Form

abbrev pub is_falsity : Tree → Bool
is_falsity (leaf trees.falsity) = true
is_falsity t = false

abbrev pub connective_form : syntax.Connective → Tree → Tree → Form
connective_form syntax.implication t u = cond (is_falsity u) (denial t u) (implies t u)
connective_form syntax.conjunction t u = conjunction t u
connective_form syntax.disjunction t u = disjunction t u

abbrev pub form : Tree → Form
form (leaf trees.falsity) = falsity
form (unary trees.neg t) = neg t
form (unary trees.forall t) = forall t
form (binary (trees.connect c) t u) = connective_form c t u
form (binary trees.eq t u) = eq t u
form t = other

-- ---- what each rule reads off a shape

-- the shape of what is denied
abbrev pub inner : Form → Form
inner (denial t u) = form t
inner f = other

abbrev pub denied : Form → Option Tree
denied (denial t u) = some t
denied f = none

abbrev pub negated : Form → Option Tree
negated (neg t) = some t
negated f = none

abbrev pub left_conjunct : Form → Option Tree
left_conjunct (conjunction t u) = some t
left_conjunct f = none

abbrev pub right_conjunct : Form → Option Tree
right_conjunct (conjunction t u) = some u
right_conjunct f = none

abbrev pub otherwise : Form → Option Tree
otherwise (disjunction t u) = some (binary (trees.connect syntax.implication) (unary trees.neg t) u)
otherwise f = none

abbrev pub refuted : Form → Option Tree
refuted (denial t u) = some (unary trees.neg t)
refuted f = none

abbrev pub turned : Form → Option Tree
turned (eq t u) = some (binary trees.eq u t)
turned f = none

-- the conclusion of an implication whose premise is x
abbrev pub detached : Form → Tree → Option Tree
detached (implies t u) x = cond (same_tree t x) (some u) none
detached (denial t u) x = cond (same_tree t x) (some u) none
detached f x = none

abbrev pub clashing : Form → Tree → Option Tree
clashing (neg t) x = cond (same_tree t x) (some (leaf trees.falsity)) none
clashing f x = none

abbrev pub absurdity : Form → Tree → Option Tree
absurdity falsity x = some x
absurdity f x = none

-- a = b and b = u give a = u
abbrev pub chained : Form → Form → Option Tree
chained (eq a b) (eq t u) = cond (same_tree b t) (some (binary trees.eq a u)) none
chained f g = none

-- a closed thing, which may be put for an index
abbrev pub is_thing : classes.Class → Bool
is_thing classes.TheVariants.Thing = true
is_thing c = false

abbrev pub closed_thing : Tree → Bool
closed_thing t = is_thing (tree_class t) && nat_le (open_indices t) 0 && nat_le (foralls t) 0

abbrev pub instantiated : Form → Tree → Option Tree
instantiated (forall t) x = cond (closed_thing x) (some (put_tree 0 x t)) none
instantiated f x = none

-- ψ at the left side implies ψ at the right side
abbrev pub replaced : Form → Tree → Option Tree
replaced (eq t u) x = cond (closed_thing t && closed_thing u) (some (binary (trees.connect syntax.implication) (put_tree 0 t x) (put_tree 0 u x))) none
replaced f x = none

-- ---- the rules of one premise and of two

abbrev pub from_one : syntax.OnePremise → Tree → Option Tree
from_one syntax.nnpp x = denied (inner (form x))
from_one syntax.eqsymm x = turned (form x)
from_one syntax.and1 x = left_conjunct (form x)
from_one syntax.and2 x = right_conjunct (form x)
from_one syntax.orimp x = otherwise (form x)
from_one syntax.addneg x = some (unary trees.neg (unary trees.neg x))
from_one syntax.intro x = refuted (form x)
from_one syntax.elimnot x = negated (inner (form x))

abbrev pub from_two : syntax.TwoPremises → Tree → Tree → Option Tree
from_two syntax.mp x y = detached (form x) y
from_two syntax.eqtrans x y = chained (form x) (form y)
from_two syntax.negelim x y = clashing (form x) y

-- what is kept of a conclusion: no larger, and with no more nested `forall`, than the limits
abbrev pub small : Tree → Bool
small t = nat_le (size t) 20_000 && nat_le (foralls t) 32
