-- Terms of every kind as trees of three shapes, and what only counts or walks, said once of them.
use Rattle.std.specs.Prelude.{ℕ, suc, pred, ◌+◌, max, Bool, true, false, cond, ◌&&◌, ◌||◌, List, [], ◌∷◌, ◌++◌, ℤ, ◌==◌, nat_lt}
use Rattle.std.proofs.Math.Decide.{ℕ_discrete}
use Rattle.std.proofs.Math.Bool.{decide}
use Rattle.std.proofs.Math.Option.{Option, none, some}
use Rattle.logic.specs.Integers.{int_discrete}
use Rattle.logic.specs.Syntax.{Thing, Things, Number, Connective, Relation, Formula, OneSided, TwoSided, Plan, OnePremise, TwoPremises, Proof}
use Rattle.logic.specs.Syntax.{ConnectiveDiscrete, OneSidedDiscrete, TwoSidedDiscrete, OnePremiseDiscrete, TwoPremisesDiscrete}

-- what a symbol yields
pub data Kind : Type 0 where
  thing number predicate : Kind
  deriving Discrete as KindDiscrete

pub data Leaf : Type 0 where
  var : ℕ → Leaf
  nil : Leaf
  lit : ℤ → Leaf
  falsity : Leaf
  id : Leaf
  hyp : ℕ → Leaf
  known : ℕ → Leaf
  deriving Discrete as LeafDiscrete

-- `application k s` applies the symbol s of kind k to its list of arguments
pub data Unary : Type 0 where
  application : Kind → ℕ → Unary
  minus : Unary
  neg : Unary
  forall : Unary
  step : OneSided → Unary
  eqrefl : Unary
  from : OnePremise → Unary
  deriving Discrete as UnaryDiscrete

pub data Binary : Type 0 where
  cons : Binary
  add : Binary
  connect : Connective → Binary
  eq : Binary
  leq : Binary
  fork : TwoSided → Binary
  assume : Binary
  absurd : Binary
  eqsub : Binary
  inst : Binary
  from_both : TwoPremises → Binary
  deriving Discrete as BinaryDiscrete

pub data Tree : Type 0 where
  leaf : Leaf → Tree
  unary : Unary → Tree → Tree
  binary : Binary → Tree → Tree → Tree
  deriving Discrete as TreeDiscrete

abbrev pub same_tree : Tree → Tree → Bool
same_tree t u =
    decide (TreeDiscrete (LeafDiscrete ℕ_discrete int_discrete) (UnaryDiscrete KindDiscrete ℕ_discrete (OneSidedDiscrete ℕ_discrete) OnePremiseDiscrete) (BinaryDiscrete ConnectiveDiscrete TwoSidedDiscrete TwoPremisesDiscrete) t u)

-- ---- the tree of a term

abbrev mutual
  pub thing_tree : Thing → Tree
  thing_tree (Thing.var i) = leaf (var i)
  thing_tree (Thing.apply s l) = unary (application thing s) (things_tree l)

  pub things_tree : Things → Tree
  things_tree Things.nil = leaf nil
  things_tree (Things.cons t l) = binary cons (thing_tree t) (things_tree l)

abbrev pub number_tree : Number → Tree
number_tree (Number.lit n) = leaf (lit n)
number_tree (Number.add a b) = binary add (number_tree a) (number_tree b)
number_tree (Number.minus a) = unary minus (number_tree a)
number_tree (Number.measure s l) = unary (application number s) (things_tree l)

abbrev pub relation_head : Relation → Binary
relation_head Relation.equal = eq
relation_head Relation.at_most = leq

abbrev pub formula_tree : Formula → Tree
formula_tree Formula.falsity = leaf falsity
formula_tree (Formula.connect c φ ψ) = binary (connect c) (formula_tree φ) (formula_tree ψ)
formula_tree (Formula.neg φ) = unary neg (formula_tree φ)
formula_tree (Formula.eq_things t u) = binary eq (thing_tree t) (thing_tree u)
formula_tree (Formula.relate r a b) = binary (relation_head r) (number_tree a) (number_tree b)
formula_tree (Formula.atom s l) = unary (application predicate s) (things_tree l)
formula_tree (Formula.forall φ) = unary forall (formula_tree φ)

abbrev pub plan_tree : Plan → Tree
plan_tree Plan.id = leaf id
plan_tree (Plan.step h p) = unary (step h) (plan_tree p)
plan_tree (Plan.fork h p q) = binary (fork h) (plan_tree p) (plan_tree q)

abbrev pub proof_tree : Proof → Tree
proof_tree (Proof.hyp i) = leaf (hyp i)
proof_tree (Proof.known k) = leaf (known k)
proof_tree (Proof.assume φ P) = binary assume (formula_tree φ) (proof_tree P)
proof_tree (Proof.absurd P φ) = binary absurd (proof_tree P) (formula_tree φ)
proof_tree (Proof.eqrefl_thing t) = unary eqrefl (thing_tree t)
proof_tree (Proof.eqrefl_number a) = unary eqrefl (number_tree a)
proof_tree (Proof.eqsub P ψ) = binary eqsub (proof_tree P) (formula_tree ψ)
proof_tree (Proof.inst t P) = binary inst (thing_tree t) (proof_tree P)
proof_tree (Proof.from r P) = unary (from r) (proof_tree P)
proof_tree (Proof.from_both r P Q) = binary (from_both r) (proof_tree P) (proof_tree Q)

-- ---- size and parts

-- one, and the sizes of the operands that are terms, written out even where shared
abbrev pub size : Tree → ℕ
size (leaf x) = 1
size (unary h t) = suc (size t)
size (binary h t u) = suc (size t + size u)

abbrev pub operands : Tree → List Tree
operands (leaf x) = []
operands (unary h t) = t ∷ []
operands (binary h t u) = t ∷ u ∷ []

-- all trees that it is built from, operands before heads, left to right, and itself last
abbrev pub parts : Tree → List Tree
parts (leaf x) = leaf x ∷ []
parts (unary h t) = parts t ++ (unary h t ∷ [])
parts (binary h t u) = parts t ++ parts u ++ (binary h t u ∷ [])

-- ---- the heads that bind: `forall` an index, `assume` a hypothesis

abbrev pub binds : Unary → Bool
binds (application k s) = false
binds minus = false
binds neg = false
binds forall = true
binds (step h) = false
binds eqrefl = false
binds (from r) = false

abbrev pub assumes : Binary → Bool
assumes cons = false
assumes add = false
assumes (connect c) = false
assumes eq = false
assumes leq = false
assumes (fork h) = false
assumes assume = true
assumes absurd = false
assumes eqsub = false
assumes inst = false
assumes (from_both r) = false

-- how many `forall`, and how many `assume`, are nested
abbrev pub foralls : Tree → ℕ
foralls (leaf x) = 0
foralls (unary h t) = let n = foralls t in cond (binds h) (suc n) n
foralls (binary h t u) = max (foralls t) (foralls u)

abbrev pub assumptions : Tree → ℕ
assumptions (leaf x) = 0
assumptions (unary h t) = assumptions t
assumptions (binary h t u) = let n = max (assumptions t) (assumptions u) in cond (assumes h) (suc n) n

-- ---- open indices and open hypotheses

abbrev pub variable : Leaf → Option ℕ
variable (var i) = some i
variable nil = none
variable (lit n) = none
variable falsity = none
variable id = none
variable (hyp i) = none
variable (known k) = none

abbrev pub hypothesis : Leaf → Option ℕ
hypothesis (var i) = none
hypothesis nil = none
hypothesis (lit n) = none
hypothesis falsity = none
hypothesis id = none
hypothesis (hyp i) = some i
hypothesis (known k) = none

-- the least number above
abbrev pub above : Option ℕ → ℕ
above none = 0
above (some i) = suc i

-- the least n such that each index that no `forall` of the term binds is less than n; 0 if the term is closed
abbrev pub open_indices : Tree → ℕ
open_indices (leaf x) = above (variable x)
open_indices (unary h t) = let n = open_indices t in cond (binds h) (pred n) n
open_indices (binary h t u) = max (open_indices t) (open_indices u)

-- the same of the hypotheses that no `assume` of the proof makes
abbrev pub open_hypotheses : Tree → ℕ
open_hypotheses (leaf x) = above (hypothesis x)
open_hypotheses (unary h t) = open_hypotheses t
open_hypotheses (binary h t u) = let n = max (open_hypotheses t) (open_hypotheses u) in cond (assumes h) (pred n) n

-- ---- symbols and literals

abbrev pub same_kind : Kind → Kind → Bool
same_kind thing thing = true
same_kind thing number = false
same_kind thing predicate = false
same_kind number thing = false
same_kind number number = true
same_kind number predicate = false
same_kind predicate thing = false
same_kind predicate number = false
same_kind predicate predicate = true

-- the head applies the symbol s of kind k
abbrev pub applies : Kind → ℕ → Unary → Bool
applies k s (application j r) = same_kind k j && s == r
applies k s minus = false
applies k s neg = false
applies k s forall = false
applies k s (step h) = false
applies k s eqrefl = false
applies k s (from r) = false

-- the symbol s of kind k stands in the term
abbrev pub stands : Kind → ℕ → Tree → Bool
stands k s (leaf x) = false
stands k s (unary h t) = applies k s h || stands k s t
stands k s (binary h t u) = stands k s t || stands k s u

-- each literal in the term passes the test
abbrev pub literal_passes : (ℤ → Bool) → Leaf → Bool
literal_passes test (var i) = true
literal_passes test nil = true
literal_passes test (lit n) = test n
literal_passes test falsity = true
literal_passes test id = true
literal_passes test (hyp i) = true
literal_passes test (known k) = true

abbrev pub literals_pass : (ℤ → Bool) → Tree → Bool
literals_pass test (leaf x) = literal_passes test x
literals_pass test (unary h t) = literals_pass test t
literals_pass test (binary h t u) = literals_pass test t && literals_pass test u

-- ---- substitution

-- a thing's tree with each index n more
abbrev pub raise_leaf : ℕ → Leaf → Leaf
raise_leaf n (var i) = var (i + n)
raise_leaf n nil = nil
raise_leaf n (lit m) = lit m
raise_leaf n falsity = falsity
raise_leaf n id = id
raise_leaf n (hyp i) = hyp i
raise_leaf n (known k) = known k

abbrev pub raise_tree : ℕ → Tree → Tree
raise_tree n (leaf x) = leaf (raise_leaf n x)
raise_tree n (unary h t) = unary h (raise_tree n t)
raise_tree n (binary h t u) = binary h (raise_tree n t) (raise_tree n u)

-- the index k, and the thing's tree t, as they are under the head
abbrev pub under : Unary → ℕ → ℕ
under h k = cond (binds h) (suc k) k

abbrev pub raised_under : Unary → Tree → Tree
raised_under h t = cond (binds h) (raise_tree 1 t) t

-- the leaf, where the index k is replaced by the tree t and higher indices are lowered
abbrev pub put_index : ℕ → Tree → Leaf → Option ℕ → Tree
put_index k t x none = leaf x
put_index k t x (some i) = cond (nat_lt i k) (leaf x) (cond (i == k) t (leaf (var (pred i))))

-- index k replaced by the thing's tree t, which is raised under each `forall`
abbrev pub put_tree : ℕ → Tree → Tree → Tree
put_tree k t (leaf x) = put_index k t x (variable x)
put_tree k t (unary h u) = unary h (put_tree (under h k) (raised_under h t) u)
put_tree k t (binary h u v) = binary h (put_tree k t u) (put_tree k t v)

-- the same with t raised only where it is put: under d binders, by d
abbrev pub put_late : ℕ → Tree → Tree → Tree
put_late d t (leaf x) = put_index d (raise_tree d t) x (variable x)
put_late d t (unary h u) = unary h (put_late (under h d) t u)
put_late d t (binary h u v) = binary h (put_late d t u) (put_late d t v)

-- the size of the result, if the thing put for index k has size n
abbrev pub put_size_at : ℕ → ℕ → Option ℕ → ℕ
put_size_at k n none = 1
put_size_at k n (some i) = cond (i == k) n 1

abbrev pub put_size : ℕ → ℕ → Tree → ℕ
put_size k n (leaf x) = put_size_at k n (variable x)
put_size k n (unary h t) = suc (put_size (under h k) n t)
put_size k n (binary h t u) = suc (put_size k n t + put_size k n u)
