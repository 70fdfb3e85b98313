-- What commands do: the action of each head, and what it makes of the results that its operands name.
use Rattle.command.specs.declared.command.Command.{Command}
use Rattle.std.specs.Prelude.{ℕ, ℤ, pos, Some, None}
use Rattle.std.specs.declared.option.Option as Rust
use Rattle.command.specs.declared.head.Head.{Head}
use Rattle.command.specs.Heads.{coded}
use Rattle.std.proofs.Math.Option.{Option, none, some}
use Rattle.std.proofs.Math.ListN.{get_elem?}
use Rattle.logic.specs.Syntax.{Number, Formula}
use Rattle.logic.specs.Syntax.{implication, conjunction, disjunction, skip, skol, recnn, recand, recor, recnor, recnand}
use Rattle.logic.specs.Syntax.{nnpp, eqsymm, and1, and2, orimp, addneg, intro, elimnot, mp, eqtrans, negelim}
use Rattle.logic.specs.Tree.{Kind, thing, number, predicate, Leaf, Unary, Binary, Tree, leaf, unary, binary}
use Rattle.logic.specs.Terms.{tree_term}
use Rattle.logic.specs.Facts.{Fact, sum, atmost, cancel, swap, eqleq, leqtrans, pair}
use Rattle.logic.specs.Rules.{◌>>=◌}
use Rattle.model.specs.State.{Names, symbol_at, tree_at, known_at, number_at, formula_at}

abbrev pub plain : ℕ → ℕ → ℕ → Command
plain code a b = record { code = code; a = a; b = b; c = 0; literal = pos 0 }

abbrev pub literal_of : ℤ → Command
literal_of n = record { code = 14; a = 0; b = 0; c = 0; literal = n }

-- ---- actions

-- how a head makes a term
pub data Maker : Type 0 where
  -- of a plain number, a literal or nothing
  of_number : (ℕ → Leaf) → Maker
  of_literal : (ℤ → Leaf) → Maker
  of_nothing : Leaf → Maker
  -- of a command that made a formula known
  of_known : Maker
  -- of one term, of a symbol and a term, of two terms
  of_one : Unary → Maker
  of_symbol : (Kind → ℕ → Unary) → Maker
  of_two : Binary → Maker

pub data FactHead : Type 0 where
  a_sum an_atmost a_cancel a_swap an_eqleq a_leqtrans a_pair : FactHead

pub data Action : Type 0 where
  a_symbol : Kind → Action
  -- things, lists, number terms and formulas
  a_term : Maker → Action
  -- plans and proofs
  a_deduction : Maker → Action
  a_fact : FactHead → Action
  a_query an_initial a_let a_same a_shows a_final : Action

-- what the commands with this head do
abbrev pub action : Head → Action
action Head.Thing = a_symbol thing
action Head.Number = a_symbol number
action Head.Pred = a_symbol predicate
action Head.Var = a_term (of_number Leaf.var)
action Head.Nil = a_term (of_nothing Leaf.nil)
action Head.Cons = a_term (of_two Binary.cons)
action Head.App = a_term (of_symbol Unary.application)
action Head.Lit = a_term (of_literal Leaf.lit)
action Head.Add = a_term (of_two Binary.add)
action Head.Minus = a_term (of_one Unary.minus)
action Head.False = a_term (of_nothing Leaf.falsity)
action Head.Implies = a_term (of_two (Binary.connect implication))
action Head.And = a_term (of_two (Binary.connect conjunction))
action Head.Or = a_term (of_two (Binary.connect disjunction))
action Head.Neg = a_term (of_one Unary.neg)
action Head.Eq = a_term (of_two Binary.eq)
action Head.Leq = a_term (of_two Binary.leq)
action Head.Forall = a_term (of_one Unary.forall)
action Head.Id = a_deduction (of_nothing Leaf.id)
action Head.Skip = a_deduction (of_one (Unary.step skip))
action Head.Skol = a_deduction (of_symbol (λ k s. Unary.step (skol s)))
action Head.Recand = a_deduction (of_two (Binary.fork recand))
action Head.Recor = a_deduction (of_two (Binary.fork recor))
action Head.Recnor = a_deduction (of_two (Binary.fork recnor))
action Head.Recnand = a_deduction (of_two (Binary.fork recnand))
action Head.Recnn = a_deduction (of_one (Unary.step recnn))
action Head.Hyp = a_deduction (of_number Leaf.hyp)
action Head.Known = a_deduction of_known
action Head.Assume = a_deduction (of_two Binary.assume)
action Head.Mp = a_deduction (of_two (Binary.from_both mp))
action Head.Absurd = a_deduction (of_two Binary.absurd)
action Head.Nnpp = a_deduction (of_one (Unary.from nnpp))
action Head.Eqrefl = a_deduction (of_one Unary.eqrefl)
action Head.Eqtrans = a_deduction (of_two (Binary.from_both eqtrans))
action Head.Eqsymm = a_deduction (of_one (Unary.from eqsymm))
action Head.Eqsub = a_deduction (of_two Binary.eqsub)
action Head.And1 = a_deduction (of_one (Unary.from and1))
action Head.And2 = a_deduction (of_one (Unary.from and2))
action Head.Orimp = a_deduction (of_one (Unary.from orimp))
action Head.Negelim = a_deduction (of_two (Binary.from_both negelim))
action Head.Addneg = a_deduction (of_one (Unary.from addneg))
action Head.Intro = a_deduction (of_one (Unary.from intro))
action Head.Elimnot = a_deduction (of_one (Unary.from elimnot))
action Head.Inst = a_deduction (of_two Binary.inst)
action Head.Sum = a_fact a_sum
action Head.Atmost = a_fact an_atmost
action Head.Cancel = a_fact a_cancel
action Head.Swap = a_fact a_swap
action Head.Eqleq = a_fact an_eqleq
action Head.Leqtrans = a_fact a_leqtrans
action Head.Pair = a_fact a_pair
action Head.Query = a_query
action Head.Initial = an_initial
action Head.Let = a_let
action Head.Same = a_same
action Head.Shows = a_shows
action Head.Final = a_final

abbrev pub acting : Rust.Option Head → Option Action
acting None = none
acting (Some h) = some (action h)

-- what a command with this code does, none if the code is no head's
abbrev pub action_of : ℕ → Option Action
action_of code = acting (coded code)

-- ---- terms

-- the head with the operands that are named; none if an operand names no result of its sort
abbrev pub assembled : Maker → Names → Command → Option Tree
assembled (of_number f) N c = some (leaf (f c.a))
assembled (of_literal f) N c = some (leaf (f c.literal))
assembled (of_nothing x) N c = some (leaf x)
assembled of_known N c = do
  φ ← known_at N c.a
  some (leaf (Leaf.known c.a))
assembled (of_one h) N c = do
  t ← tree_at N c.a
  some (unary h t)
assembled (of_symbol f) N c = do
  s ← symbol_at N c.a
  y ← get_elem? N.symbols s
  t ← tree_at N c.b
  some (unary (f y.kind s) t)
assembled (of_two h) N c = do
  t ← tree_at N c.a
  u ← tree_at N c.b
  some (binary h t u)

-- the term that the command makes; none if an operand names no result of its class
abbrev pub made : Maker → Names → Command → Option Tree
made m N c = do
  t ← assembled m N c
  x ← tree_term t
  some t

-- ---- facts

abbrev pub of_one_number : (Number → Fact) → Names → Command → Option Fact
of_one_number f N c = do
  a ← number_at N c.a
  some (f a)

abbrev pub of_two_numbers : (Number → Number → Fact) → Names → Command → Option Fact
of_two_numbers f N c = do
  a ← number_at N c.a
  b ← number_at N c.b
  some (f a b)

abbrev pub of_three_numbers : (Number → Number → Number → Fact) → Names → Command → Option Fact
of_three_numbers f N c = do
  a ← number_at N c.a
  b ← number_at N c.b
  d ← number_at N c.c
  some (f a b d)

abbrev pub of_two_formulas : (Formula → Formula → Fact) → Names → Command → Option Fact
of_two_formulas f N c = do
  φ ← formula_at N c.a
  ψ ← formula_at N c.b
  some (f φ ψ)

-- the fact that the command names; none if an operand names no result of its class
abbrev pub named_fact : FactHead → Names → Command → Option Fact
named_fact a_sum = of_two_numbers sum
named_fact an_atmost = of_two_numbers atmost
named_fact a_cancel = of_one_number cancel
named_fact a_swap = of_two_numbers swap
named_fact an_eqleq = of_two_numbers eqleq
named_fact a_leqtrans = of_three_numbers leqtrans
named_fact a_pair = of_two_formulas pair
