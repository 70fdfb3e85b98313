-- What is asked of a term by its own head, and of a fact's operands.
use Rattle.std.specs.Prelude.{ℕ, suc, Bool, true, false, not, ◌&&◌, ◌||◌, List, [], ◌∷◌, ◌==◌}
use Rattle.std.proofs.Math.Option.{Option, none, some}
use Rattle.std.proofs.Math.ListN.{get_elem?}
use Rattle.logic.specs.Syntax.{Formula, Plan}
use Rattle.logic.specs.Tree.{thing, number, predicate, Unary, Binary, Tree, leaf, unary, binary, number_tree, formula_tree, literal_passes, stands}
use Rattle.logic.specs.Arithmetic.{Arithmetic}
use Rattle.logic.specs.Facts.{Fact, sum, atmost, cancel, swap, eqleq, leqtrans, pair}
use Rattle.logic.specs.Plans.{symbols, distinct}
use Rattle.logic.specs.Closed.{below, closed}
use Rattle.model.specs.State.{Symbol, Names}

-- ---- a symbol's arguments

-- how many things the list has
abbrev pub count : Tree → ℕ
count (leaf x) = 0
count (unary h t) = 0
count (binary h t l) = suc (count l)

abbrev pub asks : Option Symbol → ℕ → Bool
asks none n = false
asks (some y) n = y.arity == n

-- the list is as long as the symbol asks
abbrev pub counted : Names → Unary → Tree → Bool
counted N (Unary.application k s) l = asks (get_elem? N.symbols s) (count l)
counted N Unary.minus t = true
counted N Unary.neg t = true
counted N Unary.forall t = true
counted N (Unary.step h) t = true
counted N Unary.eqrefl t = true
counted N (Unary.from r) t = true

-- a symbol has as many arguments as it asks for
abbrev pub full : Names → Tree → Bool
full N (leaf x) = true
full N (unary h t) = counted N h t
full N (binary h t u) = true

-- ---- literals, and what must be closed

abbrev pub literal_admitted : Arithmetic → Tree → Bool
literal_admitted A (leaf x) = literal_passes A.admits x
literal_admitted A (unary h t) = true
literal_admitted A (binary h t u) = true

abbrev pub closed_operand : Unary → Tree → Bool
closed_operand (Unary.application k s) t = true
closed_operand Unary.minus t = true
closed_operand Unary.neg t = true
closed_operand Unary.forall t = true
closed_operand (Unary.step h) t = true
closed_operand Unary.eqrefl t = closed t
closed_operand (Unary.from r) t = true

abbrev pub closed_operands : Binary → Tree → Tree → Bool
closed_operands Binary.cons t u = true
closed_operands Binary.add t u = true
closed_operands (Binary.connect c) t u = true
closed_operands Binary.eq t u = true
closed_operands Binary.leq t u = true
closed_operands (Binary.fork h) t u = true
closed_operands Binary.assume t u = closed t
closed_operands Binary.absurd t u = closed u
closed_operands Binary.eqsub t u = below 1 u
closed_operands Binary.inst t u = closed t
closed_operands (Binary.from_both r) t u = true

-- things, number terms and formulas in a proof are closed, but for index 0 of the formula in which `eqsub` replaces
abbrev pub closed_within : Tree → Bool
closed_within (leaf x) = true
closed_within (unary h t) = closed_operand h t
closed_within (binary h t u) = closed_operands h t u

-- ---- facts

abbrev pub fact_operands : Fact → List Tree
fact_operands (sum a b) = number_tree a ∷ number_tree b ∷ []
fact_operands (atmost a b) = number_tree a ∷ number_tree b ∷ []
fact_operands (cancel a) = number_tree a ∷ []
fact_operands (swap a b) = number_tree a ∷ number_tree b ∷ []
fact_operands (eqleq a b) = number_tree a ∷ number_tree b ∷ []
fact_operands (leqtrans a b c) = number_tree a ∷ number_tree b ∷ number_tree c ∷ []
fact_operands (pair φ ψ) = formula_tree φ ∷ formula_tree ψ ∷ []

abbrev pub each : (Tree → Bool) → List Tree → Bool
each test [] = true
each test (t ∷ l) = test t && each test l

-- the fact's operands are closed
abbrev pub closed_fact : Fact → Bool
closed_fact f = each closed (fact_operands f)

-- ---- Skolem symbols

-- the symbol, of whatever kind, stands in the term
abbrev pub appears : ℕ → Tree → Bool
appears s t = stands thing s t || stands number s t || stands predicate s t

abbrev pub none_appears : List ℕ → Tree → Bool
none_appears [] t = true
none_appears (s ∷ l) t = not (appears s t) && none_appears l t

-- no Skolem symbol stands in the query, or twice in the plan
abbrev pub new_symbols : Plan → Formula → Bool
new_symbols p φ = distinct (symbols p) && none_appears (symbols p) (formula_tree φ)
