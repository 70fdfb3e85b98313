-- A refutation written out as the lines of two files, and when it fits.
use Rattle.command.specs.declared.command.Command.{Command}
use Rattle.command.specs.declared.command.Item.{Item}
use Rattle.std.specs.Prelude.{◌≡◌, ℕ, suc, ◌+◌, ◌≤◌, true, false, List, [], ◌∷◌, ◌++◌, length, Some, nat_le}
use Rattle.std.proofs.Math.Option.{some}
use Rattle.logic.specs.Syntax.{Formula, Plan, Proof, falsity}
use Rattle.logic.specs.Tree.{Tree, formula_tree, proof_tree, open_hypotheses, parts}
use Rattle.logic.specs.Arithmetic.{Arithmetic}
use Rattle.logic.specs.Rules.{Concludes}
use Rattle.logic.specs.Facts.{Fact, States}
use Rattle.logic.specs.Plans.{Turns, Walked, misfit, yields, walk, symbols, member, distinct}
use Rattle.logic.specs.Positions.{conclusions}
use Rattle.logic.specs.Closed.{closed}
use Rattle.model.specs.Limits.{Limits, Room, within}
use Rattle.model.specs.State.{Symbol, term, fact, nothing, Names, no_names, with_result, with_symbol, fresh, formula_at, plan_at, proof_at, known_at, thing_arity}
use Rattle.logic.specs.Keeping.{keep_each}
use Rattle.model.specs.Commands.{Maker, FactHead, a_symbol, a_term, a_deduction, a_fact, a_query, an_initial, a_let, a_final, action_of, made, named_fact}
use Rattle.model.specs.Tests.{full, literal_admitted, closed_within, closed_fact, appears}
use Rattle.model.specs.Session.{parts_of_each, each_within}
use Rattle.model.specs.Run.{accepts, run}
use Rattle.model.specs.Theorems.{before_misfit}

-- ---- lines

-- what a line writes: a symbol; a thing, list, number term or formula; a plan or proof; a fact with the formula that it states; or a `let`
-- with its proof and the formula concluded
pub data Writes : Type 0 where
  writes_symbol : Symbol → Writes
  writes_term : Tree → Writes
  writes_deduction : Tree → Writes
  writes_fact : Fact → Formula → Writes
  writes_let : Proof → Formula → Writes

pub record Line : Type 0 where
  pub number : ℕ
  pub command : Command
  pub writes : Writes

-- a line of `query`, `initial` or `final`
pub record Last : Type 0 where
  pub number : ℕ
  pub command : Command

abbrev pub items : List Line → List Item
items [] = []
items (e ∷ l) = record { line = e.number; content = Some e.command } ∷ items l

abbrev pub last_item : Last → List Item
last_item e = record { line = e.number; content = Some e.command } ∷ []

-- ---- what the lines written so far give names to

abbrev pub named : Names → Writes → Names
named N (writes_symbol y) = with_symbol N y
named N (writes_term t) = with_result N (term t)
named N (writes_deduction t) = with_result N (term t)
named N (writes_fact f φ) = with_result N (fact φ)
named N (writes_let P φ) = with_result N (fact φ)

abbrev pub named_each : Names → List Line → Names
named_each N [] = N
named_each N (e ∷ l) = named_each (named N e.writes) l

-- ---- lines rightly written

module _ (A : Arithmetic) where
  -- The operands name what was written before, and make the term. A symbol that it applies has its arguments, a literal is admitted, and
  -- what must be closed is.
  pub record Makes (N : Names) (c : Command) (m : Maker) (t : Tree) : Type 0 where
    pub makes : made m N c ≡ some t
    pub has_arguments : full N t ≡ true
    pub admits_literal : literal_admitted A t ≡ true
    pub closes : closed_within t ≡ true

  -- a fact is one that the arithmetic states, of closed operands; a `let` has a proof with no hypothesis open, which concludes its formula
  -- from what is known
  abbrev pub Rightly : Names → Command → Writes → Type 0
  Rightly N c (writes_symbol y) = (action_of c.code ≡ some (a_symbol y.kind)) × (c.a ≡ y.arity)
  Rightly N c (writes_term t) = (m : Maker) × (action_of c.code ≡ some (a_term m)) × Makes N c m t
  Rightly N c (writes_deduction t) = (m : Maker) × (action_of c.code ≡ some (a_deduction m)) × Makes N c m t
  Rightly N c (writes_fact f φ) = (m : FactHead) × (action_of c.code ≡ some (a_fact m)) × (named_fact m N c ≡ some f) × (closed_fact f ≡ true) × States A f φ
  Rightly N c (writes_let P φ) =
      (action_of c.code ≡ some a_let) × (proof_at N c.a ≡ some P) × (open_hypotheses (proof_tree P) ≡ 0) × Concludes (known_at N) [] P φ

  abbrev pub LinesWritten : Names → List Line → Type 0
  LinesWritten N [] = Unit {0}
  LinesWritten N (e ∷ l) = Rightly N e.command e.writes × LinesWritten (named N e.writes) l

-- before the query there are symbols, and terms that are no plans and no proofs
abbrev pub Asking : Writes → Type 0
Asking (writes_symbol y) = Unit {0}
Asking (writes_term t) = Unit {0}
Asking (writes_deduction t) = ⊥
Asking (writes_fact f φ) = ⊥
Asking (writes_let P φ) = ⊥

abbrev pub EachAsking : List Line → Type 0
EachAsking [] = Unit {0}
EachAsking (e ∷ l) = Asking e.writes × EachAsking l

-- ---- the two files

-- The query's file: symbols and the query's terms, then `query`. The proof's file: the plan's terms, `initial`; facts with their
-- terms, the proof's terms, and `final`. A term may be written more than once, symbols, terms and facts may come in any order, and
-- `let` may stand among them.
pub record Script : Type 0 where
  pub query_lines : List Line
  pub query_line : Last
  pub plan_lines : List Line
  pub initial_line : Last
  pub proof_lines : List Line
  pub final_line : Last
  pub query : Formula
  pub plan : Plan
  pub initial : Formula
  pub proof : Proof

abbrev pub query_file : Script → List Item
query_file w = items w.query_lines ++ last_item w.query_line

abbrev pub proof_file : Script → List Item
proof_file w = items w.plan_lines ++ (last_item w.initial_line ++ (items w.proof_lines ++ last_item w.final_line))

-- the names at `query`, after it, at `initial`, after it, and at `final`
abbrev pub at_query : Script → Names
at_query w = named_each no_names w.query_lines

abbrev pub asked : Script → Names
asked w = with_result (at_query w) nothing

abbrev pub at_initial : Script → Names
at_initial w = named_each (asked w) w.plan_lines

abbrev pub begun : Script → Names
begun w = with_result (at_initial w) (fact w.initial)

abbrev pub at_final : Script → Names
at_final w = named_each (begun w) w.proof_lines

pub record WrittenOut (A : Arithmetic) (w : Script) : Type 0 where
  pub query_written : LinesWritten A no_names w.query_lines
  pub while_asking : EachAsking w.query_lines
  pub query_named : (action_of w.query_line.command.code ≡ some a_query) × (formula_at (at_query w) w.query_line.command.a ≡ some w.query)
  pub query_closed : closed (formula_tree w.query) ≡ true
  pub plan_written : LinesWritten A (asked w) w.plan_lines
  pub plan_named : (action_of w.initial_line.command.code ≡ some an_initial) × (plan_at (at_initial w) w.initial_line.command.a ≡ some w.plan)
  -- each Skolem symbol stands once in the plan, and not in the query
  pub symbols_once : distinct (symbols w.plan) ≡ true
  pub symbols_new : (s : ℕ) → member s (symbols w.plan) ≡ true → appears s (formula_tree w.query) ≡ false
  pub plan_turns : Turns (thing_arity (at_initial w)) 0 w.plan w.query w.initial
  pub proof_written : LinesWritten A (begun w) w.proof_lines
  pub proof_named : (action_of w.final_line.command.code ≡ some a_final) × (proof_at (at_final w) w.final_line.command.a ≡ some w.proof)
  pub proof_closed : open_hypotheses (proof_tree w.proof) ≡ 0
  -- from the initial formula, the facts and what was let, which are all that is known
  pub refutes : Concludes (known_at (at_final w)) [] w.proof falsity

-- ---- what fits: sizes, nesting, indices, arguments, and counts of distinct terms, symbols and commands

-- the formulas that the plan's positions take or yield
abbrev pub met_by : Walked → List Formula
met_by (misfit k) = []
met_by (yields k met ψ) = met

abbrev pub met : Script → List Formula
met w = met_by (walk (thing_arity (at_initial w)) 0 w.plan w.query)

-- the formulas that the sub-proofs conclude
abbrev pub conclusions_of : Names → Proof → List Formula
conclusions_of N P = before_misfit (conclusions (known_at N) [] P)

-- the terms that a line writes, or keeps of its fact or of what its sub-proofs conclude
abbrev pub terms_of : Names → Writes → List Tree
terms_of N (writes_symbol y) = []
terms_of N (writes_term t) = t ∷ []
terms_of N (writes_deduction t) = t ∷ []
terms_of N (writes_fact f φ) = parts (formula_tree φ)
terms_of N (writes_let P φ) = parts_of_each (conclusions_of N P)

abbrev pub terms_of_each : Names → List Line → List Tree
terms_of_each N [] = []
terms_of_each N (e ∷ l) = terms_of N e.writes ++ terms_of_each (named N e.writes) l

-- all terms written, those kept, and those that `final` counts
abbrev pub all_terms : Script → List Tree
all_terms w =
    terms_of_each no_names w.query_lines
    ++ terms_of_each (asked w) w.plan_lines
    ++ parts_of_each (met w)
    ++ terms_of_each (begun w) w.proof_lines
    ++ parts_of_each (conclusions_of (at_final w) w.proof)

-- how many distinct terms a list has
abbrev pub distinct_terms : List Tree → ℕ
distinct_terms l = length (keep_each [] l)

module _ (L : Limits) where
  abbrev pub Small : Names → Writes → Type 0
  Small N (writes_symbol y) = nat_le y.arity L.arguments ≡ true
  Small N (writes_term t) = within L t ≡ true
  Small N (writes_deduction t) = within L t ≡ true
  Small N (writes_fact f φ) = within L (formula_tree φ) ≡ true
  Small N (writes_let P φ) = each_within L (conclusions_of N P) ≡ true

  abbrev pub EachSmall : Names → List Line → Type 0
  EachSmall N [] = Unit {0}
  EachSmall N (e ∷ l) = Small N e.writes × EachSmall (named N e.writes) l

-- with `query`, `initial` and `final`
abbrev pub command_count : Script → ℕ
command_count w = suc (suc (suc (length w.query_lines + length w.plan_lines + length w.proof_lines)))

pub record Fits (L : Limits) (R : Room) (w : Script) : Type 0 where
  pub query_small : EachSmall L no_names w.query_lines
  pub plan_small : EachSmall L (asked w) w.plan_lines
  pub met_small : each_within L (met w) ≡ true
  pub proof_small : EachSmall L (begun w) w.proof_lines
  pub concluded_small : each_within L (conclusions_of (at_final w) w.proof) ≡ true
  pub terms_fit : distinct_terms (all_terms w) ≤ R.terms
  pub symbols_fit : length (at_final w).symbols ≤ R.symbols
  pub commands_fit : command_count w ≤ R.commands

-- a refutation written out that fits is accepted, from a fresh session, at the line of `final`
abbrev pub RefutationsAreAccepted : Type 0
RefutationsAreAccepted =
    (A : Arithmetic) (L : Limits) (R : Room) (w : Script) → WrittenOut A w → Fits L R w
    → (run A L R fresh (query_file w) (proof_file w)).verdict ≡ accepts 2 w.final_line.number
