-- A session: what each command does to its state, or which refusal it gets. The tests stand in the order of the refusals.
use Rattle.command.specs.declared.command.Command.{Command}
use Rattle.std.specs.Prelude.{ℕ, suc, Bool, true, false, ◌&&◌, List, [], ◌∷◌, ◌++◌, map, length, ◌==◌, nat_le, nat_lt}
use Rattle.std.proofs.Math.Option.{Option, none, some}
use Rattle.logic.specs.Syntax.{Formula, Plan, Proof, falsity, same}
use Rattle.logic.specs.Tree.{Kind, Tree, formula_tree, proof_tree, open_hypotheses, parts}
use Rattle.logic.specs.Arithmetic.{Arithmetic}
use Rattle.logic.specs.Rules.{conclude}
use Rattle.logic.specs.Facts as Facts
use Rattle.logic.specs.Facts.{Stated}
use Rattle.logic.specs.Plans.{Walked, misfit, yields, walk}
use Rattle.logic.specs.Positions.{conclusions}
use Rattle.logic.specs.Closed.{closed}
use Rattle.model.specs.Refusal.{Refusal, unknown, untimely, unnamed, miscounted, unclosed, oversized, crowded, unfounded, unfit, stale, different, unadmitted, uncarried, unrefuted}
use Rattle.model.specs.Refusal.{Outcome, done, refused, ◌>>=◌, ◌>>◌, require, require_at, need}
use Rattle.model.specs.Limits.{Limits, Room, granted, within}
use Rattle.model.specs.State.{Result, term, fact, nothing, Names, with_result, with_symbol, next_number, Start, State, state, fresh}
use Rattle.model.specs.State.{formula_at, plan_at, proof_at, known_at, thing_arity}
use Rattle.logic.specs.Keeping.{keep, keep_each}
use Rattle.model.specs.Commands.{Maker, FactHead, Action, a_symbol, a_term, a_deduction, a_fact, a_query, an_initial, a_let, a_same, a_shows, a_final, action_of, made, named_fact}
use Rattle.model.specs.Tests.{full, literal_admitted, closed_within, each, closed_fact, new_symbols}

-- ---- stages

pub data Stage : Type 0 where
  -- before `query`; after it; after `initial`; after `final`
  asking proving begun ended : Stage

abbrev pub stage_from : Bool → Option Formula → Option Start → Stage
stage_from true query start = ended
stage_from false none start = asking
stage_from false (some φ) none = proving
stage_from false (some φ) (some b) = begun

abbrev pub stage_of : State → Stage
stage_of S = stage_from S.closed S.query S.start

-- whether a command is taken while asking, while proving, and once the initial formula is there; none is when closed
abbrev pub taken : Bool → Bool → Bool → Stage → Bool
taken a p b asking = a
taken a p b proving = p
taken a p b begun = b
taken a p b ended = false

abbrev pub allowed : Action → Stage → Bool
allowed (a_symbol k) = taken true true true
allowed (a_term m) = taken true true true
allowed (a_deduction m) = taken false true true
allowed (a_fact m) = taken false true true
allowed a_query = taken true false false
allowed an_initial = taken false true false
allowed a_let = taken false true true
allowed a_same = taken false true true
allowed a_shows = taken false true true
allowed a_final = taken false true true

-- ---- terms to keep

abbrev pub parts_of_each : List Formula → List Tree
parts_of_each [] = []
parts_of_each (φ ∷ l) = parts (formula_tree φ) ++ parts_of_each l

abbrev pub each_within : Limits → List Formula → Bool
each_within L l = each (within L) (map formula_tree l)

-- ---- the state after an accepted command, with the terms and the command's result

abbrev pub accept : State → List Tree → Result → State
accept S ts x = state (with_result S.names x) ts S.query S.start S.closed

-- ---- answers

-- a refused command changes nothing
abbrev pub kept : State → Outcome State → State
kept S (done S') = S'
kept S (refused r at) = S

-- what a caller is told: the number that the command got; or the refusal, the number that would have followed, and a position
pub data Answer : Type 0 where
  accepted : ℕ → Answer
  refused_by : Refusal → ℕ → ℕ → Answer

abbrev pub answer : State → Outcome State → Answer
answer S (done S') = accepted (next_number S.names)
answer S (refused r at) = refused_by r (next_number S.names) at

-- ---- commands

abbrev pub no_open_hypothesis : Proof → Bool
no_open_hypothesis P = open_hypotheses (proof_tree P) == 0

-- the formula that the fact states, or why there is none
abbrev pub stated : Stated → Outcome Formula
stated Facts.uncarried = refused uncarried 0
stated Facts.misshapen = refused unfounded 0
stated Facts.unadmitted = refused unadmitted 0
stated (Facts.formula φ) = done φ

-- what a proof concludes, and the terms with those of every conclusion on the way
pub record Concluded : Type 0 where
  pub terms : List Tree
  pub formula : Formula

module _ (L : Limits) (R : Room) where
  -- there is space for these terms, and for one more command
  abbrev pub holds_terms : List Tree → Bool
  holds_terms ts = nat_le (length ts) R.terms

  abbrev pub holds_command : State → Bool
  holds_command S = nat_lt (length S.names.results) R.commands

  abbrev pub begin : State → Plan → Walked → Outcome State
  begin S p (misfit k) = refused unfit k
  begin S p (yields k met ψ) = do
    require oversized (each_within L met)
    require crowded (holds_terms (keep_each S.terms (parts_of_each met)) && holds_command S)
    done (state (with_result S.names (fact ψ)) (keep_each S.terms (parts_of_each met)) S.query (some (record { plan = p; formula = ψ })) S.closed)

  -- keeps the terms of what each sub-proof concludes, the first of them at the position
  abbrev pub settle : ℕ → List Tree → List (Option Formula) → Outcome (List Tree)
  settle at ts [] = done ts
  settle at ts (none ∷ l) = refused unfounded at
  settle at ts (some φ ∷ l) = do
    require_at at oversized (within L (formula_tree φ))
    require_at at crowded (holds_terms (keep_each ts (parts (formula_tree φ))))
    settle (suc at) (keep_each ts (parts (formula_tree φ))) l

  abbrev pub concluded : Names → ℕ → List Tree → Proof → Outcome Concluded
  concluded N at ts P = do
    us ← settle at ts (conclusions (known_at N) [] P)
    φ ← need unfounded (conclude (known_at N) [] P)
    done (record { terms = us; formula = φ })

module _ (A : Arithmetic) (L : Limits) (R : Room) where
  abbrev pub do_symbol : Kind → State → Command → Outcome State
  do_symbol k S c = do
    require miscounted (nat_le c.a L.arguments)
    require crowded (nat_lt (length S.names.symbols) R.symbols && holds_command L R S)
    done (state (with_symbol S.names (record { kind = k; arity = c.a })) S.terms S.query S.start S.closed)

  abbrev pub do_make : Maker → State → Command → Outcome State
  do_make m S c = do
    t ← need unnamed (made m S.names c)
    require miscounted (full S.names t)
    require unadmitted (literal_admitted A t)
    require unclosed (closed_within t)
    require oversized (within L t)
    require crowded (holds_terms L R (keep S.terms t) && holds_command L R S)
    done (accept S (keep S.terms t) (term t))

  abbrev pub do_fact : FactHead → State → Command → Outcome State
  do_fact m S c = do
    f ← need unnamed (named_fact m S.names c)
    require unclosed (closed_fact f)
    φ ← stated (Facts.state A f)
    require oversized (within L (formula_tree φ))
    require crowded (holds_terms L R (keep_each S.terms (parts (formula_tree φ))) && holds_command L R S)
    done (accept S (keep_each S.terms (parts (formula_tree φ))) (fact φ))

  abbrev pub do_query : State → Command → Outcome State
  do_query S c = do
    φ ← need unnamed (formula_at S.names c.a)
    require unclosed (closed (formula_tree φ))
    require crowded (holds_command L R S)
    done (state (with_result S.names nothing) S.terms (some φ) S.start S.closed)

  abbrev pub do_initial : State → Command → Outcome State
  do_initial S c = do
    φ ← need untimely S.query
    p ← need unnamed (plan_at S.names c.a)
    require stale (new_symbols p φ)
    begin L R S p (walk (thing_arity S.names) 0 p φ)

  abbrev pub do_let : State → Command → Outcome State
  do_let S c = do
    P ← need unnamed (proof_at S.names c.a)
    require unclosed (no_open_hypothesis P)
    x ← concluded L R S.names 1 S.terms P
    require crowded (holds_command L R S)
    done (accept S x.terms (fact x.formula))

  -- the positions of the second proof come after those of the first, whose terms still count
  abbrev pub do_same : State → Command → Outcome State
  do_same S c = do
    P ← need unnamed (proof_at S.names c.a)
    Q ← need unnamed (proof_at S.names c.b)
    require unclosed (no_open_hypothesis P && no_open_hypothesis Q)
    x ← concluded L R S.names 1 S.terms P
    y ← concluded L R S.names (suc (length (conclusions (known_at S.names) [] P))) x.terms Q
    require crowded (holds_command L R S)
    require different (same x.formula y.formula)
    done (accept S S.terms nothing)

  abbrev pub do_shows : State → Command → Outcome State
  do_shows S c = do
    P ← need unnamed (proof_at S.names c.a)
    φ ← need unnamed (formula_at S.names c.b)
    require unclosed (no_open_hypothesis P)
    x ← concluded L R S.names 1 S.terms P
    require crowded (holds_command L R S)
    require different (same x.formula φ)
    done (accept S S.terms nothing)

  abbrev pub do_final : State → Command → Outcome State
  do_final S c = do
    P ← need unnamed (proof_at S.names c.a)
    require unclosed (no_open_hypothesis P)
    x ← concluded L R S.names 1 S.terms P
    require crowded (holds_command L R S)
    require unrefuted (same x.formula falsity)
    done (state (with_result S.names nothing) S.terms S.query S.start true)

  abbrev pub act : Action → State → Command → Outcome State
  act (a_symbol k) = do_symbol k
  act (a_term m) = do_make m
  act (a_deduction m) = do_make m
  act (a_fact m) = do_fact m
  act a_query = do_query
  act an_initial = do_initial
  act a_let = do_let
  act a_same = do_same
  act a_shows = do_shows
  act a_final = do_final

  -- an unknown code first; then the stage; then the command's own refusals
  abbrev pub step : State → Command → Outcome State
  step S c = do
    h ← need unknown (action_of c.code)
    require untimely (allowed h (stage_of S))
    act h S c

  abbrev pub after : State → List Command → State
  after S [] = S
  after S (c ∷ cs) = after (kept S (step S c)) cs

  -- opening: the records lent are within the limits
  abbrev pub opened : Outcome State
  opened = require oversized (granted L R) >> done fresh
