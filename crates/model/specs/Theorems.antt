-- What is proved of a session and of a run.
use Rattle.command.specs.declared.command.Command.{Command}
use Rattle.command.specs.declared.command.Item.{Item}
use Rattle.std.specs.Prelude.{◌≡◌, ℕ, ◌≤◌, true, false, List, [], ◌∷◌, ◌++◌, length, Some, None}
use Rattle.std.specs.declared.option.Option as Rust
use Rattle.std.proofs.Math.Option.{Option, none, some}
use Rattle.logic.specs.Syntax.{Formula, Plan, Proof}
use Rattle.logic.specs.Tree.{Tree, proof_tree, open_hypotheses, operands, parts}
use Rattle.logic.specs.Arithmetic.{Arithmetic, Lawful}
use Rattle.logic.specs.World.{World, Holds, Rereads}
use Rattle.logic.specs.Rules.{Concludes}
use Rattle.logic.specs.Plans.{Turns, walk, misfit, symbols, member}
use Rattle.logic.specs.Positions.{conclusions, misfit_at}
use Rattle.model.specs.Refusal.{Refusal, unfounded, unfit, positioned, done, refused}
use Rattle.model.specs.Limits.{Limits, Room}
use Rattle.model.specs.State.{Start, State, fresh, next_number, known_at, tree_at, plan_at, proof_at, thing_arity}
use Rattle.logic.specs.Keeping.{has, HasEach, keep_each}
use Rattle.model.specs.Commands.{an_initial, a_let}
use Rattle.model.specs.Tests.{new_symbols}
use Rattle.model.specs.Session.{stage_of, allowed, step, after, parts_of_each, each_within}
use Rattle.model.specs.Run.{Ran, run}

-- ---- soundness: whatever commands a fresh session was given, in any order, accepted or refused

-- the initial formula holds, if there is one
abbrev pub StartHolds : {A : Arithmetic} → World A → Option Start → Type 0
StartHolds W none = Unit {0}
StartHolds W (some b) = Holds W b.formula

-- the query holds in no finite world
abbrev pub Refuted : Arithmetic → State → Type 0
Refuted A S = (φ : Formula) × (S.query ≡ some φ) × ((W : World A) → Holds W φ → ⊥)

-- every known formula holds in each world where the initial formula holds; without an initial formula, in every world
abbrev pub KnowsTruth : Arithmetic → State → Type 0
KnowsTruth A S = (W : World A) → StartHolds W S.start → (k : ℕ) (φ : Formula) → known_at S.names k ≡ some φ → Holds W φ

-- once `initial` is accepted, each world where the query holds can be re-read at the plan's Skolem symbols so that the initial formula holds
abbrev pub BegunByRereading : Arithmetic → State → Type 0
BegunByRereading A S =
    (b : Start) → S.start ≡ some b
    → (φ : Formula) × (S.query ≡ some φ)
    × ((W : World A) → Holds W φ → (V : World A) × Rereads (λ s. member s (symbols b.plan)) W V × Holds V b.formula)

-- once a `final` is accepted, the query holds in no world
abbrev pub ClosedByRefutation : Arithmetic → State → Type 0
ClosedByRefutation A S = S.closed ≡ true → Refuted A S

pub record Sound (A : Arithmetic) (S : State) : Type 0 where
  pub known_hold : KnowsTruth A S
  pub begun_soundly : BegunByRereading A S
  pub closed_soundly : ClosedByRefutation A S

-- it is so of each state that a fresh session comes to
abbrev pub Always : (Arithmetic → State → Type 0) → Type 0
Always So = (A : Arithmetic) → Lawful A → (L : Limits) (R : Room) (cs : List Command) → So A (after A L R fresh cs)

abbrev pub KnownFormulasHold : Type 0
KnownFormulasHold = Always KnowsTruth

abbrev pub InitialFormulasHoldAfterRereading : Type 0
InitialFormulasHoldAfterRereading = Always BegunByRereading

abbrev pub RefutedQueriesHoldNowhere : Type 0
RefutedQueriesHoldNowhere = Always ClosedByRefutation

-- ---- runs

abbrev pub command_before : Rust.Option Command → List Command → List Command
command_before (Some c) cs = c ∷ cs
command_before None cs = cs

abbrev pub commands_in : List Item → List Command
commands_in [] = []
commands_in (i ∷ l) = command_before i.content (commands_in l)

-- A run's state is that of the commands in the items that it took, one after the other; what it did not take is left. It accepts only
-- with a session that a `final` closed.
pub record Folds (A : Arithmetic) (L : Limits) (R : Room) (query proof : List Item) (r : Ran) : Type 0 where
  pub took : List Item
  pub left : List Item
  pub all_items : query ++ proof ≡ took ++ left
  pub folded : r.state ≡ after A L R fresh (commands_in took)
  pub closes : r.verdict.accepted ≡ true → r.state.closed ≡ true

abbrev pub RunsAreFolds : Type 0
RunsAreFolds = (A : Arithmetic) (L : Limits) (R : Room) (query proof : List Item) → Folds A L R query proof (run A L R fresh query proof)

-- what a run accepts holds in no finite world
abbrev pub AcceptedQueriesHoldNowhere : Type 0
AcceptedQueriesHoldNowhere =
    (A : Arithmetic) → Lawful A → (L : Limits) (R : Room) (query proof : List Item)
    → (run A L R fresh query proof).verdict.accepted ≡ true → Refuted A (run A L R fresh query proof).state

-- ---- what `let` and `initial` make known

-- the formulas concluded before the first sub-proof that concludes nothing
abbrev pub before_misfit : List (Option Formula) → List Formula
before_misfit [] = []
before_misfit (none ∷ l) = []
before_misfit (some φ ∷ l) = φ ∷ before_misfit l

module _ (A : Arithmetic) (L : Limits) (R : Room) (S : State) (c : Command) where
  -- `let` makes known what the rules conclude, and is refused as unfounded where they conclude nothing, at the first sub-proof that does not
  pub record LetIsExact : Type 0 where
    pub binds : (S' : State) → step A L R S c ≡ done S'
        → (P : Proof) × (φ : Formula) × (proof_at S.names c.a ≡ some P) × Concludes (known_at S.names) [] P φ × (known_at S'.names (next_number S.names) ≡ some φ)
    pub unfounded_only : (at : ℕ) → step A L R S c ≡ refused unfounded at
        → (P : Proof) × (proof_at S.names c.a ≡ some P) × ((φ : Formula) → Concludes (known_at S.names) [] P φ → ⊥) × (at ≡ misfit_at (known_at S.names) P)
    -- what is concluded before that staying within limits and space
    pub unfounded_where : (P : Proof) → proof_at S.names c.a ≡ some P → allowed a_let (stage_of S) ≡ true → open_hypotheses (proof_tree P) ≡ 0
        → ((φ : Formula) → Concludes (known_at S.names) [] P φ → ⊥)
        → each_within L (before_misfit (conclusions (known_at S.names) [] P)) ≡ true
        → length (keep_each S.terms (parts_of_each (before_misfit (conclusions (known_at S.names) [] P)))) ≤ R.terms
        → step A L R S c ≡ refused unfounded (misfit_at (known_at S.names) P)

  -- `initial` makes known what the plan turns the query into, and is refused as unfit where it turns it into nothing, at the first misfit
  pub record InitialIsExact : Type 0 where
    pub binds : (S' : State) → step A L R S c ≡ done S'
        → (p : Plan) × (φ ψ : Formula) × (plan_at S.names c.a ≡ some p) × (S.query ≡ some φ) × Turns (thing_arity S.names) 0 p φ ψ
        × (S'.start ≡ some (record { plan = p; formula = ψ })) × (known_at S'.names (next_number S.names) ≡ some ψ)
    pub unfit_only : (at : ℕ) → step A L R S c ≡ refused unfit at
        → (p : Plan) × (φ : Formula) × (plan_at S.names c.a ≡ some p) × (S.query ≡ some φ)
        × ((ψ : Formula) → Turns (thing_arity S.names) 0 p φ ψ → ⊥) × (walk (thing_arity S.names) 0 p φ ≡ misfit at)
    pub unfit_where : (p : Plan) (φ : Formula) → plan_at S.names c.a ≡ some p → S.query ≡ some φ → allowed an_initial (stage_of S) ≡ true → new_symbols p φ ≡ true
        → ((ψ : Formula) → Turns (thing_arity S.names) 0 p φ ψ → ⊥)
        → (at : ℕ) × (walk (thing_arity S.names) 0 p φ ≡ misfit at) × (step A L R S c ≡ refused unfit at)

abbrev pub LetAndInitialAreExact : Type 0
LetAndInitialAreExact =
    (A : Arithmetic) (L : Limits) (R : Room) (S : State) (c : Command)
    → (c.code ≡ 72 → LetIsExact A L R S c) × (c.code ≡ 71 → InitialIsExact A L R S c)

-- ---- refusals

-- a refused command changes nothing, and its position is 0 but where a position is named
pub record RefusalsArePlain : Type 0 where
  pub unchanged : (A : Arithmetic) (L : Limits) (R : Room) (S : State) (c : Command) (cs : List Command) (r : Refusal) (at : ℕ)
      → step A L R S c ≡ refused r at → after A L R S (c ∷ cs) ≡ after A L R S cs
  pub positions : (A : Arithmetic) (L : Limits) (R : Room) (S : State) (c : Command) (r : Refusal) (at : ℕ)
      → step A L R S c ≡ refused r at → positioned c.code r ≡ false → at ≡ 0

-- ---- the terms kept

-- each term of the second list stands once, and after its operands, the first list being before it
abbrev pub OrderedAfter : List Tree → List Tree → Type 0
OrderedAfter us [] = Unit {0}
OrderedAfter us (t ∷ l) = (has us t ≡ false) × HasEach us (operands t) × OrderedAfter (us ++ (t ∷ [])) l

pub record Tidy (S : State) : Type 0 where
  -- the terms kept stand once each, operands before heads
  pub in_order : OrderedAfter [] S.terms
  -- with a term its parts are kept
  pub parts_kept : (t : Tree) → has S.terms t ≡ true → HasEach S.terms (parts t)
  -- every term that a command made is kept
  pub made_kept : (k : ℕ) (t : Tree) → tree_at S.names k ≡ some t → has S.terms t ≡ true

abbrev pub SessionsAreTidy : Type 0
SessionsAreTidy = (A : Arithmetic) (L : Limits) (R : Room) (cs : List Command) → Tidy (after A L R fresh cs)
