-- The run: the query's items, then the proof's, up to the first refusal or acceptance.
use Rattle.command.specs.declared.command.Command.{Command}
use Rattle.command.specs.declared.command.Item.{Item}
use Rattle.std.specs.Prelude.{ℕ, suc, Bool, true, false, List, [], ◌∷◌, Some, None}
use Rattle.std.specs.declared.option.Option as Rust
use Rattle.std.proofs.Math.Option.{Option, none, some}
use Rattle.logic.specs.Syntax.{Formula}
use Rattle.logic.specs.Arithmetic.{Arithmetic}
use Rattle.model.specs.Refusal.{Refusal, unknown, unfinished, number, Outcome, done, refused}
use Rattle.model.specs.Limits.{Limits, Room}
use Rattle.model.specs.State.{State}
use Rattle.model.specs.Session.{step}

pub record Verdict : Type 0 where
  pub accepted : Bool
  -- 1 the query's, 2 the proof's
  pub file : ℕ
  pub line : ℕ
  -- the refusal's number, 0 if accepted
  pub refusal : ℕ
  pub position : ℕ

abbrev pub accepts : ℕ → ℕ → Verdict
accepts file line = record { accepted = true; file = file; line = line; refusal = 0; position = 0 }

abbrev pub refuses : ℕ → ℕ → Refusal → ℕ → Verdict
refuses file line r at = record { accepted = false; file = file; line = line; refusal = number r; position = at }

-- how the reading of a file ends, and the session's state then: at a verdict, or at the file's end, the line after its last
pub data Reading : Type 0 where
  stopped : State → Verdict → Reading
  through : State → ℕ → Reading

pub record Ran : Type 0 where
  pub state : State
  pub verdict : Verdict

-- what is read on from the state, unless it is closed
abbrev pub unless_closed : ℕ → ℕ → (State → Reading) → State → Bool → Reading
unless_closed file line rest S true = stopped S (accepts file line)
unless_closed file line rest S false = rest S

abbrev pub read_answer : ℕ → State → ℕ → (State → Reading) → Outcome State → Reading
read_answer file S line rest (done S') = unless_closed file line rest S' S'.closed
read_answer file S line rest (refused r at) = stopped S (refuses file line r at)

-- the proof's file ends without acceptance
abbrev pub conclude_proof : Reading → Ran
conclude_proof (stopped S v) = record { state = S; verdict = v }
conclude_proof (through S line) = record { state = S; verdict = refuses 2 line unfinished 0 }

module _ (A : Arithmetic) (L : Limits) (R : Room) where
  abbrev pub read_content : ℕ → State → ℕ → (State → Reading) → Rust.Option Command → Reading
  read_content file S line rest (Some c) = read_answer file S line rest (step A L R S c)
  read_content file S line rest None = stopped S (refuses file line unknown 0)

  -- a file from the state on, `next` being the line after the last
  abbrev pub read : ℕ → State → ℕ → List Item → Reading
  read file S next [] = through S next
  read file S next (i ∷ l) = read_content file S i.line (λ S'. read file S' (suc i.line) l) i.content

  -- the query's file ends without a query
  abbrev pub go_on : State → ℕ → List Item → Option Formula → Ran
  go_on S line proof none = record { state = S; verdict = refuses 1 line unfinished 0 }
  go_on S line proof (some φ) = conclude_proof (read 2 S 1 proof)

  abbrev pub conclude_query : List Item → Reading → Ran
  conclude_query proof (stopped S v) = record { state = S; verdict = v }
  conclude_query proof (through S line) = go_on S line proof S.query

  abbrev pub run : State → List Item → List Item → Ran
  run S query proof = conclude_query proof (read 1 S 1 query)
