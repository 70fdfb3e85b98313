-- A run is the fold of a session over the commands that it took, and so what it accepts holds in no world.
use Rattle.command.specs.declared.command.Command.{Command}
use Rattle.command.specs.declared.command.Item.{Item}
use Rattle.std.proofs.Common.{◌≡◌, ℕ, suc, Bool, true, false, List, [], ◌∷◌, ◌++◌, Some, None, sym, refl, ap, ◌∙◌, append_assoc, append-nil}
use Rattle.std.specs.declared.option.Option as Rust
use mathlib.Core.Bool.{false≢true}
use mathlib.Core.Option.{Option, none, some}
use Rattle.logic.specs.Syntax.{Formula}
use Rattle.logic.specs.Arithmetic.{Arithmetic}
use Rattle.model.specs.Refusal.{unknown, Outcome, done, refused}
use Rattle.model.specs.Limits.{Limits, Room}
use Rattle.model.specs.State.{State, fresh}
use Rattle.model.specs.Session.{kept, step, after}
use Rattle.model.specs.Run.{Verdict, accepts, refuses, Reading, stopped, through, unless_closed, read_answer, read_content, read, conclude_proof, go_on, conclude_query}
use Rattle.model.specs.Theorems.{command_before, commands_in, Folds, RunsAreFolds, AcceptedQueriesHoldNowhere}
use Rattle.model.proofs.Soundness.{always_sound}

module _ (A : Arithmetic) (L : Limits) (R : Room) where
  -- from S, the items l are read so
  abbrev Reads : State → List Item → Reading → Type 0
  Reads S l (stopped S' v) = (took left : List Item) × (l ≡ took ++ left) × (S' ≡ after A L R S (commands_in took)) × (v.accepted ≡ true → S'.closed ≡ true)
  Reads S l (through S' next) = S' ≡ after A L R S (commands_in l)

  -- an item that leads from S to S' is read first
  abbrev Leads : State → Item → State → Type 0
  Leads S i S' = (cs : List Command) → after A L R S (command_before i.content cs) ≡ after A L R S' cs

  reads_first : (S S' : State) (i : Item) (l : List Item) (r : Reading) → Leads S i S' → Reads S' l r → Reads S (i ∷ l) r
  reads_first S S' i l (stopped X v) leads (took, left, split, state, closes) = (i ∷ took, left, ap (λ m. i ∷ m) split, state ∙ sym (leads (commands_in took)), closes)
  reads_first S S' i l (through X next) leads state = state ∙ sym (leads (commands_in l))

  stops : (S S' : State) (i : Item) (l : List Item) (v : Verdict) → Leads S i S' → (v.accepted ≡ true → S'.closed ≡ true) → Reads S (i ∷ l) (stopped S' v)
  stops S S' i l v leads closes = (i ∷ [], l, refl, sym (leads []), closes)

  not_accepted : {X : Type 0} → false ≡ true → X
  not_accepted e = absurd (false≢true e)

  reads_closed : (file : ℕ) (i : Item) (l : List Item) (rest : State → Reading) (S S' : State) (b : Bool) → S'.closed ≡ b → Leads S i S' → ((X : State) → Reads X l (rest X))
      → Reads S (i ∷ l) (unless_closed file i.line rest S' b)
  reads_closed file i l rest S S' true e leads next = stops S S' i l (accepts file i.line) leads (λ a. e)
  reads_closed file i l rest S S' false e leads next = reads_first S S' i l (rest S') leads (next S')

  reads_answer : (file : ℕ) (i : Item) (l : List Item) (rest : State → Reading) (S : State) (o : Outcome State) → Leads S i (kept S o) → ((X : State) → Reads X l (rest X))
      → Reads S (i ∷ l) (read_answer file S i.line rest o)
  reads_answer file i l rest S (done S') leads next = reads_closed file i l rest S S' S'.closed refl leads next
  reads_answer file i l rest S (refused r at) leads next = stops S S i l (refuses file i.line r at) leads not_accepted

  reads_content : (file line : ℕ) (x : Rust.Option Command) (l : List Item) (rest : State → Reading) (S : State) → ((X : State) → Reads X l (rest X))
      → Reads S (record { line = line; content = x } ∷ l) (read_content A L R file S line rest x)
  reads_content file line (Some c) l rest S next = reads_answer file (record { line = line; content = Some c }) l rest S (step A L R S c) (λ cs. refl) next
  reads_content file line None l rest S next = stops S S (record { line = line; content = None }) l (refuses file line unknown 0) (λ cs. refl) not_accepted

  reads : (file : ℕ) (l : List Item) (S : State) (next : ℕ) → Reads S l (read A L R file S next l)
  reads file [] S next = refl
  reads file (i ∷ l) S next = reads_content file i.line i.content l (λ X. read A L R file X (suc i.line) l) S (λ X. reads file l X (suc i.line))

  -- ---- one file after the other

  commands_append : (l m : List Item) → commands_in (l ++ m) ≡ commands_in l ++ commands_in m
  commands_append [] m = refl
  commands_append (i ∷ l) m = ap (command_before i.content) (commands_append l m) ∙ split i.content
    where
      split : (x : Rust.Option Command) → command_before x (commands_in l ++ commands_in m) ≡ command_before x (commands_in l) ++ commands_in m
      split (Some c) = refl
      split None = refl

  after_append : (cs ds : List Command) (S : State) → after A L R S (cs ++ ds) ≡ after A L R (after A L R S cs) ds
  after_append [] ds S = refl
  after_append (c ∷ cs) ds S = after_append cs ds (kept S (step A L R S c))

  after_both : (l m : List Item) (S S' : State) → S ≡ after A L R fresh (commands_in l) → S' ≡ after A L R S (commands_in m) → S' ≡ after A L R fresh (commands_in (l ++ m))
  after_both l m S S' e f = f ∙ ap (λ X. after A L R X (commands_in m)) e ∙ sym (ap (after A L R fresh) (commands_append l m) ∙ after_append (commands_in l) (commands_in m) fresh)

  module _ (query proof : List Item) where
    folds_proof : (S : State) (r : Reading) → S ≡ after A L R fresh (commands_in query) → Reads S proof r → Folds A L R query proof (conclude_proof r)
    folds_proof S (stopped X v) e (took, left, split, state, closes) =
        record { took = query ++ took; left = left; all_items = ap (λ l. query ++ l) split ∙ sym (append_assoc query took left); folded = after_both query took S X e state; closes = closes }
    folds_proof S (through X next) e state =
        record { took = query ++ proof; left = []; all_items = sym (append-nil (query ++ proof)); folded = after_both query proof S X e state; closes = not_accepted }

    folds_on : (S : State) (line : ℕ) (q : Option Formula) → S ≡ after A L R fresh (commands_in query) → Folds A L R query proof (go_on A L R S line proof q)
    folds_on S line none e = record { took = query; left = proof; all_items = refl; folded = e; closes = not_accepted }
    folds_on S line (some φ) e = folds_proof S (read A L R 2 S 1 proof) e (reads 2 proof S 1)

    folds_query : (r : Reading) → Reads fresh query r → Folds A L R query proof (conclude_query A L R proof r)
    folds_query (stopped X v) (took, left, split, state, closes) =
        record { took = took; left = left ++ proof; all_items = ap (λ l. l ++ proof) split ∙ append_assoc took left proof; folded = state; closes = closes }
    folds_query (through X next) e = folds_on X next X.query e

pub that_runs_are_folds : RunsAreFolds
that_runs_are_folds A L R query proof = folds_query A L R query proof (read A L R 1 fresh 1 query) (reads A L R 1 query fresh 1)

pub that_accepted_queries_hold_nowhere : AcceptedQueriesHoldNowhere
that_accepted_queries_hold_nowhere A law L R query proof accepted =
    let f = that_runs_are_folds A L R query proof in
    let sound = always_sound A law L R (commands_in f.took) in
    let shut = f.closes accepted in
    let r = sound.closed_soundly (ap (λ (S : State). S.closed) (sym f.folded) ∙ shut) in
    (r.0, ap (λ (S : State). S.query) f.folded ∙ r.1, r.2)
