-- A refutation written out that fits is accepted.
use Rattle.command.specs.declared.command.Command.{Command}
use Rattle.command.specs.declared.command.Item.{Item}
use Rattle.std.proofs.Common.{◌≡◌, ℕ, suc, ◌+◌, ◌≤◌, true, false, not, ◌&&◌, eqb, ltb, leb, List, [], ◌∷◌, ◌++◌, length, Some, sym, refl, ap, ◌∙◌, subst, le_trans, le_refl, arith, length-append}
use mathlib.Core.Option.{Option, none, some, none-ne-some, some-injective}
use Rattle.std.proofs.lemmas.Bool.{and_from, le-leb, lt-ltb, eq-eqb, or_left, or_right}
use Rattle.logic.specs.Syntax.{Formula, Plan, Proof, falsity, same}
use Rattle.logic.specs.Tree.{Tree, formula_tree, proof_tree, open_hypotheses, parts}
use Rattle.logic.specs.Arithmetic.{Arithmetic}
use Rattle.logic.specs.Rules.{Concludes, conclude}
use Rattle.logic.specs.Facts as Facts
use Rattle.logic.specs.Facts.{Fact, States}
use Rattle.logic.specs.Plans.{Turns, Walked, misfit, yields, walk, result, symbols, member, distinct}
use Rattle.logic.specs.Positions.{conclusions}
use Rattle.logic.specs.Closed.{closed}
use Rattle.logic.proofs.RulesAre.{conclude_gives, same_refl}
use Rattle.logic.proofs.PlansAre.{turn_gives}
use Rattle.logic.proofs.FactsAre.{state_gives}
use Rattle.model.specs.Refusal.{unnamed, miscounted, unclosed, oversized, crowded, unfounded, stale, unadmitted, unrefuted, done, require, need}
use Rattle.model.specs.Limits.{Limits, Room, within}
use Rattle.model.specs.State.{Symbol, symbol, term, fact, nothing, Names, no_names, with_result, with_symbol, Start, State, state, fresh, known_at, formula_at, plan_at, proof_at, thing_arity}
use Rattle.logic.specs.Keeping.{keep, keep_each}
use Rattle.model.specs.Commands.{Maker, FactHead, a_symbol, a_term, a_deduction, a_fact, a_query, an_initial, a_let, a_final, action_of, made, named_fact}
use Rattle.model.specs.Tests.{full, literal_admitted, closed_within, closed_fact, appears, none_appears, new_symbols}
use Rattle.model.specs.Session.{Stage, asking, proving, begun, stage_from, stage_of, allowed, stated, holds_terms, holds_command, no_open_hypothesis, parts_of_each, each_within}
use Rattle.model.specs.Session.{begin, settle, concluded, do_symbol, do_make, do_fact, do_let, step}
use Rattle.model.specs.Run.{stopped, through, accepts, read, read_answer, unless_closed, conclude_proof, conclude_query, run}
use Rattle.model.specs.Written as Written
use Rattle.model.specs.Written.{Writes, writes_symbol, writes_term, writes_deduction, writes_fact, writes_let, Line, items, last_item, named, named_each, Makes, Rightly, LinesWritten, Asking, EachAsking, Script, query_file, proof_file, at_query, asked, at_initial, at_final}
use Rattle.model.specs.Written.{WrittenOut, met_by, met, conclusions_of, terms_of, terms_of_each, Small, EachSmall, Fits, RefutationsAreAccepted}
use Rattle.model.proofs.Outcomes.{need_some, passes, then}
use Rattle.logic.proofs.Keepings.{length_keep_each, keep_each_append, part_fits}
use Rattle.model.proofs.Settling.{each_concludes, settles}
use Rattle.model.proofs.Exactness.{step_acts}

-- ---- stages: what may be written while asking, and afterwards

-- the stage takes the heads of such a line
abbrev Takes : Stage → Writes → Type 0
Takes s (writes_symbol y) = (k : _) → allowed (a_symbol k) s ≡ true
Takes s (writes_term t) = (m : Maker) → allowed (a_term m) s ≡ true
Takes s (writes_deduction t) = (m : Maker) → allowed (a_deduction m) s ≡ true
Takes s (writes_fact f φ) = (g : FactHead) → allowed (a_fact g) s ≡ true
Takes s (writes_let P φ) = allowed a_let s ≡ true

asking_takes : (x : Writes) → Asking x → Takes asking x
asking_takes (writes_symbol y) h = λ k. refl
asking_takes (writes_term t) h = λ m. refl
asking_takes (writes_deduction t) h = absurd h
asking_takes (writes_fact f φ) h = absurd h
asking_takes (writes_let P φ) h = absurd h

proving_takes : (x : Writes) → Takes proving x
proving_takes (writes_symbol y) = λ k. refl
proving_takes (writes_term t) = λ m. refl
proving_takes (writes_deduction t) = λ m. refl
proving_takes (writes_fact f φ) = λ g. refl
proving_takes (writes_let P φ) = refl

begun_takes : (x : Writes) → Takes begun x
begun_takes (writes_symbol y) = λ k. refl
begun_takes (writes_term t) = λ m. refl
begun_takes (writes_deduction t) = λ m. refl
begun_takes (writes_fact f φ) = λ g. refl
begun_takes (writes_let P φ) = refl

abbrev TakesEach : Stage → List Line → Type 0
TakesEach s [] = Unit {0}
TakesEach s (e ∷ l) = Takes s e.writes × TakesEach s l

each_asking : (l : List Line) → EachAsking l → TakesEach asking l
each_asking [] h = tt
each_asking (e ∷ l) h = (asking_takes e.writes h.0, each_asking l h.1)

each_proving : (l : List Line) → TakesEach proving l
each_proving [] = tt
each_proving (e ∷ l) = (proving_takes e.writes, each_proving l)

each_begun : (l : List Line) → TakesEach begun l
each_begun [] = tt
each_begun (e ∷ l) = (begun_takes e.writes, each_begun l)

-- ---- how many results, and at least how many symbols, lines leave

results_longer : (N : Names) (x : Writes) → length (named N x).results ≡ suc (length N.results)
results_longer N (writes_symbol y) = omega (arith, length-append N.results (symbol (length N.symbols) ∷ []))
results_longer N (writes_term t) = omega (arith, length-append N.results (term t ∷ []))
results_longer N (writes_deduction t) = omega (arith, length-append N.results (term t ∷ []))
results_longer N (writes_fact f φ) = omega (arith, length-append N.results (fact φ ∷ []))
results_longer N (writes_let P φ) = omega (arith, length-append N.results (fact φ ∷ []))

pub results_after : (l : List Line) (N : Names) → length (named_each N l).results ≡ length N.results + length l
results_after [] N = omega arith
results_after (e ∷ l) N = omega (arith, results_after l (named N e.writes), results_longer N e.writes)

symbols_longer : (N : Names) (x : Writes) → length N.symbols ≤ length (named N x).symbols
symbols_longer N (writes_symbol y) = omega (arith, length-append N.symbols (y ∷ []))
symbols_longer N (writes_term t) = le_refl _
symbols_longer N (writes_deduction t) = le_refl _
symbols_longer N (writes_fact f φ) = le_refl _
symbols_longer N (writes_let P φ) = le_refl _

symbols_after : (l : List Line) (N : Names) → length N.symbols ≤ length (named_each N l).symbols
symbols_after [] N = le_refl _
symbols_after (e ∷ l) N = le_trans (symbols_longer N e.writes) (symbols_after l (named N e.writes))

module _ (A : Arithmetic) (L : Limits) (R : Room) where
  -- ---- a proof that concludes

  concludes_so : (N : Names) (ts : List Tree) (P : Proof) (φ : Formula) → Concludes (known_at N) [] P φ → each_within L (conclusions_of N P) ≡ true
      → length (keep_each ts (parts_of_each (conclusions_of N P))) ≤ R.terms
      → concluded L R N 1 ts P ≡ done (record { terms = keep_each ts (parts_of_each (conclusions_of N P)); formula = φ })
  concludes_so N ts P φ d small room =
      then (settle L R 1 ts (conclusions (known_at N) [] P)) _ _ _ (settles L R 1 ts (conclusions (known_at N) [] P) (each_concludes (known_at N) P φ d) small room)
      (then (need unfounded (conclude (known_at N) [] P)) _ φ _ (need_some unfounded _ φ (conclude_gives (known_at N) d)) refl)

  -- ---- lines

  module _ (N : Names) (ts : List Tree) (q : Option Formula) (b : Option Start) where
    abbrev here : State
    here = state N ts q b false

    symbol_step : (c : Command) (y : Symbol) → c.a ≡ y.arity → leb y.arity L.arguments ≡ true
        → suc (length N.symbols) ≤ R.symbols → suc (length N.results) ≤ R.commands → do_symbol A L R y.kind here c ≡ done (state (with_symbol N y) ts q b false)
    symbol_step c y arity small room1 room2 =
        then (require miscounted (leb c.a L.arguments)) _ tt _ (passes miscounted 0 _ (ap (λ n. leb n L.arguments) arity ∙ small))
        (then (require crowded (ltb (length N.symbols) R.symbols && holds_command L R here)) _ tt _ (passes crowded 0 _ (and_from _ _ (lt-ltb _ _ room1) (lt-ltb _ _ room2)))
        (ap (λ n. done (state (with_symbol N (record { kind = y.kind; arity = n })) ts q b false)) arity))

    make_step : (c : Command) (m : Maker) (t : Tree) → Makes A N c m t → within L t ≡ true
        → length (keep ts t) ≤ R.terms → suc (length N.results) ≤ R.commands → do_make A L R m here c ≡ done (state (with_result N (term t)) (keep ts t) q b false)
    make_step c m t right small room1 room2 =
        then (need unnamed (made m N c)) _ t _ (need_some unnamed _ t right.makes)
        (then (require miscounted (full N t)) _ tt _ (passes miscounted 0 _ right.has_arguments)
        (then (require unadmitted (literal_admitted A t)) _ tt _ (passes unadmitted 0 _ right.admits_literal)
        (then (require unclosed (closed_within t)) _ tt _ (passes unclosed 0 _ right.closes)
        (then (require oversized (within L t)) _ tt _ (passes oversized 0 _ small)
        (then (require crowded (holds_terms L R (keep ts t) && holds_command L R here)) _ tt _ (passes crowded 0 _ (and_from _ _ (le-leb _ _ room1) (lt-ltb _ _ room2))) refl)))))

    fact_step : (c : Command) (g : FactHead) (f : Fact) (φ : Formula) → named_fact g N c ≡ some f → closed_fact f ≡ true → States A f φ → within L (formula_tree φ) ≡ true
        → length (keep_each ts (parts (formula_tree φ))) ≤ R.terms → suc (length N.results) ≤ R.commands
        → do_fact A L R g here c ≡ done (state (with_result N (fact φ)) (keep_each ts (parts (formula_tree φ))) q b false)
    fact_step c g f φ names shut states small room1 room2 =
        then (need unnamed (named_fact g N c)) _ f _ (need_some unnamed _ f names)
        (then (require unclosed (closed_fact f)) _ tt _ (passes unclosed 0 _ shut)
        (then (stated (Facts.state A f)) _ φ _ (ap stated (state_gives A states))
        (then (require oversized (within L (formula_tree φ))) _ tt _ (passes oversized 0 _ small)
        (then (require crowded (holds_terms L R (keep_each ts (parts (formula_tree φ))) && holds_command L R here)) _ tt _
        (passes crowded 0 _ (and_from _ _ (le-leb _ _ room1) (lt-ltb _ _ room2))) refl))))

    let_step : (c : Command) (P : Proof) (φ : Formula) → proof_at N c.a ≡ some P → open_hypotheses (proof_tree P) ≡ 0 → Concludes (known_at N) [] P φ → each_within L (conclusions_of N P) ≡ true
        → length (keep_each ts (parts_of_each (conclusions_of N P))) ≤ R.terms → suc (length N.results) ≤ R.commands
        → do_let A L R here c ≡ done (state (with_result N (fact φ)) (keep_each ts (parts_of_each (conclusions_of N P))) q b false)
    let_step c P φ names shut d small room1 room2 =
        then (need unnamed (proof_at N c.a)) _ P _ (need_some unnamed _ P names)
        (then (require unclosed (no_open_hypothesis P)) _ tt _ (passes unclosed 0 _ (eq-eqb _ _ shut))
        (then (concluded L R N 1 ts P) _ _ _ (concludes_so N ts P φ d small room1)
        (then (require crowded (holds_command L R here)) _ tt _ (passes crowded 0 _ (lt-ltb _ _ room2)) refl)))

    line_step : (c : Command) (x : Writes) → Rightly A N c x → Small L N x → Takes (stage_of here) x
        → length (keep_each ts (terms_of N x)) ≤ R.terms → length (named N x).symbols ≤ R.symbols → suc (length N.results) ≤ R.commands
        → step A L R here c ≡ done (state (named N x) (keep_each ts (terms_of N x)) q b false)
    line_step c (writes_symbol y) right small stage room1 room2 room3 =
        step_acts A L R here c (a_symbol y.kind) right.0 (stage y.kind)
        ∙ symbol_step c y right.1 small (omega (arith, length-append N.symbols (y ∷ []))) room3
    line_step c (writes_term t) right small stage room1 room2 room3 =
        step_acts A L R here c (a_term right.0) right.1 (stage right.0) ∙ make_step c right.0 t right.2 small room1 room3
    line_step c (writes_deduction t) right small stage room1 room2 room3 =
        step_acts A L R here c (a_deduction right.0) right.1 (stage right.0) ∙ make_step c right.0 t right.2 small room1 room3
    line_step c (writes_fact f φ) right small stage room1 room2 room3 =
        step_acts A L R here c (a_fact right.0) right.1 (stage right.0) ∙ fact_step c right.0 f φ right.2 right.3 right.4 small room1 room3
    line_step c (writes_let P φ) right small stage room1 room2 room3 =
        step_acts A L R here c a_let right.0 stage ∙ let_step c P φ right.1 right.2 right.3 small room1 room3

  -- ---- reading on

  read_on : (file : ℕ) (S S' : State) (next line : ℕ) (c : Command) (more : List Item) → step A L R S c ≡ done S' → S'.closed ≡ false
      → read A L R file S next (record { line = line; content = Some c } ∷ more) ≡ read A L R file S' (suc line) more
  read_on file S S' next line c more h still =
      ap (read_answer file S line (λ X. read A L R file X (suc line) more)) h
      ∙ ap (unless_closed file line (λ X. read A L R file X (suc line) more) S') still

  module _ (file : ℕ) (q : Option Formula) (b : Option Start) where
    read_lines : (l : List Line) (more : List Item) (N : Names) (ts : List Tree) (next : ℕ)
        → LinesWritten A N l → EachSmall L N l → TakesEach (stage_from false q b) l
        → length (keep_each ts (terms_of_each N l)) ≤ R.terms → length (named_each N l).symbols ≤ R.symbols → length N.results + length l ≤ R.commands
        → (next' : ℕ) × (read A L R file (state N ts q b false) next (items l ++ more) ≡ read A L R file (state (named_each N l) (keep_each ts (terms_of_each N l)) q b false) next' more)
    read_lines [] more N ts next written small stages room1 room2 room3 = (next, refl)
    read_lines (e ∷ l) more N ts next written small stages room1 room2 room3 =
        let x = e.writes in
        let e1 = keep_each_append ts (terms_of N x) (terms_of_each (named N x) l) in
        let now : step A L R (state N ts q b false) e.command ≡ done (state (named N x) (keep_each ts (terms_of N x)) q b false) =
        line_step N ts q b e.command x written.0 small.0 stages.0 (part_fits ts (terms_of N x) (terms_of_each (named N x) l) R.terms room1)
        (le_trans (symbols_after l (named N x)) room2) (omega arith) in
        let rest = read_lines l more (named N x) (keep_each ts (terms_of N x)) (suc e.number) written.1 small.1 stages.1
        (subst (λ k. length k ≤ R.terms) e1 room1) room2 (omega (arith, results_longer N x)) in (
          rest.0,
          read_on file (state N ts q b false) (state (named N x) (keep_each ts (terms_of N x)) q b false) next e.number e.command (items l ++ more) now refl
              ∙ rest.1
              ∙ ap (λ k. read A L R file (state (named_each (named N x) l) k q b false) rest.0 more) (sym e1),
        )

  -- ---- `query`, `initial` and `final`

  query_step : (N : Names) (ts : List Tree) (c : Command) (φ : Formula) → action_of c.code ≡ some a_query → formula_at N c.a ≡ some φ → closed (formula_tree φ) ≡ true
      → suc (length N.results) ≤ R.commands → step A L R (state N ts none none false) c ≡ done (state (with_result N nothing) ts (some φ) none false)
  query_step N ts c φ head names shut room =
      step_acts A L R (state N ts none none false) c a_query head refl
      ∙ then (need unnamed (formula_at N c.a)) _ φ _ (need_some unnamed _ φ names)
      (then (require unclosed (closed (formula_tree φ))) _ tt _ (passes unclosed 0 _ shut)
      (then (require crowded (holds_command L R (state N ts none none false))) _ tt _ (passes crowded 0 _ (lt-ltb _ _ room)) refl))

  all_new : (l : List ℕ) (t : Tree) → ((s : ℕ) → member s l ≡ true → appears s t ≡ false) → none_appears l t ≡ true
  all_new [] t new = refl
  all_new (s ∷ l) t new =
      and_from _ _ (ap not (new s (or_left (eqb s s) (member s l) (eq-eqb s s refl)))) (all_new l t (λ r m. new r (or_right (eqb r s) (member r l) m)))

  module _ (N : Names) (ts : List Tree) (φ ψ : Formula) (p : Plan) where
    begin_step : (w : Walked) → result w ≡ some ψ → each_within L (met_by w) ≡ true
        → length (keep_each ts (parts_of_each (met_by w))) ≤ R.terms → suc (length N.results) ≤ R.commands
        → begin L R (state N ts (some φ) none false) p w ≡ done (state (with_result N (fact ψ)) (keep_each ts (parts_of_each (met_by w))) (some φ) (some (record { plan = p; formula = ψ })) false)
    begin_step (misfit k) e small room1 room2 = absurd (none-ne-some ψ e)
    begin_step (yields k met χ) e small room1 room2 =
        then (require oversized (each_within L met)) _ tt _ (passes oversized 0 _ small)
        (then (require crowded (holds_terms L R (keep_each ts (parts_of_each met)) && holds_command L R (state N ts (some φ) none false))) _ tt _
        (passes crowded 0 _ (and_from _ _ (le-leb _ _ room1) (lt-ltb _ _ room2)))
        (ap (λ x. done (state (with_result N (fact x)) (keep_each ts (parts_of_each met)) (some φ) (some (record { plan = p; formula = x })) false)) (some-injective χ ψ e)))

    initial_step : (c : Command) → action_of c.code ≡ some an_initial → plan_at N c.a ≡ some p
        → distinct (symbols p) ≡ true → ((s : ℕ) → member s (symbols p) ≡ true → appears s (formula_tree φ) ≡ false) → Turns (thing_arity N) 0 p φ ψ
        → each_within L (met_by (walk (thing_arity N) 0 p φ)) ≡ true
        → length (keep_each ts (parts_of_each (met_by (walk (thing_arity N) 0 p φ)))) ≤ R.terms → suc (length N.results) ≤ R.commands
        → step A L R (state N ts (some φ) none false) c
        ≡ done (state (with_result N (fact ψ)) (keep_each ts (parts_of_each (met_by (walk (thing_arity N) 0 p φ)))) (some φ) (some (record { plan = p; formula = ψ })) false)
    initial_step c head names once new turns small room1 room2 =
        step_acts A L R (state N ts (some φ) none false) c an_initial head refl
        ∙ then (need unnamed (plan_at N c.a)) _ p _ (need_some unnamed _ p names)
        (then (require stale (new_symbols p φ)) _ tt _ (passes stale 0 _ (and_from _ _ once (all_new (symbols p) (formula_tree φ) new)))
        (begin_step (walk (thing_arity N) 0 p φ) (turn_gives (thing_arity N) turns) small room1 room2))

  final_step : (N : Names) (ts : List Tree) (c : Command) (φ : Formula) (b : Start) (P : Proof) → action_of c.code ≡ some a_final → proof_at N c.a ≡ some P
      → open_hypotheses (proof_tree P) ≡ 0 → Concludes (known_at N) [] P falsity → each_within L (conclusions_of N P) ≡ true
      → length (keep_each ts (parts_of_each (conclusions_of N P))) ≤ R.terms → suc (length N.results) ≤ R.commands
      → step A L R (state N ts (some φ) (some b) false) c ≡ done (state (with_result N nothing) ts (some φ) (some b) true)
  final_step N ts c φ b P head names shut d small room1 room2 =
      let S = state N ts (some φ) (some b) false in
      step_acts A L R S c a_final head refl
      ∙ then (need unnamed (proof_at N c.a)) _ P _ (need_some unnamed _ P names)
      (then (require unclosed (no_open_hypothesis P)) _ tt _ (passes unclosed 0 _ (eq-eqb _ _ shut))
      (then (concluded L R N 1 ts P) _ _ _ (concludes_so N ts P falsity d small room1)
      (then (require crowded (holds_command L R S)) _ tt _ (passes crowded 0 _ (lt-ltb _ _ room2))
      (then (require unrefuted (same falsity falsity)) _ tt _ (passes unrefuted 0 _ (same_refl falsity)) refl))))

-- ---- the two files

module _ (A : Arithmetic) (L : Limits) (R : Room) (w : Script) (written : WrittenOut A w) (fits : Fits L R w) where
  -- the terms kept before `query`, before and after `initial`, before `final`, and those that it counts
  abbrev terms1 : List Tree
  terms1 = keep_each [] (terms_of_each no_names w.query_lines)

  abbrev terms2 : List Tree
  terms2 = keep_each terms1 (terms_of_each (asked w) w.plan_lines)

  abbrev terms3 : List Tree
  terms3 = keep_each terms2 (parts_of_each (met w))

  abbrev terms4 : List Tree
  terms4 = keep_each terms3 (terms_of_each (Written.begun w) w.proof_lines)

  abbrev terms5 : List Tree
  terms5 = keep_each terms4 (parts_of_each (conclusions_of (at_final w) w.proof))

  kept_five : (a b c d e : List Tree) → keep_each [] (a ++ b ++ c ++ d ++ e) ≡ keep_each (keep_each (keep_each (keep_each (keep_each [] a) b) c) d) e
  kept_five a b c d e =
      keep_each_append [] (a ++ b ++ c ++ d) e
      ∙ ap (λ k. keep_each k e) (keep_each_append [] (a ++ b ++ c) d ∙ ap (λ k. keep_each k d) (keep_each_append [] (a ++ b) c ∙ ap (λ k. keep_each k c) (keep_each_append [] a b)))

  room5 : length terms5 ≤ R.terms
  room5 =
      subst (λ k. length k ≤ R.terms)
      (kept_five (terms_of_each no_names w.query_lines) (terms_of_each (asked w) w.plan_lines) (parts_of_each (met w)) (terms_of_each (Written.begun w) w.proof_lines) (parts_of_each (conclusions_of (at_final w) w.proof)))
      fits.terms_fit

  room4 : length terms4 ≤ R.terms
  room4 = le_trans (length_keep_each terms4 (parts_of_each (conclusions_of (at_final w) w.proof))) room5

  room3 : length terms3 ≤ R.terms
  room3 = le_trans (length_keep_each terms3 (terms_of_each (Written.begun w) w.proof_lines)) room4

  room2 : length terms2 ≤ R.terms
  room2 = le_trans (length_keep_each terms2 (parts_of_each (met w))) room3

  room1 : length terms1 ≤ R.terms
  room1 = le_trans (length_keep_each terms1 (terms_of_each (asked w) w.plan_lines)) room2

  -- numbers of symbols and of results

  symbols2 : length (at_initial w).symbols ≤ R.symbols
  symbols2 = le_trans (symbols_after w.proof_lines (Written.begun w)) fits.symbols_fit

  symbols1 : length (at_query w).symbols ≤ R.symbols
  symbols1 = le_trans (symbols_after w.plan_lines (asked w)) symbols2

  count1 : length (at_query w).results ≡ length w.query_lines
  count1 = omega (arith, results_after w.query_lines no_names)

  count2 : length (asked w).results ≡ suc (length w.query_lines)
  count2 = omega (arith, count1, length-append (at_query w).results (nothing ∷ []))

  count3 : length (at_initial w).results ≡ suc (length w.query_lines) + length w.plan_lines
  count3 = omega (arith, count2, results_after w.plan_lines (asked w))

  count4 : length (Written.begun w).results ≡ suc (suc (length w.query_lines + length w.plan_lines))
  count4 = omega (arith, count3, length-append (at_initial w).results (fact w.initial ∷ []))

  count5 : length (at_final w).results ≡ suc (suc (length w.query_lines + length w.plan_lines)) + length w.proof_lines
  count5 = omega (arith, count4, results_after w.proof_lines (Written.begun w))

  -- the states on the way

  abbrev start : Start
  start = record { plan = w.plan; formula = w.initial }

  abbrev state2 : State
  state2 = state (asked w) terms1 (some w.query) none false

  abbrev state3 : State
  state3 = state (at_initial w) terms2 (some w.query) none false

  abbrev state4 : State
  state4 = state (Written.begun w) terms3 (some w.query) (some start) false

  abbrev state5 : State
  state5 = state (at_final w) terms4 (some w.query) (some start) false

  abbrev state6 : State
  state6 = state (with_result (at_final w) nothing) terms4 (some w.query) (some start) true

  query_read : read A L R 1 fresh 1 (query_file w) ≡ through state2 (suc w.query_line.number)
  query_read =
      let lines = read_lines A L R 1 none none w.query_lines (last_item w.query_line) no_names [] 1
      written.query_written fits.query_small (each_asking w.query_lines written.while_asking) room1 symbols1 (omega (arith, fits.commands_fit)) in
      lines.1
      ∙ read_on A L R 1 (state (at_query w) terms1 none none false) state2 lines.0 w.query_line.number w.query_line.command []
      (query_step A L R (at_query w) terms1 w.query_line.command w.query written.query_named.0 written.query_named.1 written.query_closed
      (omega (arith, count1, fits.commands_fit)))
      refl

  proof_read : read A L R 2 state2 1 (proof_file w) ≡ stopped state6 (accepts 2 w.final_line.number)
  proof_read =
      let after_plan = last_item w.initial_line ++ (items w.proof_lines ++ last_item w.final_line) in
      let lines1 = read_lines A L R 2 (some w.query) none w.plan_lines after_plan (asked w) terms1 1
      written.plan_written fits.plan_small (each_proving w.plan_lines) room2 symbols2 (omega (arith, count2, fits.commands_fit)) in
      let lines2 = read_lines A L R 2 (some w.query) (some start) w.proof_lines (last_item w.final_line) (Written.begun w) terms3 (suc w.initial_line.number)
      written.proof_written fits.proof_small (each_begun w.proof_lines) room4 fits.symbols_fit (omega (arith, count4, fits.commands_fit)) in
      lines1.1
      ∙ read_on A L R 2 state3 state4 lines1.0 w.initial_line.number w.initial_line.command (items w.proof_lines ++ last_item w.final_line)
      (initial_step A L R (at_initial w) terms2 w.query w.initial w.plan w.initial_line.command written.plan_named.0 written.plan_named.1
      written.symbols_once written.symbols_new written.plan_turns fits.met_small room3 (omega (arith, count3, fits.commands_fit)))
      refl
      ∙ lines2.1
      ∙ ap (read_answer 2 state5 w.final_line.number (λ X. read A L R 2 X (suc w.final_line.number) []))
      (final_step A L R (at_final w) terms4 w.final_line.command w.query start w.proof written.proof_named.0 written.proof_named.1
      written.proof_closed written.refutes fits.concluded_small room5 (omega (arith, count5, fits.commands_fit)))

  accepted : (run A L R fresh (query_file w) (proof_file w)).verdict ≡ accepts 2 w.final_line.number
  accepted = ap (λ x. (conclude_query A L R (proof_file w) x).verdict) query_read ∙ ap (λ x. (conclude_proof x).verdict) proof_read

pub that_refutations_are_accepted : RefutationsAreAccepted
that_refutations_are_accepted A L R w written fits = accepted A L R w written fits
