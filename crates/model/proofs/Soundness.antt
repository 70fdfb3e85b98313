-- A session stays sound, whatever commands it is given.
use Rattle.command.specs.declared.command.Command.{Command}
use Rattle.std.proofs.Common.{◌≡◌, ℕ, Bool, true, false, not, ◌||◌, eqb, List, [], ◌∷◌, length, sym, refl, ◌∙◌, subst, inl, inr}
use mathlib.Core.Bool.{false≢true}
use mathlib.Core.Option.{Option, none, some, some-injective}
use Rattle.std.proofs.lemmas.Bool.{and_parts, or_parts, or_cases, not-true, eqb-true}
use Rattle.logic.specs.Syntax.{Formula, Plan, Proof, falsity}
use Rattle.logic.specs.Tree.{Kind, thing, number, predicate, Tree, formula_tree, stands, parts}
use Rattle.logic.specs.Arithmetic.{Arithmetic, Lawful}
use Rattle.logic.specs.World.{World, Holds, Rereads}
use Rattle.logic.specs.Rules.{conclude}
use Rattle.logic.specs.Plans.{Fresh, symbols, member, distinct}
use Rattle.logic.proofs.RulesAre.{concluded as concludes}
use Rattle.logic.proofs.PlansAre.{turned}
use Rattle.logic.proofs.FactsAre.{fact_stated}
use Rattle.logic.proofs.Theorems.{that_conclusions_hold, that_facts_hold, that_plans_hold_after_rereading}
use Rattle.model.specs.Refusal.{done}
use Rattle.model.specs.Limits.{Limits, Room}
use Rattle.model.specs.State.{Result, symbol, term, fact, nothing, Names, with_result, with_symbol, Start, State, state, fresh, the_tree, the_fact, known_at, thing_arity}
use Rattle.logic.specs.Keeping.{keep, keep_each}
use Rattle.model.specs.Commands.{Maker, FactHead, Action, a_symbol, a_term, a_deduction, a_fact, a_query, an_initial, a_let, a_same, a_shows, a_final}
use Rattle.model.specs.Tests.{appears, none_appears, new_symbols}
use Rattle.model.specs.Session.{stage_from, stage_of, taken, allowed, accept}
use Rattle.model.specs.Session.{do_symbol, do_make, do_fact, do_query, do_initial, do_let, do_final, act, step, after}
use Rattle.model.specs.Theorems.{StartHolds, Sound, Always, KnownFormulasHold, InitialFormulasHoldAfterRereading, RefutedQueriesHoldNowhere}
use Rattle.model.proofs.Accepted.{step_accepted, symbol_accepted, make_accepted, fact_accepted, query_accepted, initial_accepted, let_accepted, same_accepted, shows_accepted, final_accepted, holds_after}
use Rattle.model.proofs.Names.{Adds, nothing_of, before_or_new, none_named}
use Rattle.model.proofs.Admitting.{AllAdmitted, Passes, made_admitted, fact_admitted, stated_admitted}

-- ---- stages

pub while_proving : (c : Bool) (q : Option Formula) (b : Option Start) → taken false true true (stage_from c q b) ≡ true → (φ : Formula) × (q ≡ some φ)
while_proving true q b h = absurd (false≢true h)
while_proving false none b h = absurd (false≢true h)
while_proving false (some φ) none h = (φ, refl)
while_proving false (some φ) (some s) h = (φ, refl)

before_initial : (c : Bool) (q : Option Formula) (b : Option Start) → taken false true false (stage_from c q b) ≡ true → (c ≡ false) × (b ≡ none)
before_initial true q b h = absurd (false≢true h)
before_initial false none b h = absurd (false≢true h)
before_initial false (some φ) none h = (refl, refl)
before_initial false (some φ) (some s) h = absurd (false≢true h)

while_asking : (c : Bool) (q : Option Formula) (b : Option Start) → taken true false false (stage_from c q b) ≡ true → (c ≡ false) × (q ≡ none)
while_asking true q b h = absurd (false≢true h)
while_asking false none b h = (refl, refl)
while_asking false (some φ) none h = absurd (false≢true h)
while_asking false (some φ) (some s) h = absurd (false≢true h)

-- ---- Skolem symbols that pass the test are new

new_each : (l : List ℕ) (t : Tree) → none_appears l t ≡ true → (s : ℕ) → member s l ≡ true → appears s t ≡ false
new_each [] t h s m = absurd (false≢true m)
new_each (r ∷ l) t h s m =
    let p = and_parts (not (appears r t)) (none_appears l t) h in
    elim (or_cases (eqb s r) (member s l) m) [
      | inl e ↦ subst (λ x. appears x t ≡ false) (sym (eqb-true s r e)) (not-true _ p.0)
      | inr e ↦ new_each l t p.1 s e
    ]

fresh_from : (p : Plan) (φ : Formula) → new_symbols p φ ≡ true → Fresh p φ
fresh_from p φ h =
    let t = formula_tree φ in
    let n = and_parts (distinct (symbols p)) (none_appears (symbols p) t) h in
    record {
      once = n.0;
      new = λ s m. (or_parts (stands thing s t) (stands number s t) (or_parts (stands thing s t || stands number s t) (stands predicate s t) (new_each (symbols p) t n.1 s m)).0).0;
    }

module _ (A : Arithmetic) (law : Lawful A) (L : Limits) (R : Room) where
  pub record Good (S : State) : Type 0 where
    pub sound : Sound A S
    pub literals : AllAdmitted A S.names

  abbrev AllKnown : World A → Names → Type 0
  AllKnown W N = (k : ℕ) (φ : Formula) → known_at N k ≡ some φ → Holds W φ

  known_more : (W : World A) (N M : Names) (x : Result) → Adds N x M → AllKnown W N → ((φ : Formula) → the_fact x ≡ some φ → Holds W φ) → AllKnown W M
  known_more W N M x adds old new k φ h = elim (before_or_new the_fact N M x adds k φ h) [ inl e ↦ old k φ e | inr e ↦ new φ e ]

  literals_more : (N M : Names) (x : Result) → Adds N x M → AllAdmitted A N → ((t : Tree) → the_tree x ≡ some t → Passes A t) → AllAdmitted A M
  literals_more N M x adds old new k t h = elim (before_or_new the_tree N M x adds k t h) [ inl e ↦ old k t e | inr e ↦ new t e ]

  -- one more result, which is true and has admitted literals
  good_more : (S : State) (N : Names) (ts : List Tree) (x : Result) → Adds S.names x N → Good S
      → ((W : World A) → StartHolds W S.start → (φ : Formula) → the_fact x ≡ some φ → Holds W φ)
      → ((t : Tree) → the_tree x ≡ some t → Passes A t)
      → Good (state N ts S.query S.start S.closed)
  good_more S N ts x adds g new_fact new_tree = record {
    sound = record {
      known_hold = λ W s. known_more W S.names N x adds (g.sound.known_hold W s) (new_fact W s);
      begun_soundly = g.sound.begun_soundly;
      closed_soundly = g.sound.closed_soundly;
    };
    literals = literals_more S.names N x adds g.literals new_tree;
  }

  -- what a proof concludes holds
  conclusion_holds : (N : Names) (P : Proof) (φ : Formula) (W : World A) → AllKnown W N → conclude (known_at N) [] P ≡ some φ → Holds W φ
  conclusion_holds N P φ W all h = that_conclusions_hold A W (known_at N) [] P φ all (λ i ψ e. nothing_of ψ e) (concludes (known_at N) [] P φ h)

  good_symbol : (k : Kind) (S S' : State) (c : Command) → Good S → do_symbol A L R k S c ≡ done S' → Good S'
  good_symbol k S S' c g e =
      subst Good (sym (symbol_accepted A L R S S' c k e))
      (good_more S (with_symbol S.names (record { kind = k; arity = c.a })) S.terms (symbol (length S.names.symbols)) refl g (λ W s φ x. nothing_of φ x) (λ t x. nothing_of t x))

  good_make : (m : Maker) (S S' : State) (c : Command) → Good S → do_make A L R m S c ≡ done S' → Good S'
  good_make m S S' c g e =
      let (t, makes, arguments, literal, closes, small, is) = make_accepted A L R S S' c m e in
      subst Good (sym is) (good_more S (with_result S.names (term t)) (keep S.terms t) (term t) refl g (λ W s φ x. nothing_of φ x)
      (λ u x. subst (Passes A) (some-injective t u x) (made_admitted A S.names g.literals m c t makes literal)))

  good_fact : (k : FactHead) (S S' : State) (c : Command) → Good S → do_fact A L R k S c ≡ done S' → Good S'
  good_fact k S S' c g e =
      let (f, φ, names, closes, states, is) = fact_accepted A L R S S' c k e in
      let d = fact_stated A f φ states in
      let ok = stated_admitted A law f φ d (fact_admitted A S.names g.literals c k f names) in
      subst Good (sym is) (good_more S (with_result S.names (fact φ)) (keep_each S.terms (parts (formula_tree φ))) (fact φ) refl g
      (λ W s χ x. subst (Holds W) (some-injective φ χ x) (that_facts_hold A law W f φ d ok)) (λ t x. nothing_of t x))

  good_query : (S S' : State) (c : Command) → Good S → allowed a_query (stage_of S) ≡ true → do_query A L R S c ≡ done S' → Good S'
  good_query S S' c g stage e =
      let now = while_asking S.closed S.query S.start stage in
      let N = with_result S.names nothing in
      subst Good (sym (query_accepted A L R S S' c e).3) (record {
        sound = record {
          known_hold = λ W s. known_more W S.names N nothing refl (g.sound.known_hold W s) (λ ψ x. nothing_of ψ x);
          begun_soundly = λ b x. let old = g.sound.begun_soundly b x in nothing_of old.0 (sym now.1 ∙ old.1);
          closed_soundly = λ x. absurd (false≢true (sym now.0 ∙ x));
        };
        literals = literals_more S.names N nothing refl g.literals (λ t x. nothing_of t x);
      })

  good_initial : (S S' : State) (c : Command) → Good S → allowed an_initial (stage_of S) ≡ true → do_initial A L R S c ≡ done S' → Good S'
  good_initial S S' c g stage e =
      let (φ, p, met, ψ, query, names, new, turns, is) = initial_accepted A L R S S' c e in
      let now = before_initial S.closed S.query S.start stage in
      let d = turned (thing_arity S.names) 0 p φ ψ turns in
      let N = with_result S.names (fact ψ) in
      subst Good (sym is) (record {
        sound = record {
          known_hold = λ W s. known_more W S.names N (fact ψ) refl (g.sound.known_hold W (subst (StartHolds W) (sym now.1) tt)) (λ χ x. subst (Holds W) (some-injective ψ χ x) s);
          begun_soundly = λ b x. (
            φ,
            query,
            λ W holds.
                subst (λ (y : Start). (V : World A) × Rereads (λ s. member s (symbols y.plan)) W V × Holds V y.formula) (some-injective _ b x)
                (that_plans_hold_after_rereading A (thing_arity S.names) p φ ψ d (fresh_from p φ new) W holds),
          );
          closed_soundly = λ x. absurd (false≢true (sym now.0 ∙ x));
        };
        literals = literals_more S.names N (fact ψ) refl g.literals (λ t x. nothing_of t x);
      })

  good_let : (S S' : State) (c : Command) → Good S → do_let A L R S c ≡ done S' → Good S'
  good_let S S' c g e =
      let (P, φ, names, gives, is) = let_accepted A L R S S' c e in
      subst Good (sym is) (good_more S (with_result S.names (fact φ)) _ (fact φ) refl g
      (λ W s χ x. subst (Holds W) (some-injective φ χ x) (conclusion_holds S.names P φ W (g.sound.known_hold W s) gives)) (λ t x. nothing_of t x))

  good_nothing : (S : State) → Good S → Good (accept S S.terms nothing)
  good_nothing S g = good_more S (with_result S.names nothing) S.terms nothing refl g (λ W s φ x. nothing_of φ x) (λ t x. nothing_of t x)

  -- the query fails where what is known from it concludes falsity
  no_world : (S : State) (P : Proof) (φ : Formula) → Good S → S.query ≡ some φ → conclude (known_at S.names) [] P ≡ some falsity
      → (b : Option Start) → S.start ≡ b → (W : World A) → Holds W φ → ⊥
  no_world S P φ g q h none n W holds = false≢true (conclusion_holds S.names P falsity W (g.sound.known_hold W (subst (StartHolds W) (sym n) tt)) h)
  no_world S P φ g q h (some b) n W holds =
      let begun = g.sound.begun_soundly b n in
      let same_query : begun.0 ≡ φ = some-injective _ _ (sym begun.1 ∙ q) in
      let v = begun.2 W (subst (Holds W) (sym same_query) holds) in
      false≢true (conclusion_holds S.names P falsity v.0 (g.sound.known_hold v.0 (subst (StartHolds v.0) (sym n) v.2)) h)

  good_final : (S S' : State) (c : Command) → Good S → allowed a_final (stage_of S) ≡ true → do_final A L R S c ≡ done S' → Good S'
  good_final S S' c g stage e =
      let (P, gives, is) = final_accepted A L R S S' c e in
      let now = while_proving S.closed S.query S.start stage in
      let rest = good_nothing S g in
      subst Good (sym is) (record {
        sound = record {
          known_hold = rest.sound.known_hold;
          begun_soundly = g.sound.begun_soundly;
          closed_soundly = λ x. (now.0, now.1, no_world S P now.0 g now.1 gives S.start refl);
        };
        literals = rest.literals;
      })

  good_act : (h : Action) (S S' : State) (c : Command) → Good S → allowed h (stage_of S) ≡ true → act A L R h S c ≡ done S' → Good S'
  good_act (a_symbol k) S S' c g s e = good_symbol k S S' c g e
  good_act (a_term m) S S' c g s e = good_make m S S' c g e
  good_act (a_deduction m) S S' c g s e = good_make m S S' c g e
  good_act (a_fact f) S S' c g s e = good_fact f S S' c g e
  good_act a_query S S' c g s e = good_query S S' c g s e
  good_act an_initial S S' c g s e = good_initial S S' c g s e
  good_act a_let S S' c g s e = good_let S S' c g e
  good_act a_same S S' c g s e = subst Good (sym (same_accepted A L R S S' c e)) (good_nothing S g)
  good_act a_shows S S' c g s e = subst Good (sym (shows_accepted A L R S S' c e)) (good_nothing S g)
  good_act a_final S S' c g s e = good_final S S' c g s e

  good_step : (S S' : State) (c : Command) → Good S → step A L R S c ≡ done S' → Good S'
  good_step S S' c g e = let (h, head, stage, acts) = step_accepted A L R S S' c e in good_act h S S' c g stage acts

  good_fresh : Good fresh
  good_fresh = record {
    sound = record {
      known_hold = λ W s k φ h. nothing_of φ (sym (none_named the_fact k) ∙ h);
      begun_soundly = λ b e. nothing_of b e;
      closed_soundly = λ e. absurd (false≢true e);
    };
    literals = λ k t h. nothing_of t (sym (none_named the_tree k) ∙ h);
  }

  good_after : (cs : List Command) (S : State) → Good S → Good (after A L R S cs)
  good_after = holds_after A L R Good good_step

pub always_sound : Always Sound
always_sound A law L R cs = (good_after A law L R cs fresh (good_fresh A law L R)).sound

pub that_known_formulas_hold : KnownFormulasHold
that_known_formulas_hold A law L R cs = (always_sound A law L R cs).known_hold

pub that_initial_formulas_hold_after_rereading : InitialFormulasHoldAfterRereading
that_initial_formulas_hold_after_rereading A law L R cs = (always_sound A law L R cs).begun_soundly

pub that_refuted_queries_hold_nowhere : RefutedQueriesHoldNowhere
that_refuted_queries_hold_nowhere A law L R cs = (always_sound A law L R cs).closed_soundly
