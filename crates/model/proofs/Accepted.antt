-- What an accepted command shows: the tests that it passed, and the state that it leads to.
use Rattle.command.specs.declared.command.Command.{Command}
use Rattle.std.proofs.Common.{◌≡◌, ℕ, true, ◌&&◌, ltb, leb, List, [], ◌∷◌, length, sym, refl, ap, ◌∙◌}
use mathlib.Core.Option.{some}
use Rattle.logic.specs.Syntax.{Formula, Plan, Proof, falsity, same}
use Rattle.logic.specs.Tree.{Kind, Tree, formula_tree, parts}
use Rattle.logic.specs.Arithmetic.{Arithmetic}
use Rattle.logic.specs.Rules.{conclude}
use Rattle.logic.specs.Facts as Facts
use Rattle.logic.specs.Facts.{Fact, Stated}
use Rattle.logic.specs.Plans.{Walked, misfit, yields, walk, result, turn}
use Rattle.logic.specs.Positions.{conclusions}
use Rattle.logic.specs.Closed.{closed}
use Rattle.logic.proofs.RulesAre.{same_true}
use Rattle.model.specs.Refusal.{unknown, untimely, unnamed, miscounted, unclosed, oversized, crowded, unfounded, unfit, stale, different, unadmitted, uncarried, unrefuted, Outcome, done, refused, ◌>>=◌, require, need}
use Rattle.model.specs.Limits.{Limits, Room, within}
use Rattle.model.specs.State.{term, fact, nothing, with_result, with_symbol, State, state, known_at, formula_at, plan_at, proof_at, thing_arity}
use Rattle.logic.specs.Keeping.{keep, keep_each}
use Rattle.model.specs.Commands.{Maker, FactHead, Action, action_of, made, named_fact}
use Rattle.model.specs.Tests.{full, literal_admitted, closed_within, closed_fact, new_symbols}
use Rattle.model.specs.Session.{stage_of, allowed, accept, stated, Concluded, holds_terms, holds_command, no_open_hypothesis, parts_of_each, each_within, begin, settle, concluded, do_symbol, do_make, do_fact, do_query, do_initial, do_let, do_same, do_shows, do_final, act, step, kept, after}
use Rattle.model.specs.Theorems.{before_misfit}
use Rattle.model.proofs.Outcomes.{passed, needed, required, done_inj, refused≢done}
use Rattle.model.proofs.Settling.{settled}

stated_as : (s : Stated) (φ : Formula) → stated s ≡ done φ → s ≡ Facts.formula φ
stated_as Facts.uncarried φ h = absurd (refused≢done uncarried 0 φ h)
stated_as Facts.misshapen φ h = absurd (refused≢done unfounded 0 φ h)
stated_as Facts.unadmitted φ h = absurd (refused≢done unadmitted 0 φ h)
stated_as (Facts.formula ψ) φ h = ap Facts.formula (done_inj ψ φ h)

-- a plan that fits
pub begin_accepted : (L : Limits) (R : Room) (S S' : State) (p : Plan) (w : Walked) → begin L R S p w ≡ done S'
    → (met : List Formula) × (ψ : Formula) × (result w ≡ some ψ) × (S' ≡ state (with_result S.names (fact ψ)) (keep_each S.terms (parts_of_each met)) S.query (some (record { plan = p; formula = ψ })) S.closed)
begin_accepted L R S S' p (misfit k) h = absurd (refused≢done unfit k S' h)
begin_accepted L R S S' p (yields k met ψ) h =
    let b7 = passed (require oversized (each_within L met)) _ S' h in
    let b8 = passed (require crowded (holds_terms L R (keep_each S.terms (parts_of_each met)) && holds_command L R S)) _ S' b7.2 in
    (met, ψ, refl, sym (done_inj _ S' b8.2))

module _ (A : Arithmetic) (L : Limits) (R : Room) (S S' : State) (c : Command) where
  pub step_accepted : step A L R S c ≡ done S' → (h : Action) × (action_of c.code ≡ some h) × (allowed h (stage_of S) ≡ true) × (act A L R h S c ≡ done S')
  step_accepted e =
      let h = passed (need unknown (action_of c.code)) _ S' e in
      let b = passed (require untimely (allowed h.0 (stage_of S))) _ S' h.2 in
      (h.0, needed unknown _ _ h.1, required untimely 0 _ _ b.1, b.2)

  pub symbol_accepted : (k : Kind) → do_symbol A L R k S c ≡ done S' → S' ≡ state (with_symbol S.names (record { kind = k; arity = c.a })) S.terms S.query S.start S.closed
  symbol_accepted k e =
      let b5 = passed (require miscounted (leb c.a L.arguments)) _ S' e in
      let b8 = passed (require crowded (ltb (length S.names.symbols) R.symbols && holds_command L R S)) _ S' b5.2 in
      sym (done_inj _ S' b8.2)

  pub make_accepted : (m : Maker) → do_make A L R m S c ≡ done S'
      → (t : Tree) × (made m S.names c ≡ some t) × (full S.names t ≡ true) × (literal_admitted A t ≡ true) × (closed_within t ≡ true) × (within L t ≡ true)
      × (S' ≡ accept S (keep S.terms t) (term t))
  make_accepted m e =
      let t = passed (need unnamed (made m S.names c)) _ S' e in
      let b5 = passed (require miscounted (full S.names t.0)) _ S' t.2 in
      let b13 = passed (require unadmitted (literal_admitted A t.0)) _ S' b5.2 in
      let b6 = passed (require unclosed (closed_within t.0)) _ S' b13.2 in
      let b7 = passed (require oversized (within L t.0)) _ S' b6.2 in
      let b8 = passed (require crowded (holds_terms L R (keep S.terms t.0) && holds_command L R S)) _ S' b7.2 in
      (t.0, needed unnamed _ _ t.1, required miscounted 0 _ _ b5.1, required unadmitted 0 _ _ b13.1, required unclosed 0 _ _ b6.1, required oversized 0 _ _ b7.1, sym (done_inj _ S' b8.2))

  pub fact_accepted : (g : FactHead) → do_fact A L R g S c ≡ done S'
      → (f : Fact) × (φ : Formula) × (named_fact g S.names c ≡ some f) × (closed_fact f ≡ true) × (Facts.state A f ≡ Facts.formula φ) × (S' ≡ accept S (keep_each S.terms (parts (formula_tree φ))) (fact φ))
  fact_accepted g e =
      let f = passed (need unnamed (named_fact g S.names c)) _ S' e in
      let b6 = passed (require unclosed (closed_fact f.0)) _ S' f.2 in
      let φ = passed (stated (Facts.state A f.0)) _ S' b6.2 in
      let b7 = passed (require oversized (within L (formula_tree φ.0))) _ S' φ.2 in
      let b8 = passed (require crowded (holds_terms L R (keep_each S.terms (parts (formula_tree φ.0))) && holds_command L R S)) _ S' b7.2 in
      (f.0, φ.0, needed unnamed _ _ f.1, required unclosed 0 _ _ b6.1, stated_as _ φ.0 φ.1, sym (done_inj _ S' b8.2))

  pub query_accepted : do_query A L R S c ≡ done S'
      → (φ : Formula) × (formula_at S.names c.a ≡ some φ) × (closed (formula_tree φ) ≡ true) × (S' ≡ state (with_result S.names nothing) S.terms (some φ) S.start S.closed)
  query_accepted e =
      let φ = passed (need unnamed (formula_at S.names c.a)) _ S' e in
      let b6 = passed (require unclosed (closed (formula_tree φ.0))) _ S' φ.2 in
      let b8 = passed (require crowded (holds_command L R S)) _ S' b6.2 in
      (φ.0, needed unnamed _ _ φ.1, required unclosed 0 _ _ b6.1, sym (done_inj _ S' b8.2))

  pub initial_accepted : do_initial A L R S c ≡ done S'
      → (φ : Formula) × (p : Plan) × (met : List Formula) × (ψ : Formula) × (S.query ≡ some φ) × (plan_at S.names c.a ≡ some p) × (new_symbols p φ ≡ true) × (turn (thing_arity S.names) 0 p φ ≡ some ψ)
      × (S' ≡ state (with_result S.names (fact ψ)) (keep_each S.terms (parts_of_each met)) S.query (some (record { plan = p; formula = ψ })) S.closed)
  initial_accepted e =
      let φ = passed (need untimely S.query) _ S' e in
      let p = passed (need unnamed (plan_at S.names c.a)) _ S' φ.2 in
      let b11 = passed (require stale (new_symbols p.0 φ.0)) _ S' p.2 in
      let b = begin_accepted L R S S' p.0 (walk (thing_arity S.names) 0 p.0 φ.0) b11.2 in
      (φ.0, p.0, b.0, b.1, needed untimely _ _ φ.1, needed unnamed _ _ p.1, required stale 0 _ _ b11.1, b.2, b.3)

  -- what a proof concluded, and the terms with those of its sub-proofs' conclusions
  conclusion_is : (at : ℕ) (P : Proof) (x : Concluded) → concluded L R S.names at S.terms P ≡ done x
      → (conclude (known_at S.names) [] P ≡ some x.formula) × (x.terms ≡ keep_each S.terms (parts_of_each (before_misfit (conclusions (known_at S.names) [] P))))
  conclusion_is at P x h =
      let us = passed (settle L R at S.terms (conclusions (known_at S.names) [] P)) _ x h in
      let φ = passed (need unfounded (conclude (known_at S.names) [] P)) _ x us.2 in
      let e = done_inj _ x φ.2 in
      (needed unfounded _ _ φ.1 ∙ ap (λ (y : Concluded). some y.formula) e, sym (ap (λ (y : Concluded). y.terms) e) ∙ (settled L R at S.terms us.0 (conclusions (known_at S.names) [] P) us.1).1)

  -- the tests of a command that goes by one proof, and what follows what that concluded
  one_concluded : (P : Proof) (f : Concluded → Outcome State) → (require unclosed (no_open_hypothesis P) >>= λ _. concluded L R S.names 1 S.terms P >>= λ x. require crowded (holds_command L R S) >>= λ _. f x) ≡ done S'
      → (x : Concluded) × (concluded L R S.names 1 S.terms P ≡ done x) × (f x ≡ done S')
  one_concluded P f e =
      let b6 = passed (require unclosed (no_open_hypothesis P)) _ S' e in
      let x = passed (concluded L R S.names 1 S.terms P) _ S' b6.2 in
      (x.0, x.1, (passed (require crowded (holds_command L R S)) _ S' x.2).2)

  pub let_accepted : do_let A L R S c ≡ done S'
      → (P : Proof) × (φ : Formula) × (proof_at S.names c.a ≡ some P) × (conclude (known_at S.names) [] P ≡ some φ)
      × (S' ≡ accept S (keep_each S.terms (parts_of_each (before_misfit (conclusions (known_at S.names) [] P)))) (fact φ))
  let_accepted e =
      let P = passed (need unnamed (proof_at S.names c.a)) _ S' e in
      let x = one_concluded P.0 _ P.2 in
      let is = conclusion_is 1 P.0 x.0 x.1 in
      (P.0, x.0.formula, needed unnamed _ _ P.1, is.0, sym (done_inj _ S' x.2) ∙ ap (λ ts. accept S ts (fact x.0.formula)) is.1)

  pub same_accepted : do_same A L R S c ≡ done S' → S' ≡ accept S S.terms nothing
  same_accepted e =
      let P = passed (need unnamed (proof_at S.names c.a)) _ S' e in
      let Q = passed (need unnamed (proof_at S.names c.b)) _ S' P.2 in
      let b6 = passed (require unclosed (no_open_hypothesis P.0 && no_open_hypothesis Q.0)) _ S' Q.2 in
      let x = passed (concluded L R S.names 1 S.terms P.0) _ S' b6.2 in
      let y = passed (concluded L R S.names _ x.0.terms Q.0) _ S' x.2 in
      let b8 = passed (require crowded (holds_command L R S)) _ S' y.2 in
      let b12 = passed (require different (same x.0.formula y.0.formula)) _ S' b8.2 in
      sym (done_inj _ S' b12.2)

  pub shows_accepted : do_shows A L R S c ≡ done S' → S' ≡ accept S S.terms nothing
  shows_accepted e =
      let P = passed (need unnamed (proof_at S.names c.a)) _ S' e in
      let φ = passed (need unnamed (formula_at S.names c.b)) _ S' P.2 in
      let x = one_concluded P.0 _ φ.2 in
      let b12 = passed (require different (same x.0.formula φ.0)) _ S' x.2 in
      sym (done_inj _ S' b12.2)

  pub final_accepted : do_final A L R S c ≡ done S'
      → (P : Proof) × (conclude (known_at S.names) [] P ≡ some falsity) × (S' ≡ state (with_result S.names nothing) S.terms S.query S.start true)
  final_accepted e =
      let P = passed (need unnamed (proof_at S.names c.a)) _ S' e in
      let x = one_concluded P.0 _ P.2 in
      let b15 = passed (require unrefuted (same x.0.formula falsity)) _ S' x.2 in
      (P.0, (conclusion_is 1 P.0 x.0 x.1).0 ∙ ap some (same_true _ _ (required unrefuted 0 _ _ b15.1)), sym (done_inj _ S' b15.2))

-- what accepted commands keep holds after any commands
module _ (A : Arithmetic) (L : Limits) (R : Room) (P : State → Type 0) (keeps : (S S' : State) (c : Command) → P S → step A L R S c ≡ done S' → P S') where
  holds_kept : (S : State) (o : Outcome State) → P S → ((S' : State) → o ≡ done S' → P S') → P (kept S o)
  holds_kept S (done S') p h = h S' refl
  holds_kept S (refused r at) p h = p

  pub holds_after : (cs : List Command) (S : State) → P S → P (after A L R S cs)
  holds_after [] S p = p
  holds_after (c ∷ cs) S p = holds_after cs (kept S (step A L R S c)) (holds_kept S (step A L R S c) p (λ S'. keeps S S' c p))
