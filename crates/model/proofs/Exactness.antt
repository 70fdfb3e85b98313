-- `let` and `initial` make known what the rules give, and are refused for their rule exactly where the rules give nothing.
use Rattle.command.specs.declared.command.Command.{Command}
use Rattle.std.proofs.Common.{◌≡◌, ℕ, ◌≤◌, true, false, ◌&&◌, List, [], length, sym, refl, ap, ◌∙◌, subst, inl, inr, arith}
use mathlib.Core.Option.{some, none-ne-some, some-injective}
use Rattle.std.proofs.lemmas.Bool.{cases_Bool, eq-eqb, both_ways}
use Rattle.logic.specs.Syntax.{Formula, Plan, Proof}
use Rattle.logic.specs.Tree.{Tree, proof_tree, open_hypotheses}
use Rattle.logic.specs.Arithmetic.{Arithmetic}
use Rattle.logic.specs.Rules.{Concludes, conclude}
use Rattle.logic.specs.Plans.{Turns, Walked, misfit, yields, walk, result}
use Rattle.logic.specs.Positions.{conclusions, misfit_at}
use Rattle.logic.proofs.RulesAre.{concluded as concludes, conclude_gives}
use Rattle.logic.proofs.PlansAre.{turned, turn_gives}
use Rattle.logic.proofs.PositionsRight.{all_some}
use Rattle.model.specs.Refusal.{Refusal, number, unknown, untimely, unnamed, unclosed, oversized, crowded, unfounded, unfit, stale, Outcome, done, refused, ◌>>=◌, ◌>>◌, require, need}
use Rattle.model.specs.Limits.{Limits, Room}
use Rattle.model.specs.State.{fact, Names, State, known_at, plan_at, proof_at, thing_arity, the_fact, next_number}
use Rattle.logic.specs.Keeping.{keep_each}
use Rattle.model.specs.Commands.{Action, an_initial, a_let, action_of}
use Rattle.model.specs.Tests.{new_symbols}
use Rattle.model.specs.Session.{stage_of, allowed, accept, Concluded, holds_terms, holds_command, no_open_hypothesis, parts_of_each, each_within, begin, settle, concluded, do_initial, do_let, act, step}
use Rattle.model.specs.Theorems.{before_misfit, LetIsExact, InitialIsExact, LetAndInitialAreExact}
use Rattle.model.proofs.Outcomes.{needed, refused≢done, refused_inj, stopped_or_passed, past_need, past_test, need_some, passes, then}
use Rattle.model.proofs.Names.{newest}
use Rattle.model.proofs.Accepted.{step_accepted, let_accepted, initial_accepted}
use Rattle.model.proofs.Settling.{each_concludes, concludes_something, settles_not, settled, settle_refused}

-- what a proof concludes, once its sub-proofs' terms are settled
abbrev with_formula : Names → Proof → List Tree → Formula → Outcome Concluded
with_formula N P us φ = done (record { terms = us; formula = φ })

abbrev after_settling : Names → Proof → List Tree → Outcome Concluded
after_settling N P us = need unfounded (conclude (known_at N) [] P) >>= with_formula N P us

module _ (A : Arithmetic) (L : Limits) (R : Room) where
  pub step_acts : (S : State) (c : Command) (h : Action) → action_of c.code ≡ some h → allowed h (stage_of S) ≡ true → step A L R S c ≡ act A L R h S c
  step_acts S c h head stage =
      then (need unknown (action_of c.code)) _ h _ (need_some unknown _ h head)
      (then (require untimely (allowed h (stage_of S))) _ tt _ (passes untimely 0 _ stage) refl)

  acted : (S S' : State) (c : Command) (h : Action) → action_of c.code ≡ some h → step A L R S c ≡ done S' → act A L R h S c ≡ done S'
  acted S S' c h head e =
      let (g, found, stage, acts) = step_accepted A L R S S' c e in
      subst (λ x. act A L R x S c ≡ done S') (some-injective _ _ (sym found ∙ head)) acts

  refused_acted : (S : State) (c : Command) (h : Action) (r : Refusal) (at : ℕ) → (number unknown ≡ number r → ⊥) → (number untimely ≡ number r → ⊥) → action_of c.code ≡ some h → step A L R S c ≡ refused r at → act A L R h S c ≡ refused r at
  refused_acted S c h r at not1 not3 head e =
      let a = past_need unknown r at (action_of c.code) _ not1 e in
      let b = past_test untimely r 0 at (allowed a.0 (stage_of S)) _ not3 a.2 in
      subst (λ x. act A L R x S c ≡ refused r at) (some-injective _ _ (sym (needed unknown _ _ a.1) ∙ head)) b.2

  -- ---- `let`

  -- a proof is refused as unfounded where it concludes nothing, at the first sub-proof that does not
  unfounded_so : (N : Names) (ts : List Tree) (P : Proof) (at : ℕ) → concluded L R N 1 ts P ≡ refused unfounded at
      → ((φ : Formula) → Concludes (known_at N) [] P φ → ⊥) × (at ≡ misfit_at (known_at N) P)
  unfounded_so N ts P at h =
      let made = known_at N in
      elim (stopped_or_passed (settle L R 1 ts (conclusions made [] P)) _ unfounded at h) [
        | inl e ↦ let r = settle_refused L R 0 at ts (conclusions made [] P) e in (λ φ d. both_ways _ r.0 (each_concludes made P φ d), r.1)
        | inr d ↦ absurd (something d.0 d.1 d.2)
      ]
    where
      something : (us : List Tree) → settle L R 1 ts (conclusions (known_at N) [] P) ≡ done us → after_settling N P us ≡ refused unfounded at → ⊥
      something us e f =
          let gives = concludes_something (known_at N) P (settled L R 1 ts us (conclusions (known_at N) [] P) e).0 in
          let g : need unfounded (conclude (known_at N) [] P) ≡ done gives.0 = need_some unfounded _ _ (conclude_gives (known_at N) gives.1) in
          refused≢done unfounded at _ (sym f ∙ then (need unfounded (conclude (known_at N) [] P)) _ gives.0 _ g refl)

  let_is_exact : (S : State) (c : Command) → c.code ≡ 72 → LetIsExact A L R S c
  let_is_exact S c code = record {
    binds = λ S' h. binds S' (acted S S' c a_let (ap action_of code) h);
    unfounded_only = λ at h. only at (refused_acted S c a_let unfounded at (λ e. omega arith) (λ e. omega arith) (ap action_of code) h);
    unfounded_where = λ P names stage shut nothing_concluded small room. step_acts S c a_let (ap action_of code) stage ∙ refuses P names shut nothing_concluded small room;
  }
    where
      binds : (S' : State) → do_let A L R S c ≡ done S'
          → (P : Proof) × (φ : Formula) × (proof_at S.names c.a ≡ some P) × Concludes (known_at S.names) [] P φ × (known_at S'.names (next_number S.names) ≡ some φ)
      binds S' h =
          let (P, φ, names, gives, is) = let_accepted A L R S S' c h in
          (P, φ, names, concludes (known_at S.names) [] P φ gives, newest the_fact S.names S'.names (fact φ) (ap (λ (X : State). X.names.results) is))

      only : (at : ℕ) → do_let A L R S c ≡ refused unfounded at
          → (P : Proof) × (proof_at S.names c.a ≡ some P) × ((φ : Formula) → Concludes (known_at S.names) [] P φ → ⊥) × (at ≡ misfit_at (known_at S.names) P)
      only at h =
          let P = past_need unnamed unfounded at (proof_at S.names c.a) _ (λ e. omega arith) h in
          let b6 = past_test unclosed unfounded 0 at (no_open_hypothesis P.0) _ (λ e. omega arith) P.2 in
          elim (stopped_or_passed (concluded L R S.names 1 S.terms P.0) _ unfounded at b6.2) [
            | inl e ↦ let u = unfounded_so S.names S.terms P.0 at e in (P.0, needed unnamed _ _ P.1, u.0, u.1)
            | inr x ↦
                let b8 = past_test crowded unfounded 0 at (holds_command L R S) _ (λ e. omega arith) x.2 in
                absurd (refused≢done unfounded at _ (sym b8.2))
          ]

      refuses : (P : Proof) → proof_at S.names c.a ≡ some P → open_hypotheses (proof_tree P) ≡ 0
          → ((φ : Formula) → Concludes (known_at S.names) [] P φ → ⊥)
          → each_within L (before_misfit (conclusions (known_at S.names) [] P)) ≡ true
          → length (keep_each S.terms (parts_of_each (before_misfit (conclusions (known_at S.names) [] P)))) ≤ R.terms
          → do_let A L R S c ≡ refused unfounded (misfit_at (known_at S.names) P)
      refuses P names shut nothing_concluded small room =
          let made = known_at S.names in
          let lacks : all_some (conclusions made [] P) ≡ false =
          elim (cases_Bool (all_some (conclusions made [] P))) [
            | inl all ↦ let d = concludes_something made P all in absurd (nothing_concluded d.0 d.1)
            | inr e ↦ e
          ] in
          then (need unnamed (proof_at S.names c.a)) _ P _ (need_some unnamed _ P names)
          (then (require unclosed (no_open_hypothesis P)) _ tt _ (passes unclosed 0 _ (eq-eqb _ _ shut))
          (ap (λ (o : Outcome (List Tree)). o >>= after_settling S.names P >>= rest) (settles_not L R 0 S.terms (conclusions made [] P) lacks small room)))
        where
          rest : Concluded → Outcome State
          rest x = require crowded (holds_command L R S) >> done (accept S x.terms (fact x.formula))

  -- ---- `initial`

  module _ (S : State) (p : Plan) (φ : Formula) where
    abbrev Walks : Walked → Type 0
    Walks w = walk (thing_arity S.names) 0 p φ ≡ w

    -- a walk that does not fit turns the formula into nothing
    misfits : (k : ℕ) → Walks (misfit k) → (ψ : Formula) → Turns (thing_arity S.names) 0 p φ ψ → ⊥
    misfits k w ψ d = none-ne-some ψ (sym (ap result w) ∙ turn_gives (thing_arity S.names) d)

    begun_refused : (at : ℕ) (w : Walked) → Walks w → begin L R S p w ≡ refused unfit at → w ≡ misfit at
    begun_refused at (misfit k) w h = ap misfit (refused_inj unfit unfit k at h).1
    begun_refused at (yields k met ψ) w h =
        let b7 = past_test oversized unfit 0 at (each_within L met) _ (λ e. omega arith) h in
        let b8 = past_test crowded unfit 0 at (holds_terms L R (keep_each S.terms (parts_of_each met)) && holds_command L R S) _ (λ e. omega arith) b7.2 in
        absurd (refused≢done unfit at _ (sym b8.2))

    begun_refuses : (w : Walked) → Walks w → ((ψ : Formula) → Turns (thing_arity S.names) 0 p φ ψ → ⊥) → (at : ℕ) × (w ≡ misfit at) × (begin L R S p w ≡ refused unfit at)
    begun_refuses (misfit k) w not_turned = (k, refl, refl)
    begun_refuses (yields k met ψ) w not_turned = absurd (not_turned ψ (turned (thing_arity S.names) 0 p φ ψ (ap result w)))

  initial_is_exact : (S : State) (c : Command) → c.code ≡ 71 → InitialIsExact A L R S c
  initial_is_exact S c code = record {
    binds = λ S' h. binds S' (acted S S' c an_initial (ap action_of code) h);
    unfit_only = λ at h. only at (refused_acted S c an_initial unfit at (λ e. omega arith) (λ e. omega arith) (ap action_of code) h);
    unfit_where = λ p φ names asked stage new not_turned.
        let r = begun_refuses S p φ (walk (thing_arity S.names) 0 p φ) refl not_turned in
        (r.0, r.1, step_acts S c an_initial (ap action_of code) stage ∙ refuses p φ names asked new ∙ r.2);
  }
    where
      binds : (S' : State) → do_initial A L R S c ≡ done S'
          → (p : Plan) × (φ ψ : Formula) × (plan_at S.names c.a ≡ some p) × (S.query ≡ some φ) × Turns (thing_arity S.names) 0 p φ ψ
          × (S'.start ≡ some (record { plan = p; formula = ψ })) × (known_at S'.names (next_number S.names) ≡ some ψ)
      binds S' h =
          let (φ, p, met, ψ, query, names, new, turns, is) = initial_accepted A L R S S' c h in
          (p, φ, ψ, names, query, turned (thing_arity S.names) 0 p φ ψ turns, ap (λ (X : State). X.start) is, newest the_fact S.names S'.names (fact ψ) (ap (λ (X : State). X.names.results) is))

      only : (at : ℕ) → do_initial A L R S c ≡ refused unfit at
          → (p : Plan) × (φ : Formula) × (plan_at S.names c.a ≡ some p) × (S.query ≡ some φ)
          × ((ψ : Formula) → Turns (thing_arity S.names) 0 p φ ψ → ⊥) × (walk (thing_arity S.names) 0 p φ ≡ misfit at)
      only at h =
          let φ = past_need untimely unfit at S.query _ (λ e. omega arith) h in
          let p = past_need unnamed unfit at (plan_at S.names c.a) _ (λ e. omega arith) φ.2 in
          let b11 = past_test stale unfit 0 at (new_symbols p.0 φ.0) _ (λ e. omega arith) p.2 in
          let w = begun_refused S p.0 φ.0 at _ refl b11.2 in
          (p.0, φ.0, needed unnamed _ _ p.1, needed untimely _ _ φ.1, misfits S p.0 φ.0 at w, w)

      refuses : (p : Plan) (φ : Formula) → plan_at S.names c.a ≡ some p → S.query ≡ some φ → new_symbols p φ ≡ true
          → do_initial A L R S c ≡ begin L R S p (walk (thing_arity S.names) 0 p φ)
      refuses p φ names asked new =
          then (need untimely S.query) _ φ _ (need_some untimely _ φ asked)
          (then (need unnamed (plan_at S.names c.a)) _ p _ (need_some unnamed _ p names)
          (then (require stale (new_symbols p φ)) _ tt _ (passes stale 0 _ new) refl))

pub that_let_and_initial_are_exact : LetAndInitialAreExact
that_let_and_initial_are_exact A L R S c = (λ code. let_is_exact A L R S c code, λ code. initial_is_exact A L R S c code)
