-- Refused commands change nothing, and name a position only where one is to be named.
use Rattle.command.specs.declared.command.Command.{Command}
use Rattle.command.specs.declared.head.Head.{Head}
use Rattle.command.specs.Heads.{code, coded}
use Rattle.command.specs.Words.{passes, coded_names}
use Rattle.std.specs.declared.option.Option as Rust
use Rattle.std.proofs.Common.{◌≡◌, ℕ, suc, Bool, true, false, ◌&&◌, ltb, leb, List, [], ◌∷◌, length, Some, None, refl, ap, subst}
use mathlib.Core.Option.{Option, none, some, none-ne-some, some-injective}
use Rattle.std.proofs.lemmas.Bool.{and_parts, both_ways}
use Rattle.logic.specs.Syntax.{Formula, Plan, Proof, falsity, same}
use Rattle.logic.specs.Tree.{Tree, formula_tree, parts}
use Rattle.logic.specs.Arithmetic.{Arithmetic}
use Rattle.logic.specs.Facts as Facts
use Rattle.logic.specs.Facts.{Stated}
use Rattle.logic.specs.Plans.{Walked, misfit, yields, walk}
use Rattle.logic.specs.Positions.{conclusions}
use Rattle.logic.specs.Closed.{closed}
use Rattle.model.specs.Refusal.{Refusal, unknown, untimely, unnamed, miscounted, unclosed, oversized, crowded, unfounded, unfit, stale, different, unadmitted, unrefuted, positioned, Outcome, done, refused, ◌>>=◌, require, require_at, need}
use Rattle.model.specs.Limits.{Limits, Room, within}
use Rattle.model.specs.State.{Names, State, known_at, formula_at, plan_at, proof_at, thing_arity}
use Rattle.logic.specs.Keeping.{keep, keep_each}
use Rattle.model.specs.Commands.{Maker, Action, a_symbol, a_term, a_deduction, a_fact, a_query, an_initial, a_let, a_same, a_shows, a_final, action, acting, action_of, made, named_fact}
use Rattle.model.specs.Tests.{full, literal_admitted, closed_within, closed_fact, new_symbols}
use Rattle.model.specs.Session.{stage_of, allowed, stated, Concluded, holds_terms, holds_command, no_open_hypothesis, parts_of_each, each_within, begin, settle, concluded, do_make, act, step, kept, after}
use Rattle.model.specs.Theorems.{RefusalsArePlain}

-- what the heads that name a position may name
abbrev names_sub_proofs : ℕ → Bool
names_sub_proofs code = positioned code oversized && positioned code crowded && positioned code unfounded

abbrev names : ℕ → Action → Bool
names code (a_symbol k) = true
names code (a_term m) = true
names code (a_deduction m) = true
names code (a_fact f) = true
names code a_query = true
names code an_initial = positioned code unfit
names code a_let = names_sub_proofs code
names code a_same = names_sub_proofs code
names code a_shows = names_sub_proofs code
names code a_final = names_sub_proofs code

heads_name : (h : Head) → names (code h) (action h) ≡ true
heads_name h = passes (λ g. names (code g) (action g)) refl h

-- so it is of the action that a code has
names_found : (n : ℕ) (o : Rust.Option Head) → ((h : Head) → o ≡ Some h → code h ≡ n) → (x : Action) → acting o ≡ some x → names n x ≡ true
names_found n None coded_by x e = absurd (none-ne-some x e)
names_found n (Some h) coded_by x e =
    subst (λ y. names n y ≡ true) (some-injective _ _ e) (subst (λ k. names k (action h) ≡ true) (coded_by h refl) (heads_name h))

-- ---- outcomes that name a position only where they may

module _ (code : ℕ) where
  abbrev InPlace : {X : Type 0} → Outcome X → Type 0
  InPlace (done x) = Unit {0}
  InPlace (refused r at) = positioned code r ≡ false → at ≡ 0

  record Placed {X : Type 0} (o : Outcome X) : Type 0 where
    in_place : InPlace o

  no_refusal : {X : Type 0} (x : X) → Placed (done x)
  no_refusal x = record { in_place = tt }

  at_zero : {X : Type 0} (r : Refusal) → Placed {X = X} (refused r 0)
  at_zero r = record { in_place = λ e. refl }

  may_be_placed : {X : Type 0} (r : Refusal) (at : ℕ) → positioned code r ≡ true → Placed {X = X} (refused r at)
  may_be_placed r at may = record { in_place = λ e. absurd (both_ways _ e may) }

  chain : {X Y : Type 0} (m : Outcome X) (f : X → Outcome Y) → Placed m → ((x : X) → Placed (f x)) → Placed (m >>= f)
  chain (done x) f p q = q x
  chain (refused r at) f p q = record { in_place = p.in_place }

  by_need : {X : Type 0} (r : Refusal) (o : Option X) → Placed (need r o)
  by_need r none = at_zero r
  by_need r (some x) = no_refusal x

  by_place : (at : ℕ) (r : Refusal) (b : Bool) → positioned code r ≡ true → Placed (require_at at r b)
  by_place at r true may = no_refusal tt
  by_place at r false may = may_be_placed r at may

  by_test : (r : Refusal) (b : Bool) → Placed (require r b)
  by_test r true = no_refusal tt
  by_test r false = at_zero r

  -- needs and tests, one after the other
  needing : {X Y : Type 0} (r : Refusal) (o : Option X) (f : X → Outcome Y) → ((x : X) → Placed (f x)) → Placed (need r o >>= f)
  needing r o f q = chain (need r o) f (by_need r o) q

  testing : {Y : Type 0} (r : Refusal) (b : Bool) (f : Unit {0} → Outcome Y) → ((x : Unit {0}) → Placed (f x)) → Placed (require r b >>= f)
  testing r b f q = chain (require r b) f (by_test r b) q

  by_statement : (s : Stated) → Placed (stated s)
  by_statement Facts.uncarried = at_zero _
  by_statement Facts.misshapen = at_zero _
  by_statement Facts.unadmitted = at_zero _
  by_statement (Facts.formula φ) = no_refusal φ

  module _ (L : Limits) (R : Room) where
    by_walk : (S : State) (p : Plan) (w : Walked) → positioned code unfit ≡ true → Placed (begin L R S p w)
    by_walk S p (misfit k) may = may_be_placed unfit k may
    by_walk S p (yields k met ψ) may =
        testing oversized (each_within L met) _ (λ _. testing crowded (holds_terms L R (keep_each S.terms (parts_of_each met)) && holds_command L R S) _ (λ _. no_refusal _))

    by_settling : (at : ℕ) (ts : List Tree) (l : List (Option Formula)) → names_sub_proofs code ≡ true → Placed (settle L R at ts l)
    by_settling at ts [] may = no_refusal ts
    by_settling at ts (none ∷ l) may = may_be_placed unfounded at (and_parts (positioned code oversized && positioned code crowded) _ may).1
    by_settling at ts (some φ ∷ l) may =
        let p = and_parts (positioned code oversized) (positioned code crowded) (and_parts (positioned code oversized && positioned code crowded) _ may).0 in
        let us = keep_each ts (parts (formula_tree φ)) in
        chain (require_at at oversized (within L (formula_tree φ))) _ (by_place at oversized _ p.0)
        (λ _. chain (require_at at crowded (holds_terms L R us)) _ (by_place at crowded _ p.1) (λ _. by_settling (suc at) us l may))

    by_conclusion : (N : Names) (at : ℕ) (ts : List Tree) (P : Proof) → names_sub_proofs code ≡ true → Placed (concluded L R N at ts P)
    by_conclusion N at ts P may = chain (settle L R at ts (conclusions (known_at N) [] P)) _ (by_settling at ts (conclusions (known_at N) [] P) may) (λ us. needing unfounded _ _ (λ φ. no_refusal _))

    concluding : {Y : Type 0} (N : Names) (at : ℕ) (ts : List Tree) (P : Proof) (f : Concluded → Outcome Y) → names_sub_proofs code ≡ true → ((x : Concluded) → Placed (f x)) → Placed (concluded L R N at ts P >>= f)
    concluding N at ts P f may q = chain (concluded L R N at ts P) f (by_conclusion N at ts P may) q

    -- no space for the command, or for the terms and the command, comes last
    last : (S S' : State) → Placed (require crowded (holds_command L R S) >>= λ _. done S')
    last S S' = testing crowded (holds_command L R S) _ (λ _. no_refusal S')

    last_with : (S S' : State) (ts : List Tree) → Placed (require crowded (holds_terms L R ts && holds_command L R S) >>= λ _. done S')
    last_with S S' ts = testing crowded (holds_terms L R ts && holds_command L R S) _ (λ _. no_refusal S')

    making_placed : (A : Arithmetic) (m : Maker) (S : State) (c : Command) → Placed (do_make A L R m S c)
    making_placed A m S c =
        needing unnamed (made m S.names c) _ (λ t.
        testing miscounted (full S.names t) _ (λ _.
        testing unadmitted (literal_admitted A t) _ (λ _.
        testing unclosed (closed_within t) _ (λ _.
        testing oversized (within L t) _ (λ _.
        last_with S _ (keep S.terms t))))))

    acts_placed : (A : Arithmetic) (h : Action) (S : State) (c : Command) → names code h ≡ true → Placed (act A L R h S c)
    acts_placed A (a_symbol k) S c may =
        testing miscounted (leb c.a L.arguments) _ (λ _. testing crowded (ltb (length S.names.symbols) R.symbols && holds_command L R S) _ (λ _. no_refusal _))
    acts_placed A (a_term m) S c may = making_placed A m S c
    acts_placed A (a_deduction m) S c may = making_placed A m S c
    acts_placed A (a_fact g) S c may =
        needing unnamed (named_fact g S.names c) _ (λ f.
        testing unclosed (closed_fact f) _ (λ _.
        chain (stated (Facts.state A f)) _ (by_statement (Facts.state A f)) (λ φ.
        testing oversized (within L (formula_tree φ)) _ (λ _.
        last_with S _ (keep_each S.terms (parts (formula_tree φ)))))))
    acts_placed A a_query S c may = needing unnamed (formula_at S.names c.a) _ (λ φ. testing unclosed (closed (formula_tree φ)) _ (λ _. last S _))
    acts_placed A an_initial S c may =
        needing untimely S.query _ (λ φ.
        needing unnamed (plan_at S.names c.a) _ (λ p.
        testing stale (new_symbols p φ) _ (λ _.
        by_walk S p (walk (thing_arity S.names) 0 p φ) may)))
    acts_placed A a_let S c may =
        needing unnamed (proof_at S.names c.a) _ (λ P.
        testing unclosed (no_open_hypothesis P) _ (λ _.
        concluding S.names 1 S.terms P _ may (λ x.
        last S _)))
    acts_placed A a_same S c may =
        needing unnamed (proof_at S.names c.a) _ (λ P.
        needing unnamed (proof_at S.names c.b) _ (λ Q.
        testing unclosed (no_open_hypothesis P && no_open_hypothesis Q) _ (λ _.
        concluding S.names 1 S.terms P _ may (λ x.
        concluding S.names (suc (length (conclusions (known_at S.names) [] P))) x.terms Q _ may (λ y.
        testing crowded (holds_command L R S) _ (λ _.
        testing different (same x.formula y.formula) _ (λ _.
        no_refusal _)))))))
    acts_placed A a_shows S c may =
        needing unnamed (proof_at S.names c.a) _ (λ P.
        needing unnamed (formula_at S.names c.b) _ (λ φ.
        testing unclosed (no_open_hypothesis P) _ (λ _.
        concluding S.names 1 S.terms P _ may (λ x.
        testing crowded (holds_command L R S) _ (λ _.
        testing different (same x.formula φ) _ (λ _.
        no_refusal _))))))
    acts_placed A a_final S c may =
        needing unnamed (proof_at S.names c.a) _ (λ P.
        testing unclosed (no_open_hypothesis P) _ (λ _.
        concluding S.names 1 S.terms P _ may (λ x.
        testing crowded (holds_command L R S) _ (λ _.
        testing unrefuted (same x.formula falsity) _ (λ _.
        no_refusal _)))))

    head_placed : (A : Arithmetic) (o : Option Action) (S : State) (c : Command) → ((h : Action) → o ≡ some h → names code h ≡ true)
        → Placed (need unknown o >>= λ h. require untimely (allowed h (stage_of S)) >>= λ _. act A L R h S c)
    head_placed A none S c may = at_zero unknown
    head_placed A (some h) S c may = testing untimely (allowed h (stage_of S)) _ (λ _. acts_placed A h S c (may h refl))

step_placed : (A : Arithmetic) (L : Limits) (R : Room) (S : State) (c : Command) → Placed c.code (step A L R S c)
step_placed A L R S c = head_placed c.code L R A (action_of c.code) S c (names_found c.code (coded c.code) (λ h. (coded_names c.code h).0))

pub that_refusals_are_plain : RefusalsArePlain
that_refusals_are_plain = record {
  unchanged = λ A L R S c cs r at h. ap (λ o. after A L R (kept S o) cs) h;
  positions = λ A L R S c r at h. subst (InPlace c.code) h (step_placed A L R S c).in_place;
}
