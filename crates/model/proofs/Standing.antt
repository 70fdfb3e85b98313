-- Every state that a session comes to stands.
use Rattle.command.specs.declared.command.Command.{Command}
use Rattle.std.proofs.Common.{◌≡◌, ℕ, ◌<◌, ◌≤◌, Bool, true, false, List, [], ◌∷◌, ◌++◌, length, ℤ, sym, refl, ap, ◌∙◌, subst, inl, inr, arith}
use mathlib.Core.Option.{Option, none, some, some-injective}
use Rattle.std.proofs.lemmas.Bool.{and_from}
use Rattle.logic.specs.Syntax.{Formula}
use Rattle.logic.specs.Tree.{Leaf, Tree, leaf, unary, binary, formula_tree, parts}
use Rattle.logic.specs.Terms.{tree_term}
use Rattle.logic.specs.Arithmetic.{Arithmetic}
use Rattle.logic.specs.Closed.{closed}
use Rattle.logic.proofs.RulesAre.{bound, concluded as concludes}
use Rattle.logic.proofs.PlansAre.{turned}
use Rattle.logic.proofs.FactsAre.{fact_stated}
use Rattle.logic.proofs.Theorems.{that_closedness_is_kept}
use Rattle.model.specs.Refusal.{done}
use Rattle.model.specs.Limits.{Limits, Room, within}
use Rattle.model.specs.State.{Symbol, Result, symbol, term, fact, nothing, Names, with_result, with_symbol, Start, State, state, fresh, the_symbol, the_tree, the_fact, tree_at, known_at, thing_arity}
use Rattle.model.specs.Commands.{Maker, Action, a_symbol, a_term, a_deduction, a_fact, a_query, an_initial, a_let, a_same, a_shows, a_final, assembled, made}
use Rattle.model.specs.Tests.{each, literal_admitted}
use Rattle.model.specs.Session.{stage_of, allowed, accept, do_make, act, step}
use Rattle.model.specs.Writer.{own_symbol_there, passes_by_head, proper}
use Rattle.model.specs.Standing.{is_term, has_term, is_begun, Standing, SessionsStand}
use Rattle.model.proofs.Accepted.{step_accepted, symbol_accepted, make_accepted, fact_accepted, query_accepted, initial_accepted, let_accepted, same_accepted, shows_accepted, final_accepted, holds_after}
use Rattle.model.proofs.Names.{Adds, nothing_of, before_or_new, none_named, formula_named}
use Rattle.model.proofs.Admitting.{assembled_has, assembled_made}
use Rattle.model.proofs.Soundness.{while_proving}
use Rattle.model.proofs.Parts.{itself, leaf_passes, one_passes, two_pass}
use Rattle.model.proofs.SymbolsNamed.{NamesGiven, MakesGiven, action_names_given, assembled_symbol, full_by_symbols, proper_still}
use Rattle.model.proofs.Closing.{stated_closed}
use Rattle.model.proofs.StandingShows.{proof_closed_named}

-- ---- a term made of terms whose parts pass a test, and which passes it itself

made_passes : (test : Tree → Bool) (N : Names) → ((k : ℕ) (t : Tree) → tree_at N k ≡ some t → each test (parts t) ≡ true)
    → (m : Maker) (c : Command) (t : Tree) → made m N c ≡ some t → test t ≡ true → each test (parts t) ≡ true
made_passes test N ok m c t h =
    assembled_has N (λ u. test u ≡ true → each test (parts u) ≡ true) (λ x. leaf_passes test x) (λ g k u e. one_passes test g u (ok k u e))
    (λ g j k u v e f. two_pass test g u v (ok j u e) (ok k v f)) m c t (assembled_made m N c t h)

made_typed : (m : Maker) (N : Names) (c : Command) (t : Tree) → made m N c ≡ some t → has_term t ≡ true
made_typed m N c t h =
    let b = bound (assembled m N c) _ t h in
    let d = bound (tree_term b.0) _ t b.2 in
    ap is_term (ap tree_term (sym (some-injective _ _ d.2)) ∙ d.1)

module _ (A : Arithmetic) (L : Limits) where
  -- ---- one more result

  record Fitting (ss : List Symbol) (x : Result) : Type 0 where
    tree_typed : (t : Tree) → the_tree x ≡ some t → has_term t ≡ true
    tree_proper : (t : Tree) → the_tree x ≡ some t → proper A ss t ≡ true
    tree_within : (t : Tree) → the_tree x ≡ some t → each (within L) (parts t) ≡ true
    symbol_there : (s : ℕ) → the_symbol x ≡ some s → s < length ss
    fact_closed : (φ : Formula) → the_fact x ≡ some φ → closed (formula_tree φ) ≡ true

  -- what is no term
  no_term_fits : (ss : List Symbol) (x : Result) → the_tree x ≡ none → ((s : ℕ) → the_symbol x ≡ some s → s < length ss) → ((φ : Formula) → the_fact x ≡ some φ → closed (formula_tree φ) ≡ true) → Fitting ss x
  no_term_fits ss x no_term there shut = record {
    tree_typed = λ t e. nothing_of t (sym no_term ∙ e);
    tree_proper = λ t e. nothing_of t (sym no_term ∙ e);
    tree_within = λ t e. nothing_of t (sym no_term ∙ e);
    symbol_there = there;
    fact_closed = shut;
  }

  nothing_fits : (ss : List Symbol) → Fitting ss nothing
  nothing_fits ss = no_term_fits ss nothing refl (λ s e. nothing_of s e) (λ φ e. nothing_of φ e)

  fact_fits : (ss : List Symbol) (φ : Formula) → closed (formula_tree φ) ≡ true → Fitting ss (fact φ)
  fact_fits ss φ h = no_term_fits ss (fact φ) refl (λ s e. nothing_of s e) (λ χ e. subst (λ x. closed (formula_tree x) ≡ true) (some-injective φ χ e) h)

  term_fits : (ss : List Symbol) (t : Tree) → has_term t ≡ true → proper A ss t ≡ true → each (within L) (parts t) ≡ true → Fitting ss (term t)
  term_fits ss t typed p w = record {
    tree_typed = λ u e. subst (λ x. has_term x ≡ true) (some-injective t u e) typed;
    tree_proper = λ u e. subst (λ x. proper A ss x ≡ true) (some-injective t u e) p;
    tree_within = λ u e. subst (λ x. each (within L) (parts x) ≡ true) (some-injective t u e) w;
    symbol_there = λ s e. nothing_of s e;
    fact_closed = λ φ e. nothing_of φ e;
  }

  -- the query, and the stage with it
  record Staged (q : Option Formula) (b : Option Start) (c : Bool) : Type 0 where
    query_closed : (φ : Formula) → q ≡ some φ → closed (formula_tree φ) ≡ true
    query_within : (φ : Formula) → q ≡ some φ → within L (formula_tree φ) ≡ true
    asking_unbegun : q ≡ none → is_begun b ≡ false
    asking_unclosed : q ≡ none → c ≡ false

  as_staged : (S : State) → Standing A L S → Staged S.query S.start S.closed
  as_staged S s = record { query_closed = s.query_closed; query_within = s.query_within; asking_unbegun = s.asking_unbegun; asking_unclosed = s.asking_unclosed }

  -- more symbols, or as many, and a result that fits
  standing_more : (S : State) (N : Names) (ts : List Tree) (q : Option Formula) (b : Option Start) (c : Bool) (x : Result) → Adds S.names x N
      → ((t : Tree) → proper A S.names.symbols t ≡ true → proper A N.symbols t ≡ true) → length S.names.symbols ≤ length N.symbols
      → Standing A L S → Fitting N.symbols x → Staged q b c → Standing A L (state N ts q b c)
  standing_more S N ts q b c x adds still longer s new stage = record {
    named_typed = λ k t h. elim (before_or_new the_tree S.names N x adds k t h) [ inl e ↦ s.named_typed k t e | inr e ↦ new.tree_typed t e ];
    named_proper = λ k t h. elim (before_or_new the_tree S.names N x adds k t h) [ inl e ↦ still t (s.named_proper k t e) | inr e ↦ new.tree_proper t e ];
    named_within = λ k t h. elim (before_or_new the_tree S.names N x adds k t h) [ inl e ↦ s.named_within k t e | inr e ↦ new.tree_within t e ];
    symbols_there = λ k r h. elim (before_or_new the_symbol S.names N x adds k r h) [ inl e ↦ omega (arith, s.symbols_there k r e) | inr e ↦ new.symbol_there r e ];
    known_closed = λ k φ h. elim (before_or_new the_fact S.names N x adds k φ h) [ inl e ↦ s.known_closed k φ e | inr e ↦ new.fact_closed φ e ];
    query_closed = stage.query_closed;
    query_within = stage.query_within;
    asking_unbegun = stage.asking_unbegun;
    asking_unclosed = stage.asking_unclosed;
  }

  -- the same symbols
  standing_with : (S : State) (ts : List Tree) (q : Option Formula) (b : Option Start) (c : Bool) (x : Result) → Standing A L S → Fitting S.names.symbols x → Staged q b c
      → Standing A L (state (with_result S.names x) ts q b c)
  standing_with S ts q b c x s new stage = standing_more S (with_result S.names x) ts q b c x refl (λ t h. h) (omega arith) s new stage

-- a literal that one arithmetic admits, another admits that admits no fewer
literal_still : (A B : Arithmetic) → ((n : ℤ) → A.admits n ≡ true → B.admits n ≡ true) → (t : Tree) → literal_admitted A t ≡ true → literal_admitted B t ≡ true
literal_still A B wider (leaf (Leaf.var i)) h = refl
literal_still A B wider (leaf Leaf.nil) h = refl
literal_still A B wider (leaf (Leaf.lit n)) h = wider n h
literal_still A B wider (leaf Leaf.falsity) h = refl
literal_still A B wider (leaf Leaf.id) h = refl
literal_still A B wider (leaf (Leaf.hyp i)) h = refl
literal_still A B wider (leaf (Leaf.known k)) h = refl
literal_still A B wider (unary g t) h = refl
literal_still A B wider (binary g t u) h = refl

-- the states of sessions over A stand over each B that admits no fewer literals
module _ (A B : Arithmetic) (wider : (n : ℤ) → A.admits n ≡ true → B.admits n ≡ true) (L : Limits) (R : Room) where
  -- ---- commands

  stands_symbol : (S S' : State) (y : Symbol) → Standing B L S → S' ≡ state (with_symbol S.names y) S.terms S.query S.start S.closed → Standing B L S'
  stands_symbol S S' y s is =
      let ss = S.names.symbols in
      let longer = length_last ss y in
      subst (Standing B L) (sym is) (standing_more B L S (with_symbol S.names y) S.terms S.query S.start S.closed (symbol (length ss)) refl (proper_still ss y B) (omega arith) s
      (no_term_fits B L (S.names.symbols ++ (y ∷ [])) (symbol (length ss)) refl (λ r e. let i : length ss ≡ r = some-injective _ _ e in omega arith) (λ φ e. nothing_of φ e)) (as_staged B L S s))
    where
      length_last : (l : List Symbol) (z : Symbol) → length l < length (l ++ (z ∷ []))
      length_last [] z = omega arith
      length_last (w ∷ l) z = let h = length_last l z in omega arith

  stands_make : (m : Maker) (S S' : State) (c : Command) → NamesGiven m → Standing B L S → do_make A L R m S c ≡ done S' → Standing B L S'
  stands_make m S S' c given s e =
      let (t, makes, arguments, literal, closes, small, is) = make_accepted A L R S S' c m e in
      let N = S.names in
      let there : own_symbol_there N.symbols t ≡ true = assembled_symbol N m given c t (assembled_made m N c t makes) in
      let passes : passes_by_head B N.symbols t ≡ true = and_from _ _ (and_from _ _ (and_from _ _ there (sym (full_by_symbols N t) ∙ arguments)) (literal_still A B wider t literal)) closes in
      subst (Standing B L) (sym is) (standing_with B L S _ S.query S.start S.closed (term t) s
      (term_fits B L N.symbols t (made_typed m N c t makes) (made_passes (passes_by_head B N.symbols) N s.named_proper m c t makes passes) (made_passes (within L) N s.named_within m c t makes small))
      (as_staged B L S s))

  -- a formula that is known, and is closed
  stands_known : (S : State) (ts : List Tree) (φ : Formula) → Standing B L S → closed (formula_tree φ) ≡ true → Standing B L (accept S ts (fact φ))
  stands_known S ts φ s h = standing_with B L S ts S.query S.start S.closed (fact φ) s (fact_fits B L S.names.symbols φ h) (as_staged B L S s)

  stands_nothing : (S : State) → Standing B L S → Standing B L (accept S S.terms nothing)
  stands_nothing S s = standing_with B L S S.terms S.query S.start S.closed nothing s (nothing_fits B L S.names.symbols) (as_staged B L S s)

  stands_act : (h : Action) (S S' : State) (c : Command) → MakesGiven h → allowed h (stage_of S) ≡ true → Standing B L S → act A L R h S c ≡ done S' → Standing B L S'
  stands_act (a_symbol k) S S' c given stage s e = stands_symbol S S' _ s (symbol_accepted A L R S S' c k e)
  stands_act (a_term m) S S' c given stage s e = stands_make m S S' c given s e
  stands_act (a_deduction m) S S' c given stage s e = stands_make m S S' c given s e
  stands_act (a_fact g) S S' c given stage s e =
      let (f, φ, names, closes, states, is) = fact_accepted A L R S S' c g e in
      subst (Standing B L) (sym is) (stands_known S _ φ s (stated_closed A f φ (fact_stated A f φ states) closes))
  stands_act a_query S S' c given stage s e =
      let (φ, names, closes, is) = query_accepted A L R S S' c e in
      subst (Standing B L) (sym is) (standing_with B L S S.terms (some φ) S.start S.closed nothing s (nothing_fits B L S.names.symbols) (record {
        query_closed = λ χ i. subst (λ x. closed (formula_tree x) ≡ true) (some-injective φ χ i) closes;
        query_within = λ χ i. subst (λ x. within L (formula_tree x) ≡ true) (some-injective φ χ i) (itself (within L) (formula_tree φ) (s.named_within _ _ (formula_named S.names c.a φ names)));
        asking_unbegun = λ i. nothing_of φ (sym i);
        asking_unclosed = λ i. nothing_of φ (sym i);
      }))
  stands_act an_initial S S' c given stage s e =
      let (φ, p, met, ψ, query, names, new, turns, is) = initial_accepted A L R S S' c e in
      let ψ-closed = that_closedness_is_kept.plans (thing_arity S.names) p φ ψ (turned (thing_arity S.names) 0 p φ ψ turns) (s.query_closed φ query) in
      subst (Standing B L) (sym is) (standing_with B L S _ S.query (some (record { plan = p; formula = ψ })) S.closed (fact ψ) s (fact_fits B L S.names.symbols ψ ψ-closed) (record {
        query_closed = s.query_closed;
        query_within = s.query_within;
        asking_unbegun = λ i. nothing_of φ (sym i ∙ query);
        asking_unclosed = s.asking_unclosed;
      }))
  stands_act a_let S S' c given stage s e =
      let (P, φ, names, gives, is) = let_accepted A L R S S' c e in
      subst (Standing B L) (sym is) (stands_known S _ φ s
      (that_closedness_is_kept.proofs (known_at S.names) P φ s.known_closed (proof_closed_named B L S s c.a P names) (concludes (known_at S.names) [] P φ gives)))
  stands_act a_same S S' c given stage s e = subst (Standing B L) (sym (same_accepted A L R S S' c e)) (stands_nothing S s)
  stands_act a_shows S S' c given stage s e = subst (Standing B L) (sym (shows_accepted A L R S S' c e)) (stands_nothing S s)
  stands_act a_final S S' c given stage s e =
      let now = while_proving S.closed S.query S.start stage in
      subst (Standing B L) (sym (final_accepted A L R S S' c e).2) (standing_with B L S S.terms S.query S.start true nothing s (nothing_fits B L S.names.symbols) (record {
        query_closed = s.query_closed;
        query_within = s.query_within;
        asking_unbegun = s.asking_unbegun;
        asking_unclosed = λ i. nothing_of now.0 (sym i ∙ now.1);
      }))

  -- an accepted command leads to a state that stands
  pub standing_kept : (S : State) (c : Command) (S' : State) → Standing B L S → step A L R S c ≡ done S' → Standing B L S'
  standing_kept S c S' s e = let (h, head, stage, acts) = step_accepted A L R S S' c e in stands_act h S S' c (action_names_given c.code h head) stage s acts

pub standing_fresh : (A : Arithmetic) (L : Limits) → Standing A L fresh
standing_fresh A L = record {
  named_typed = λ k t h. nothing_of t (sym (none_named the_tree k) ∙ h);
  named_proper = λ k t h. nothing_of t (sym (none_named the_tree k) ∙ h);
  named_within = λ k t h. nothing_of t (sym (none_named the_tree k) ∙ h);
  symbols_there = λ k s h. nothing_of s (sym (none_named the_symbol k) ∙ h);
  known_closed = λ k φ h. nothing_of φ (sym (none_named the_fact k) ∙ h);
  query_closed = λ φ h. nothing_of φ h;
  query_within = λ φ h. nothing_of φ h;
  asking_unbegun = λ h. refl;
  asking_unclosed = λ h. refl;
}

pub standing_after : SessionsStand
standing_after A L R cs = holds_after A L R (Standing A L) (λ S S' c. standing_kept A A (λ n h. h) L R S c S') cs fresh (standing_fresh A L)
