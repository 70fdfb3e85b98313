-- The terms kept stand once each, operands before heads, with all their parts, and every term made is among them.
use Rattle.command.specs.declared.command.Command.{Command}
use Rattle.std.proofs.Common.{◌≡◌, ℕ, Bool, true, false, ◌⊎◌, List, [], ◌∷◌, ◌++◌, length, sym, refl, ◌∙◌, subst, inl, inr, append_assoc, append-nil}
use mathlib.Core.Bool.{false≢true}
use mathlib.Core.Option.{Option, none, some, some-injective}
use Rattle.std.proofs.lemmas.Bool.{cases_Bool, cond_both}
use Rattle.logic.specs.Syntax.{Formula}
use Rattle.logic.specs.Tree.{Tree, leaf, unary, binary, operands, parts, formula_tree}
use Rattle.logic.specs.Arithmetic.{Arithmetic}
use Rattle.logic.specs.Positions.{conclusions}
use Rattle.model.specs.Refusal.{done}
use Rattle.model.specs.Limits.{Limits, Room}
use Rattle.model.specs.State.{Result, symbol, term, fact, nothing, Names, with_result, with_symbol, Start, State, state, fresh, the_tree, tree_at, known_at}
use Rattle.logic.specs.Keeping.{has, keep, keep_each, HasEach}
use Rattle.model.specs.Commands.{Maker, FactHead, Action, a_symbol, a_term, a_deduction, a_fact, a_query, an_initial, a_let, a_same, a_shows, a_final}
use Rattle.model.specs.Session.{parts_of_each, do_make, do_fact, act, step, after}
use Rattle.model.specs.Theorems.{before_misfit, OrderedAfter, SessionsAreTidy}
use Rattle.model.proofs.Accepted.{step_accepted, symbol_accepted, make_accepted, fact_accepted, query_accepted, initial_accepted, let_accepted, same_accepted, shows_accepted, final_accepted, holds_after}
use Rattle.model.proofs.Names.{Adds, nothing_of, before_or_new, none_named}
use Rattle.model.proofs.Admitting.{assembled_has, assembled_made}
use Rattle.logic.proofs.Keepings.{keep_each_append, keep_had, keep_new, has_kept, kept_has, last_or_had, has_keep_each, has_each_more, HasOperands, has_parts}

-- ---- one more term

ordered_last : (us l : List Tree) (t : Tree) → OrderedAfter us l → has (us ++ l) t ≡ false → HasEach (us ++ l) (operands t) → OrderedAfter us (l ++ (t ∷ []))
ordered_last us [] t o new ops = (subst (λ k. has k t ≡ false) (append-nil us) new, subst (λ k. HasEach k (operands t)) (append-nil us) ops, tt)
ordered_last us (x ∷ l) t o new ops =
    let e : us ++ (x ∷ l) ≡ us ++ (x ∷ []) ++ l = sym (append_assoc us (x ∷ []) l) in
    (o.0, o.1, ordered_last (us ++ (x ∷ [])) l t o.2 (subst (λ k. has k t ≡ false) e new) (subst (λ k. HasEach k (operands t)) e ops))

-- what is there once a term is kept was there or is the term
kept_or_new : (ts : List Tree) (t u : Tree) → has (keep ts t) u ≡ true → (u ≡ t) ⊎ (has ts u ≡ true)
kept_or_new ts t u = cond_both (has ts t) ts (ts ++ (t ∷ [])) (λ l. has l u ≡ true → (u ≡ t) ⊎ (has ts u ≡ true)) (λ _ h. inr h) (λ _. last_or_had ts t u)

-- ---- terms in order, with the operands of each

record Orderly (ts : List Tree) : Type 0 where
  in_order : OrderedAfter [] ts
  with_operands : HasOperands ts

keep_orderly : (ts : List Tree) (t : Tree) → Orderly ts → HasEach ts (operands t) → Orderly (keep ts t)
keep_orderly ts t o ops = record {
  in_order = elim (cases_Bool (has ts t)) [
    | inl e ↦ subst (OrderedAfter []) (sym (keep_had ts t e)) o.in_order
    | inr e ↦ subst (OrderedAfter []) (sym (keep_new ts t e)) (ordered_last [] ts t o.in_order e ops)
  ];
  with_operands = λ u h. has_each_more ts (keep ts t) (operands u) (has_kept ts t) (elim (kept_or_new ts t u h) [
    | inl e ↦ subst (λ x. HasEach ts (operands x)) (sym e) ops
    | inr e ↦ o.with_operands u e
  ]);
}

record OrderlyWith (ts : List Tree) (t : Tree) : Type 0 where
  orderly : Orderly ts
  there : has ts t ≡ true

head_kept : (ts l : List Tree) (t : Tree) → Orderly (keep_each ts l) → HasEach (keep_each ts l) (operands t) → OrderlyWith (keep_each ts (l ++ (t ∷ []))) t
head_kept ts l t o ops =
    subst (λ k. OrderlyWith k t) (sym (keep_each_append ts l (t ∷ []))) (record { orderly = keep_orderly (keep_each ts l) t o ops; there = kept_has (keep_each ts l) t })

-- a term with its parts
parts_kept : (t : Tree) (ts : List Tree) → Orderly ts → OrderlyWith (keep_each ts (parts t)) t
parts_kept (leaf x) ts o = head_kept ts [] (leaf x) o tt
parts_kept (unary h t) ts o = let p = parts_kept t ts o in head_kept ts (parts t) (unary h t) p.orderly (p.there, tt)
parts_kept (binary h t u) ts o =
    let p = parts_kept t ts o in
    let q = parts_kept u (keep_each ts (parts t)) p.orderly in
    let e : keep_each (keep_each ts (parts t)) (parts u) ≡ keep_each ts (parts t ++ parts u) = sym (keep_each_append ts (parts t) (parts u)) in
    head_kept ts (parts t ++ parts u) (binary h t u) (subst Orderly e q.orderly)
    (subst (λ k. has k t ≡ true) e (has_keep_each (keep_each ts (parts t)) (parts u) t p.there), (subst (λ k. has k u ≡ true) e q.there, tt))

each_kept : (l : List Formula) (ts : List Tree) → Orderly ts → Orderly (keep_each ts (parts_of_each l))
each_kept [] ts o = o
each_kept (φ ∷ l) ts o = subst Orderly (sym (keep_each_append ts (parts (formula_tree φ)) (parts_of_each l))) (each_kept l (keep_each ts (parts (formula_tree φ))) (parts_kept (formula_tree φ) ts o).orderly)

-- ---- commands

record Neat (S : State) : Type 0 where
  orderly : Orderly S.terms
  made_kept : (k : ℕ) (t : Tree) → tree_at S.names k ≡ some t → has S.terms t ≡ true

module _ (A : Arithmetic) (L : Limits) (R : Room) where
  -- more terms, and a result that is no term or a term that is there
  neat_more : (S : State) (N : Names) (ts : List Tree) (q : Option Formula) (b : Option Start) (c : Bool) (x : Result) → Adds S.names x N → Neat S → Orderly ts
      → ((u : Tree) → has S.terms u ≡ true → has ts u ≡ true) → ((t : Tree) → the_tree x ≡ some t → has ts t ≡ true) → Neat (state N ts q b c)
  neat_more S N ts q b c x adds n o more new = record {
    orderly = o;
    made_kept = λ k t h. elim (before_or_new the_tree S.names N x adds k t h) [ inl e ↦ more t (n.made_kept k t e) | inr e ↦ new t e ];
  }

  -- the terms of formulas are kept, and one of them is known
  neat_known : (S : State) (l : List Formula) (q : Option Formula) (b : Option Start) (c : Bool) (φ : Formula) → Neat S → Neat (state (with_result S.names (fact φ)) (keep_each S.terms (parts_of_each l)) q b c)
  neat_known S l q b c φ n = neat_more S (with_result S.names (fact φ)) (keep_each S.terms (parts_of_each l)) q b c (fact φ) refl n (each_kept l S.terms n.orderly) (has_keep_each S.terms (parts_of_each l)) (λ t e. nothing_of t e)

  neat_make : (m : Maker) (S S' : State) (c : Command) → Neat S → do_make A L R m S c ≡ done S' → Neat S'
  neat_make m S S' c n e =
      let (t, makes, arguments, literal, closes, small, is) = make_accepted A L R S S' c m e in
      let ops = assembled_has S.names (λ u. HasEach S.terms (operands u)) (λ x. tt) (λ g k u i. (n.made_kept k u i, tt)) (λ g j k u v i i'. (n.made_kept j u i, (n.made_kept k v i', tt))) m c t
      (assembled_made m S.names c t makes) in
      subst Neat (sym is) (neat_more S (with_result S.names (term t)) (keep S.terms t) S.query S.start S.closed (term t) refl n (keep_orderly S.terms t n.orderly ops) (has_kept S.terms t)
      (λ u x. subst (λ y. has (keep S.terms t) y ≡ true) (some-injective t u x) (kept_has S.terms t)))

  neat_fact : (g : FactHead) (S S' : State) (c : Command) → Neat S → do_fact A L R g S c ≡ done S' → Neat S'
  neat_fact g S S' c n e =
      let (f, φ, names, closes, states, is) = fact_accepted A L R S S' c g e in
      subst Neat (sym is) (subst (λ l. Neat (state (with_result S.names (fact φ)) (keep_each S.terms l) S.query S.start S.closed)) (append-nil (parts (formula_tree φ)))
      (neat_known S (φ ∷ []) S.query S.start S.closed φ n))

  -- a result that is no term, the terms staying
  neat_plain : (S : State) (N : Names) (q : Option Formula) (b : Option Start) (c : Bool) (x : Result) → Adds S.names x N → the_tree x ≡ none → Neat S → Neat (state N S.terms q b c)
  neat_plain S N q b c x adds no_term n = neat_more S N S.terms q b c x adds n n.orderly (λ u h. h) (λ t e. nothing_of t (sym no_term ∙ e))

  neat_act : (h : Action) (S S' : State) (c : Command) → Neat S → act A L R h S c ≡ done S' → Neat S'
  neat_act (a_symbol k) S S' c n e =
      subst Neat (sym (symbol_accepted A L R S S' c k e))
      (neat_plain S (with_symbol S.names (record { kind = k; arity = c.a })) S.query S.start S.closed (symbol (length S.names.symbols)) refl refl n)
  neat_act (a_term m) S S' c n e = neat_make m S S' c n e
  neat_act (a_deduction m) S S' c n e = neat_make m S S' c n e
  neat_act (a_fact g) S S' c n e = neat_fact g S S' c n e
  neat_act a_query S S' c n e =
      let (φ, names, closes, is) = query_accepted A L R S S' c e in
      subst Neat (sym is) (neat_plain S (with_result S.names nothing) (some φ) S.start S.closed nothing refl refl n)
  neat_act an_initial S S' c n e =
      let (φ, p, met, ψ, query, names, new, turns, is) = initial_accepted A L R S S' c e in
      subst Neat (sym is) (neat_known S met S.query (some (record { plan = p; formula = ψ })) S.closed ψ n)
  neat_act a_let S S' c n e =
      let (P, φ, names, gives, is) = let_accepted A L R S S' c e in
      subst Neat (sym is) (neat_known S (before_misfit (conclusions (known_at S.names) [] P)) S.query S.start S.closed φ n)
  neat_act a_same S S' c n e = subst Neat (sym (same_accepted A L R S S' c e)) (neat_plain S (with_result S.names nothing) S.query S.start S.closed nothing refl refl n)
  neat_act a_shows S S' c n e = subst Neat (sym (shows_accepted A L R S S' c e)) (neat_plain S (with_result S.names nothing) S.query S.start S.closed nothing refl refl n)
  neat_act a_final S S' c n e = subst Neat (sym (final_accepted A L R S S' c e).2) (neat_plain S (with_result S.names nothing) S.query S.start true nothing refl refl n)

  neat_step : (S S' : State) (c : Command) → Neat S → step A L R S c ≡ done S' → Neat S'
  neat_step S S' c n e = let (h, head, stage, acts) = step_accepted A L R S S' c e in neat_act h S S' c n acts

neat_fresh : Neat fresh
neat_fresh = record {
  orderly = record { in_order = tt; with_operands = λ t h. absurd (false≢true h) };
  made_kept = λ k t h. nothing_of t (sym (none_named the_tree k) ∙ h);
}

pub that_sessions_are_tidy : SessionsAreTidy
that_sessions_are_tidy A L R cs =
    let n = holds_after A L R Neat (neat_step A L R) cs fresh neat_fresh in
    record { in_order = n.orderly.in_order; parts_kept = has_parts (after A L R fresh cs).terms n.orderly.with_operands; made_kept = n.made_kept }
