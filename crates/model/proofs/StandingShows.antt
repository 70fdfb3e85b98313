-- What a state that stands shows of the terms, proofs and plans that its results hold, and of its stage.
use Rattle.std.proofs.Common.{◌≡◌, ℕ, ◌<◌, true, ◌&&◌, List, length, sym, refl, ap, ◌∙◌, subst}
use mathlib.Core.Bool.{false≢true}
use mathlib.Core.Option.{Option, none, some}
use Rattle.std.proofs.lemmas.Bool.{and_parts}
use Rattle.logic.specs.Syntax.{Formula, Plan, Proof}
use Rattle.logic.specs.Tree.{Kind, Tree, parts, literals_pass, stands, plan_tree, proof_tree}
use Rattle.logic.specs.Terms.{Term, tree_term, of_plan, of_proof}
use Rattle.logic.specs.Arithmetic.{Arithmetic}
use Rattle.logic.specs.Plans.{symbols, member}
use Rattle.logic.specs.Closed.{closed_proof}
use Rattle.logic.proofs.TermsBack.{tree_of_term}
use Rattle.model.specs.Limits.{Limits, within}
use Rattle.model.specs.State.{Symbol, Start, State, tree_at, plan_at, proof_at}
use Rattle.model.specs.Tests.{each, full, literal_admitted, closed_within}
use Rattle.model.specs.Writer.{only_symbols, own_symbol_there, passes_by_head, proper}
use Rattle.model.specs.Standing.{is_term, is_begun, Standing}
use Rattle.model.proofs.Names.{plan_named, proof_named}
use Rattle.model.proofs.Parts.{itself, each_so, literals_admitted, proof_closed, standing_within, plan_symbols_within}

-- ---- proper terms

module _ (A : Arithmetic) (ss : List Symbol) (t : Tree) (p : proper A ss t ≡ true) where
  by_head : (u : Tree) → passes_by_head A ss u ≡ true → (own_symbol_there ss u ≡ true) × (literal_admitted A u ≡ true) × (closed_within u ≡ true)
  by_head u h =
      let a = and_parts (own_symbol_there ss u && full (only_symbols ss) u && literal_admitted A u) (closed_within u) h in
      let b = and_parts (own_symbol_there ss u && full (only_symbols ss) u) (literal_admitted A u) a.0 in
      ((and_parts (own_symbol_there ss u) (full (only_symbols ss) u) b.0).0, b.1, a.1)

  pub proper_symbols : each (own_symbol_there ss) (parts t) ≡ true
  proper_symbols = each_so (passes_by_head A ss) (own_symbol_there ss) (λ u h. (by_head u h).0) (parts t) p

  pub proper_literals : literals_pass A.admits t ≡ true
  proper_literals = literals_admitted A t (each_so (passes_by_head A ss) (literal_admitted A) (λ u h. (by_head u h).1) (parts t) p)

  pub proper_closed : each closed_within (parts t) ≡ true
  proper_closed = each_so (passes_by_head A ss) closed_within (λ u h. (by_head u h).2) (parts t) p

-- ---- states

module _ (A : Arithmetic) (L : Limits) (S : State) (s : Standing A L S) where
  -- a term that a command made
  module _ (k : ℕ) (t : Tree) (names : tree_at S.names k ≡ some t) where
    pub term_named : (x : Term) × (tree_term t ≡ some x)
    term_named = is_some (tree_term t) (s.named_typed k t names)
      where
        is_some : (o : Option Term) → is_term o ≡ true → (x : Term) × (o ≡ some x)
        is_some none h = absurd (false≢true h)
        is_some (some x) h = (x, refl)

    pub within_named : within L t ≡ true
    within_named = itself (within L) t (s.named_within k t names)

    pub literals_named : literals_pass A.admits t ≡ true
    literals_named = proper_literals A S.names.symbols t (s.named_proper k t names)

    pub closed_parts_named : each closed_within (parts t) ≡ true
    closed_parts_named = proper_closed A S.names.symbols t (s.named_proper k t names)

    -- a symbol that stands in it is there
    pub symbols_named : (j : Kind) (r : ℕ) → stands j r t ≡ true → r < length S.names.symbols
    symbols_named j r h = standing_within S.names.symbols j r t (proper_symbols A S.names.symbols t (s.named_proper k t names)) h

    pub proof_tree_closed : (P : Proof) → tree_term t ≡ some (of_proof P) → closed_proof P ≡ true
    proof_tree_closed P h = proof_closed P (subst (λ u. each closed_within (parts u) ≡ true) (sym (tree_of_term t (of_proof P) h)) closed_parts_named)

    pub plan_tree_symbols : (p : Plan) → tree_term t ≡ some (of_plan p) → (r : ℕ) → member r (symbols p) ≡ true → r < length S.names.symbols
    plan_tree_symbols p h r m =
        let ss = S.names.symbols in
        plan_symbols_within ss p r (subst (λ u. each (own_symbol_there ss) (parts u) ≡ true) (sym (tree_of_term t (of_plan p) h)) (proper_symbols A ss t (s.named_proper k t names))) m

  -- a proof that is named is closed, and the Skolem symbols of a plan that is named are there
  pub proof_closed_named : (k : ℕ) (P : Proof) → proof_at S.names k ≡ some P → closed_proof P ≡ true
  proof_closed_named k P h = proof_closed P (closed_parts_named k (proof_tree P) (proof_named S.names k P h))

  pub plan_symbols_named : (k : ℕ) (p : Plan) → plan_at S.names k ≡ some p → (r : ℕ) → member r (symbols p) ≡ true → r < length S.names.symbols
  plan_symbols_named k p h r m =
      let ss = S.names.symbols in
      plan_symbols_within ss p r (proper_symbols A ss (plan_tree p) (s.named_proper k (plan_tree p) (plan_named S.names k p h))) m

  -- what is begun, or closed, has a query
  asked : (q : Option Formula) → (S.query ≡ none → ⊥) → S.query ≡ q → (φ : Formula) × (S.query ≡ some φ)
  asked none has e = absurd (has e)
  asked (some φ) has e = (φ, e)

  pub begun_asked : (b : Start) → S.start ≡ some b → (φ : Formula) × (S.query ≡ some φ)
  begun_asked b h = asked S.query (λ e. false≢true (sym (s.asking_unbegun e) ∙ ap is_begun h)) refl

  pub closed_asked : S.closed ≡ true → (φ : Formula) × (S.query ≡ some φ)
  closed_asked h = asked S.query (λ e. false≢true (sym (s.asking_unclosed e) ∙ h)) refl
