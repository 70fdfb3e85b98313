-- Every refutation given as trees is written out by the writer.
use Rattle.command.specs.declared.command.Command.{Command}
use Rattle.std.proofs.Common.{◌≡◌, ℕ, zero, suc, ◌+◌, Bool, true, ◌&&◌, ltb, ◌⊎◌, List, [], ◌∷◌, ◌++◌, length, get_or, sym, refl, ap, ◌∙◌, subst, inl, inr, append_assoc, append-nil, arith, length-append}
use mathlib.Core.Bool.{false≢true}
use mathlib.Core.Option.{Option, none, some, none-ne-some, some-injective}
use lib.ListN.{get_elem?}
use Rattle.std.proofs.lemmas.Bool.{and_parts, cond_both}
use Rattle.logic.specs.Syntax.{Thing, Things, Number, Formula, Plan, Proof, falsity, equal, at_most, implication, conjunction, disjunction}
use Rattle.logic.specs.Syntax.{hyp, known, assume, eqrefl_thing, eqrefl_number, eqsub, inst, from, from_both}
use Rattle.logic.specs.Tree.{Kind, thing, number, predicate, Tree, leaf, unary, binary, thing_tree, things_tree, number_tree, formula_tree, plan_tree, proof_tree, parts}
use Rattle.logic.specs.Terms.{Term, of_number, of_formula, of_plan, of_proof, tree_term}
use Rattle.logic.specs.Arithmetic.{Arithmetic}
use Rattle.logic.specs.Rules.{Concludes}
use Rattle.logic.specs.Rules.{by_hyp, by_known, by_assume, by_mp, by_absurd, by_nnpp, by_eqrefl_thing, by_eqrefl_number, by_eqtrans_things, by_eqtrans_numbers}
use Rattle.logic.specs.Rules.{by_eqsymm_things, by_eqsymm_numbers, by_eqsub, by_and1, by_and2, by_orimp, by_negelim, by_addneg, by_intro, by_elimnot, by_inst}
use Rattle.logic.specs.Facts.{Fact, sum, atmost, cancel, swap, eqleq, leqtrans, pair}
use Rattle.logic.specs.Plans.{Turns}
use Rattle.logic.proofs.Trees.{read_back}
use Rattle.logic.proofs.RulesAre.{bound}
use Rattle.logic.proofs.Hypotheses.{hypotheses_within}
use Rattle.model.specs.State.{Symbol, Result, symbol, term, fact, nothing, Names, no_names, with_result, with_symbol, next_number, the_symbol, the_fact, symbol_at, known_at, thing_arity}
use Rattle.model.specs.Commands.{plain, action_of, a_symbol}
use Rattle.model.specs.Tests.{each, fact_operands}
use Rattle.model.specs.Written.{writes_term, writes_deduction, Line, named, named_each, Rightly, LinesWritten, Asking, EachAsking, WrittenOut}
use Rattle.model.specs.Writer.{StatedFact, Refutation, only_symbols, known_in, passes_by_head, proper, FactsHold, IsRefutation, leaf_command, unary_command, binary_code, stands_in, number_of, line, makes_term, unless, write, write_each}
use Rattle.model.specs.Writer.{symbol_code, symbol_lines, fact_terms, at_fact, fact_lines, fact_numbers, renumbered, numbers_known, at_query, asked, before, plan_lines, at_initial, begun, after_facts, proof_written, at_end, write_out}
use Rattle.model.proofs.Names.{newest}
use Rattle.model.proofs.Places.{view_kept, view_more, stands_kept, stands_last, named_each_append, tree_there}
use Rattle.model.proofs.HeadsWritten.{Grounds, KnownLeaf, leaf_right, unary_right, binary_right, AllStand, fact_right, formula_there, plan_there, proof_there}

-- ---- lines, one list after the other

lines_append : (A : Arithmetic) (l m : List Line) (N : Names) → LinesWritten A N l → LinesWritten A (named_each N l) m → LinesWritten A N (l ++ m)
lines_append A [] m N p q = q
lines_append A (e ∷ l) m N p q = (p.0, lines_append A l m (named N e.writes) p.1 q)

asking_append : (l m : List Line) → EachAsking l → EachAsking m → EachAsking (l ++ m)
asking_append [] m p q = q
asking_append (e ∷ l) m p q = (p.0, asking_append l m p.1 q)

pub named_makes : (N : Names) (c : Command) (t : Tree) → named N (makes_term c t) ≡ with_result N (term t)
named_makes N c t = cond_both (ltb c.code 30) (writes_term t) (writes_deduction t) (λ x. named N x ≡ with_result N (term t)) (λ _. refl) (λ _. refl)

-- ---- proper terms, part by part

each_append : (test : Tree → Bool) (l m : List Tree) → each test (l ++ m) ≡ true → (each test l ≡ true) × (each test m ≡ true)
each_append test [] m h = (refl, h)
each_append test (t ∷ l) m h =
    let p = and_parts (test t) (each test (l ++ m)) h in
    let q = each_append test l m p.1 in
    (ap (λ b. b && each test l) p.0 ∙ q.0, q.1)

module _ (A : Arithmetic) (ss : List Symbol) where
  abbrev Proper : Tree → Type 0
  Proper (leaf x) = passes_by_head A ss (leaf x) ≡ true
  Proper (unary h t) = (passes_by_head A ss (unary h t) ≡ true) × Proper t
  Proper (binary h t u) = (passes_by_head A ss (binary h t u) ≡ true) × Proper t × Proper u

  properly : (t : Tree) → proper A ss t ≡ true → Proper t
  properly (leaf x) h = (and_parts (passes_by_head A ss (leaf x)) true h).0
  properly (unary g t) h =
      let p = each_append (passes_by_head A ss) (parts t) (unary g t ∷ []) h in
      ((and_parts (passes_by_head A ss (unary g t)) true p.1).0, properly t p.0)
  properly (binary g t u) h =
      let p = each_append (passes_by_head A ss) (parts t ++ parts u) (binary g t u ∷ []) h in
      let q = each_append (passes_by_head A ss) (parts t) (parts u) p.0 in
      ((and_parts (passes_by_head A ss (binary g t u)) true p.1).0, properly t q.0, properly u q.1)

  -- the numbers of known formulas do not matter
  proper_renumbered : (f : ℕ → ℕ) (P : Proof) → Proper (proof_tree P) → Proper (proof_tree (renumbered f P))
  proper_renumbered f (hyp i) p = p
  proper_renumbered f (known k) p = refl
  proper_renumbered f (assume φ P) p = (p.0, p.1, proper_renumbered f P p.2)
  proper_renumbered f (Proof.absurd P φ) p = (p.0, proper_renumbered f P p.1, p.2)
  proper_renumbered f (eqrefl_thing t) p = p
  proper_renumbered f (eqrefl_number a) p = p
  proper_renumbered f (eqsub P ψ) p = (p.0, proper_renumbered f P p.1, p.2)
  proper_renumbered f (inst t P) p = (p.0, p.1, proper_renumbered f P p.2)
  proper_renumbered f (from r P) p = (p.0, proper_renumbered f P p.1)
  proper_renumbered f (from_both r P Q) p = (p.0, proper_renumbered f P p.1, proper_renumbered f Q p.2)

-- ---- what is known: only proofs name it, and a proof that concludes something names what is known

module _ (knows : ℕ → Option Formula) where
  abbrev KnownLeaves : Tree → Type 0
  KnownLeaves (leaf x) = KnownLeaf knows x
  KnownLeaves (unary h t) = KnownLeaves t
  KnownLeaves (binary h t u) = KnownLeaves t × KnownLeaves u

  mutual
    thing_knows : (t : Thing) → KnownLeaves (thing_tree t)
    thing_knows (Thing.var i) = tt
    thing_knows (Thing.apply s l) = things_know l

    things_know : (l : Things) → KnownLeaves (things_tree l)
    things_know Things.nil = tt
    things_know (Things.cons t l) = (thing_knows t, things_know l)

  number_knows : (a : Number) → KnownLeaves (number_tree a)
  number_knows (Number.lit n) = tt
  number_knows (Number.add a b) = (number_knows a, number_knows b)
  number_knows (Number.minus a) = number_knows a
  number_knows (Number.measure s l) = things_know l

  formula_knows : (φ : Formula) → KnownLeaves (formula_tree φ)
  formula_knows Formula.falsity = tt
  formula_knows (Formula.connect c φ ψ) = (formula_knows φ, formula_knows ψ)
  formula_knows (Formula.neg φ) = formula_knows φ
  formula_knows (Formula.eq_things t u) = (thing_knows t, thing_knows u)
  formula_knows (Formula.relate r a b) = (number_knows a, number_knows b)
  formula_knows (Formula.atom s l) = things_know l
  formula_knows (Formula.forall φ) = formula_knows φ

  plan_knows : (p : Plan) → KnownLeaves (plan_tree p)
  plan_knows Plan.id = tt
  plan_knows (Plan.step h p) = plan_knows p
  plan_knows (Plan.fork h p q) = (plan_knows p, plan_knows q)

  proof_knows : {H : List Formula} {P : Proof} {φ : Formula} → Concludes knows H P φ → KnownLeaves (proof_tree P)
  proof_knows (by_hyp e) = tt
  proof_knows (by_known {φ} e) = (φ, e)
  proof_knows (by_assume {φ} d) = (formula_knows φ, proof_knows d)
  proof_knows (by_mp d e) = (proof_knows d, proof_knows e)
  proof_knows (by_absurd {φ} d) = (proof_knows d, formula_knows φ)
  proof_knows (by_nnpp d) = proof_knows d
  proof_knows (by_eqrefl_thing {t}) = thing_knows t
  proof_knows (by_eqrefl_number {a}) = number_knows a
  proof_knows (by_eqtrans_things d e) = (proof_knows d, proof_knows e)
  proof_knows (by_eqtrans_numbers d e) = (proof_knows d, proof_knows e)
  proof_knows (by_eqsymm_things d) = proof_knows d
  proof_knows (by_eqsymm_numbers d) = proof_knows d
  proof_knows (by_eqsub {ψ} d) = (proof_knows d, formula_knows ψ)
  proof_knows (by_and1 d) = proof_knows d
  proof_knows (by_and2 d) = proof_knows d
  proof_knows (by_orimp d) = proof_knows d
  proof_knows (by_negelim d e) = (proof_knows d, proof_knows e)
  proof_knows (by_addneg d) = proof_knows d
  proof_knows (by_intro d) = proof_knows d
  proof_knows (by_elimnot d) = proof_knows d
  proof_knows (by_inst {t} d) = (thing_knows t, proof_knows d)

-- a proof goes on concluding what it does when what it knows is numbered otherwise
concludes_renumbered : {knows : ℕ → Option Formula} {H : List Formula} {P : Proof} {φ : Formula} (knows' : ℕ → Option Formula) (f : ℕ → ℕ)
    → ((k : ℕ) (ψ : Formula) → knows k ≡ some ψ → knows' (f k) ≡ some ψ) → Concludes knows H P φ → Concludes knows' H (renumbered f P) φ
concludes_renumbered knows' f same (by_hyp e) = by_hyp e
concludes_renumbered knows' f same (by_known {k} {φ} e) = by_known (same k φ e)
concludes_renumbered knows' f same (by_assume d) = by_assume (concludes_renumbered knows' f same d)
concludes_renumbered knows' f same (by_mp d e) = by_mp (concludes_renumbered knows' f same d) (concludes_renumbered knows' f same e)
concludes_renumbered knows' f same (by_absurd d) = by_absurd (concludes_renumbered knows' f same d)
concludes_renumbered knows' f same (by_nnpp d) = by_nnpp (concludes_renumbered knows' f same d)
concludes_renumbered knows' f same by_eqrefl_thing = by_eqrefl_thing
concludes_renumbered knows' f same by_eqrefl_number = by_eqrefl_number
concludes_renumbered knows' f same (by_eqtrans_things d e) = by_eqtrans_things (concludes_renumbered knows' f same d) (concludes_renumbered knows' f same e)
concludes_renumbered knows' f same (by_eqtrans_numbers d e) = by_eqtrans_numbers (concludes_renumbered knows' f same d) (concludes_renumbered knows' f same e)
concludes_renumbered knows' f same (by_eqsymm_things d) = by_eqsymm_things (concludes_renumbered knows' f same d)
concludes_renumbered knows' f same (by_eqsymm_numbers d) = by_eqsymm_numbers (concludes_renumbered knows' f same d)
concludes_renumbered knows' f same (by_eqsub d) = by_eqsub (concludes_renumbered knows' f same d)
concludes_renumbered knows' f same (by_and1 d) = by_and1 (concludes_renumbered knows' f same d)
concludes_renumbered knows' f same (by_and2 d) = by_and2 (concludes_renumbered knows' f same d)
concludes_renumbered knows' f same (by_orimp d) = by_orimp (concludes_renumbered knows' f same d)
concludes_renumbered knows' f same (by_negelim d e) = by_negelim (concludes_renumbered knows' f same d) (concludes_renumbered knows' f same e)
concludes_renumbered knows' f same (by_addneg d) = by_addneg (concludes_renumbered knows' f same d)
concludes_renumbered knows' f same (by_intro d) = by_intro (concludes_renumbered knows' f same d)
concludes_renumbered knows' f same (by_elimnot d) = by_elimnot (concludes_renumbered knows' f same d)
concludes_renumbered knows' f same (by_inst d) = by_inst (concludes_renumbered knows' f same d)

-- ---- terms

module _ (A : Arithmetic) (ss : List Symbol) (knows : ℕ → Option Formula) where
  abbrev Based : Names → Type 0
  Based N = Grounds ss knows N

  -- the lines are rightly written, and change no symbols
  record Wrote (N : Names) (l : List Line) : Type 0 where
    lines : LinesWritten A N l
    symbols_kept : (named_each N l).symbols ≡ N.symbols

  based_after : (l : List Line) (N : Names) → Wrote N l → Based N → Based (named_each N l)
  based_after l N w g = record {
    symbols_are = w.symbols_kept ∙ g.symbols_are;
    symbols_named = λ s y e. view_kept the_symbol l N (suc s) s (g.symbols_named s y e);
    known_named = λ k φ e. view_kept the_fact l N k φ (g.known_named k φ e);
  }

  nothing_written : (N : Names) → Wrote N []
  nothing_written N = record { lines = tt; symbols_kept = refl }

  wrote_both : (l m : List Line) (N : Names) → Wrote N l → Wrote (named_each N l) m → Wrote N (l ++ m)
  wrote_both l m N p q = record {
    lines = lines_append A l m N p.lines q.lines;
    symbols_kept = ap (λ (M : Names). M.symbols) (named_each_append l m N) ∙ q.symbols_kept ∙ p.symbols_kept;
  }

  -- the lines write the term
  record WroteTerm (N : Names) (l : List Line) (t : Tree) : Type 0 where
    wrote : Wrote N l
    stands : stands_in (named_each N l).results t ≡ true

  head_written : (b : ℕ) (N : Names) (c : Command) (t : Tree) → Rightly A N c (makes_term c t) → WroteTerm N (line b N c (makes_term c t) ∷ []) t
  head_written b N c t right = record {
    wrote = record { lines = (right, tt); symbols_kept = ap (λ (M : Names). M.symbols) (named_makes N c t) };
    stands = subst (λ (M : Names). stands_in M.results t ≡ true) (sym (named_makes N c t)) (stands_last N.results t);
  }

  after_operands : (l m : List Line) (N : Names) (t : Tree) → Wrote N l → WroteTerm (named_each N l) m t → WroteTerm N (l ++ m) t
  after_operands l m N t p q = record {
    wrote = wrote_both l m N p q.wrote;
    stands = subst (λ (M : Names). stands_in M.results t ≡ true) (sym (named_each_append l m N)) q.stands;
  }

  unless_there : (N : Names) (l : List Line) (t : Tree) → WroteTerm N l t → WroteTerm N (unless (stands_in N.results t) l) t
  unless_there N l t w = cond_both (stands_in N.results t) [] l (λ m. WroteTerm N m t) (λ e. record { wrote = nothing_written N; stands = e }) (λ _. w)

  writes : (b : ℕ) (t : Tree) (x : Term) (N : Names) → Based N → tree_term t ≡ some x → Proper A ss t → KnownLeaves knows t → WroteTerm N (write b N t) t
  writes b (leaf y) x N g typed p k = unless_there N _ (leaf y) (head_written b N (leaf_command y) (leaf y) (leaf_right A ss knows N g y k p))
  writes b (unary h t) x N g typed p k =
      let y = bound (tree_term t) _ x typed in
      let l = write b N t in
      let w = writes b t y.0 N g y.1 p.1 k in
      let M = named_each N l in
      let n = number_of M t in
      unless_there N _ (unary h t) (after_operands l _ N (unary h t) w.wrote
      (head_written b M (unary_command h n) (unary h t) (unary_right A ss knows M (based_after l N w.wrote g) n t x (tree_there M t w.stands) h typed p.0)))
  writes b (binary h t u) x N g typed p k =
      let y = bound (tree_term t) _ x typed in
      let z = bound (tree_term u) _ x y.2 in
      let l = write b N t in
      let w = writes b t y.0 N g y.1 p.1 k.0 in
      let M = named_each N l in
      let g1 = based_after l N w.wrote g in
      let m = write b M u in
      let v = writes b u z.0 M g1 z.1 p.2 k.1 in
      let K = named_each M m in
      let g2 = based_after m M v.wrote g1 in
      let i = number_of K t in
      let j = number_of K u in
      unless_there N _ (binary h t u) (after_operands l _ N (binary h t u) w.wrote (after_operands m _ M (binary h t u) v.wrote
      (head_written b K (plain (binary_code h) i j) (binary h t u)
      (binary_right A ss knows K g2 i j t u x (tree_there K t (stands_kept m M t w.stands)) (tree_there K u v.stands) h typed p.0))))

  -- ---- several terms

  abbrev EachWritable : List Tree → Type 0
  EachWritable [] = Unit {0}
  EachWritable (t ∷ l) = ((x : Term) × (tree_term t ≡ some x) × Proper A ss t × KnownLeaves knows t) × EachWritable l

  record WroteEach (N : Names) (l : List Line) (ts : List Tree) : Type 0 where
    wrote : Wrote N l
    all_stand : AllStand (named_each N l) ts

  writes_each : (b : ℕ) (ts : List Tree) (N : Names) → Based N → EachWritable ts → WroteEach N (write_each b N ts) ts
  writes_each b [] N g p = record { wrote = nothing_written N; all_stand = tt }
  writes_each b (t ∷ ts) N g p =
      let m = write b N t in
      let w = writes b t p.0.0 N g p.0.1 p.0.2 p.0.3 in
      let M = named_each N m in
      let rest = writes_each b ts M (based_after m N w.wrote g) p.1 in
      let e = named_each_append m (write_each b M ts) N in
      record {
        wrote = wrote_both m (write_each b M ts) N w.wrote rest.wrote;
        all_stand = (subst (λ (K : Names). stands_in K.results t ≡ true) (sym e) (stands_kept (write_each b M ts) M t w.stands), subst (λ K. AllStand K ts) (sym e) rest.all_stand);
      }

  -- one result more that is no symbol
  based_more : (N : Names) (x : Result) → Based N → Based (with_result N x)
  based_more N x g = record {
    symbols_are = g.symbols_are;
    symbols_named = λ s y e. view_more the_symbol N (with_result N x) x refl (suc s) s (g.symbols_named s y e);
    known_named = λ k φ e. view_more the_fact N (with_result N x) x refl k φ (g.known_named k φ e);
  }

  -- ---- facts

  number_writable : (a : Number) → proper A ss (number_tree a) ≡ true → (x : Term) × (tree_term (number_tree a) ≡ some x) × Proper A ss (number_tree a) × KnownLeaves knows (number_tree a)
  number_writable a h = (of_number a, read_back (of_number a), properly A ss (number_tree a) h, number_knows knows a)

  formula_writable : (φ : Formula) → proper A ss (formula_tree φ) ≡ true → (x : Term) × (tree_term (formula_tree φ) ≡ some x) × Proper A ss (formula_tree φ) × KnownLeaves knows (formula_tree φ)
  formula_writable φ h = (of_formula φ, read_back (of_formula φ), properly A ss (formula_tree φ) h, formula_knows knows φ)

  two_writable : (a b : Number) → each (proper A ss) (number_tree a ∷ number_tree b ∷ []) ≡ true → EachWritable (number_tree a ∷ number_tree b ∷ [])
  two_writable a b h =
      let p = and_parts (proper A ss (number_tree a)) (each (proper A ss) (number_tree b ∷ [])) h in
      (number_writable a p.0, (number_writable b (and_parts (proper A ss (number_tree b)) true p.1).0, tt))

  operands_writable : (f : Fact) → each (proper A ss) (fact_operands f) ≡ true → EachWritable (fact_operands f)
  operands_writable (sum a b) h = two_writable a b h
  operands_writable (atmost a b) h = two_writable a b h
  operands_writable (cancel a) h = (number_writable a (and_parts (proper A ss (number_tree a)) true h).0, tt)
  operands_writable (swap a b) h = two_writable a b h
  operands_writable (eqleq a b) h = two_writable a b h
  operands_writable (leqtrans a b c) h =
      let p = and_parts (proper A ss (number_tree a)) (each (proper A ss) (number_tree b ∷ number_tree c ∷ [])) h in
      (number_writable a p.0, two_writable b c p.1)
  operands_writable (pair φ ψ) h =
      let p = and_parts (proper A ss (formula_tree φ)) (each (proper A ss) (formula_tree ψ ∷ [])) h in
      (formula_writable φ p.0, (formula_writable ψ (and_parts (proper A ss (formula_tree ψ)) true p.1).0, tt))

  writes_facts : (b : ℕ) (fs : List StatedFact) (N : Names) → Based N → FactsHold A ss fs → Wrote N (fact_lines b N fs)
  writes_facts b [] N g h = nothing_written N
  writes_facts b (f ∷ fs) N g h =
      let w = writes_each b (fact_operands f.fact) N g (operands_writable f.fact h.0.0) in
      let M = at_fact b N f in
      let rest = writes_facts b fs (with_result M (fact f.formula)) (based_more M (fact f.formula) (based_after (fact_terms b N f) N w.wrote g)) h.1 in
      wrote_both (fact_terms b N f) _ N w.wrote (record { lines = (fact_right A M f.fact f.formula w.all_stand h.0.1 h.0.2, rest.lines); symbols_kept = rest.symbols_kept })

-- the facts are known by their numbers
facts_known : (b : ℕ) (fs : List StatedFact) (N : Names) (i : ℕ) (f : StatedFact) → get_elem? fs i ≡ some f → known_at (named_each N (fact_lines b N fs)) (get_or (fact_numbers b N fs) i 0) ≡ some f.formula
facts_known b [] N i f h = absurd (none-ne-some f h)
facts_known b (e ∷ fs) N zero f h =
    let M = at_fact b N e in
    let K = with_result M (fact e.formula) in
    let rest = fact_lines b K fs in
    let here : known_at K (next_number M) ≡ some e.formula = newest the_fact M K (fact e.formula) refl in
    subst (λ X. known_at X (next_number M) ≡ some f.formula) (sym (named_each_append (fact_terms b N e) _ N))
    (view_kept the_fact rest K (next_number M) f.formula (here ∙ ap (λ (x : StatedFact). some x.formula) (some-injective e f h)))
facts_known b (e ∷ fs) N (suc i) f h =
    let M = at_fact b N e in
    let K = with_result M (fact e.formula) in
    subst (λ X. known_at X (get_or (fact_numbers b K fs) i 0) ≡ some f.formula) (sym (named_each_append (fact_terms b N e) _ N)) (facts_known b fs K i f h)

-- ---- symbols

symbol_head : (k : Kind) → action_of (symbol_code k) ≡ some (a_symbol k)
symbol_head thing = refl
symbol_head number = refl
symbol_head predicate = refl

-- so far there are symbols alone, numbered from 1 on
record SymbolsAlone (N : Names) : Type 0 where
  as_many : length N.results ≡ length N.symbols
  numbered : (s : ℕ) (y : Symbol) → get_elem? N.symbols s ≡ some y → symbol_at N (suc s) ≡ some s

last_place : {X : Type 0} (l : List X) (x y : X) (i : ℕ) → get_elem? (l ++ (x ∷ [])) i ≡ some y → (get_elem? l i ≡ some y) ⊎ (i ≡ length l)
last_place [] x y zero h = inr refl
last_place [] x y (suc i) h = inl h
last_place (z ∷ l) x y zero h = inl h
last_place (z ∷ l) x y (suc i) h = elim (last_place l x y i h) [ inl e ↦ inl e | inr e ↦ inr (ap suc e) ]

symbols_more : (N : Names) (y : Symbol) → SymbolsAlone N → SymbolsAlone (with_symbol N y)
symbols_more N y a = record {
  as_many = length-append N.results (symbol (length N.symbols) ∷ []) ∙ ap (λ n. n + 1) a.as_many ∙ sym (length-append N.symbols (y ∷ []));
  numbered = λ s z e. elim (last_place N.symbols y z s e) [
    | inl old ↦ view_more the_symbol N (with_symbol N y) (symbol (length N.symbols)) refl (suc s) s (a.numbered s z old)
    | inr new ↦
        subst (λ n. symbol_at (with_symbol N y) (suc n) ≡ some n) (sym new)
        (ap (λ n. symbol_at (with_symbol N y) (suc n)) (sym a.as_many) ∙ newest the_symbol N (with_symbol N y) (symbol (length N.symbols)) refl)
  ];
}

module _ (A : Arithmetic) where
  record SymbolsWritten (N : Names) (ss : List Symbol) : Type 0 where
    lines : LinesWritten A N (symbol_lines N ss)
    only_asking : EachAsking (symbol_lines N ss)
    symbols_are : (named_each N (symbol_lines N ss)).symbols ≡ N.symbols ++ ss
    alone : SymbolsAlone (named_each N (symbol_lines N ss))

  writes_symbols : (ss : List Symbol) (N : Names) → SymbolsAlone N → SymbolsWritten N ss
  writes_symbols [] N a = record { lines = tt; only_asking = tt; symbols_are = sym (append-nil N.symbols); alone = a }
  writes_symbols (y ∷ ss) N a =
      let r = writes_symbols ss (with_symbol N y) (symbols_more N y a) in
      record {
        lines = ((symbol_head y.kind, refl), r.lines);
        only_asking = (tt, r.only_asking);
        symbols_are = r.symbols_are ∙ append_assoc N.symbols (y ∷ []) ss;
        alone = r.alone;
      }

-- ---- the query's terms may be written while asking

abbrev Early : Tree → Type 0
Early (leaf x) = ltb (leaf_command x).code 30 ≡ true
Early (unary h t) = ((n : ℕ) → ltb (unary_command h n).code 30 ≡ true) × Early t
Early (binary h t u) = (ltb (binary_code h) 30 ≡ true) × Early t × Early u

mutual
  thing_early : (t : Thing) → Early (thing_tree t)
  thing_early (Thing.var i) = refl
  thing_early (Thing.apply s l) = (λ n. refl, things_early l)

  things_early : (l : Things) → Early (things_tree l)
  things_early Things.nil = refl
  things_early (Things.cons t l) = (refl, thing_early t, things_early l)

number_early : (a : Number) → Early (number_tree a)
number_early (Number.lit n) = refl
number_early (Number.add a b) = (refl, number_early a, number_early b)
number_early (Number.minus a) = (λ n. refl, number_early a)
number_early (Number.measure s l) = (λ n. refl, things_early l)

formula_early : (φ : Formula) → Early (formula_tree φ)
formula_early Formula.falsity = refl
formula_early (Formula.connect implication φ ψ) = (refl, formula_early φ, formula_early ψ)
formula_early (Formula.connect conjunction φ ψ) = (refl, formula_early φ, formula_early ψ)
formula_early (Formula.connect disjunction φ ψ) = (refl, formula_early φ, formula_early ψ)
formula_early (Formula.neg φ) = (λ n. refl, formula_early φ)
formula_early (Formula.eq_things t u) = (refl, thing_early t, thing_early u)
formula_early (Formula.relate equal a b) = (refl, number_early a, number_early b)
formula_early (Formula.relate at_most a b) = (refl, number_early a, number_early b)
formula_early (Formula.atom s l) = (λ n. refl, things_early l)
formula_early (Formula.forall φ) = (λ n. refl, formula_early φ)

makes_asking : (c : Command) (t : Tree) → ltb c.code 30 ≡ true → Asking (makes_term c t)
makes_asking c t e = cond_both (ltb c.code 30) (writes_term t) (writes_deduction t) Asking (λ _. tt) (λ f. absurd (false≢true (sym f ∙ e)))

unless_asking : (b : Bool) (l : List Line) → EachAsking l → EachAsking (unless b l)
unless_asking b l h = cond_both b [] l EachAsking (λ _. tt) (λ _. h)

write_asking : (b : ℕ) (t : Tree) (N : Names) → Early t → EachAsking (write b N t)
write_asking b (leaf x) N e = unless_asking (stands_in N.results (leaf x)) _ (makes_asking (leaf_command x) (leaf x) e, tt)
write_asking b (unary h t) N e =
    let l = write b N t in
    let M = named_each N l in
    let c = unary_command h (number_of M t) in
    let last = line b M c (makes_term c (unary h t)) ∷ [] in
    unless_asking (stands_in N.results (unary h t)) (l ++ last) (asking_append l last (write_asking b t N e.1) (makes_asking c (unary h t) (e.0 (number_of M t)), tt))
write_asking b (binary h t u) N e =
    let l = write b N t in
    let M = named_each N l in
    let m = write b M u in
    let K = named_each M m in
    let c = plain (binary_code h) (number_of K t) (number_of K u) in
    let last = line b K c (makes_term c (binary h t u)) ∷ [] in
    unless_asking (stands_in N.results (binary h t u)) (l ++ (m ++ last))
    (asking_append l (m ++ last) (write_asking b t N e.1) (asking_append m last (write_asking b u M e.2) (makes_asking c (binary h t u) e.0, tt)))

-- ---- the two files

abbrev nothing_known : ℕ → Option Formula
nothing_known k = none

module _ (A : Arithmetic) (r : Refutation) (is : IsRefutation A r) where
  abbrev ss : List Symbol
  ss = r.symbols

  abbrev symbols_named : Names
  symbols_named = named_each no_names (symbol_lines no_names ss)

  symbols_done : SymbolsWritten A no_names ss
  symbols_done = writes_symbols A ss no_names (record { as_many = refl; numbered = λ s y e. absurd (none-ne-some y e) })

  based_0 : Grounds ss nothing_known symbols_named
  based_0 = record {
    symbols_are = symbols_done.symbols_are;
    symbols_named = λ s y e. symbols_done.alone.numbered s y (ap (λ l. get_elem? l s) symbols_done.symbols_are ∙ e);
    known_named = λ k φ e. absurd (none-ne-some φ e);
  }

  query_done : WroteTerm A ss nothing_known symbols_named (write 0 symbols_named (formula_tree r.query)) (formula_tree r.query)
  query_done =
      writes A ss nothing_known 0 (formula_tree r.query) (of_formula r.query) symbols_named based_0 (read_back (of_formula r.query)) (properly A ss (formula_tree r.query) is.query_proper) (formula_knows nothing_known r.query)

  at_query_is : at_query r ≡ named_each symbols_named (write 0 symbols_named (formula_tree r.query))
  at_query_is = named_each_append (symbol_lines no_names ss) (write 0 symbols_named (formula_tree r.query)) no_names

  based_1 : Grounds ss nothing_known (asked r)
  based_1 = based_more A ss nothing_known (at_query r) nothing (subst (Grounds ss nothing_known) (sym at_query_is) (based_after A ss nothing_known (write 0 symbols_named (formula_tree r.query)) symbols_named query_done.wrote based_0))

  plan_done : WroteTerm A ss nothing_known (asked r) (plan_lines r) (plan_tree r.plan)
  plan_done = writes A ss nothing_known (before r) (plan_tree r.plan) (of_plan r.plan) (asked r) based_1 (read_back (of_plan r.plan)) (properly A ss (plan_tree r.plan) is.plan_proper) (plan_knows nothing_known r.plan)

  based_2 : Grounds ss nothing_known (at_initial r)
  based_2 = based_after A ss nothing_known (plan_lines r) (asked r) plan_done.wrote based_1

  based_3 : Grounds ss nothing_known (begun r)
  based_3 = based_more A ss nothing_known (at_initial r) (fact r.initial) based_2

  facts_done : Wrote A ss nothing_known (begun r) (fact_lines (before r) (begun r) r.facts)
  facts_done = writes_facts A ss nothing_known (before r) r.facts (begun r) based_3 is.facts_hold

  abbrev numbers : ℕ → ℕ
  numbers = numbers_known (next_number (at_initial r)) (fact_numbers (before r) (begun r) r.facts)

  -- what the proof knows is known by its number after the facts
  known_then : (k : ℕ) (φ : Formula) → known_in r k ≡ some φ → known_at (after_facts r) (numbers k) ≡ some φ
  known_then zero φ h = view_kept the_fact (fact_lines (before r) (begun r) r.facts) (begun r) (next_number (at_initial r)) φ (newest the_fact (at_initial r) (begun r) (fact r.initial) refl ∙ h)
  known_then (suc i) φ h =
      let f = bound (get_elem? r.facts i) _ φ h in
      facts_known (before r) r.facts (begun r) i f.0 f.1 ∙ f.2

  concluded_then : Concludes (known_at (after_facts r)) [] (proof_written r) falsity
  concluded_then = concludes_renumbered (known_at (after_facts r)) numbers known_then is.refutes

  based_4 : Grounds ss (known_at (after_facts r)) (after_facts r)
  based_4 =
      let g = based_after A ss nothing_known (fact_lines (before r) (begun r) r.facts) (begun r) facts_done based_3 in
      record { symbols_are = g.symbols_are; symbols_named = g.symbols_named; known_named = λ k φ e. e }

  abbrev last_lines : List Line
  last_lines = write (before r) (after_facts r) (proof_tree (proof_written r))

  proof_done : WroteTerm A ss (known_at (after_facts r)) (after_facts r) last_lines (proof_tree (proof_written r))
  proof_done =
      writes A ss (known_at (after_facts r)) (before r) (proof_tree (proof_written r)) (of_proof (proof_written r)) (after_facts r) based_4 (read_back (of_proof (proof_written r)))
      (proper_renumbered A ss numbers r.proof (properly A ss (proof_tree r.proof) is.proof_proper)) (proof_knows (known_at (after_facts r)) concluded_then)

  at_end_is : at_end r ≡ named_each (after_facts r) last_lines
  at_end_is = named_each_append (fact_lines (before r) (begun r) r.facts) last_lines (begun r)

  known_at_end : (k : ℕ) (φ : Formula) → known_in r k ≡ some φ → known_at (at_end r) (numbers k) ≡ some φ
  known_at_end k φ h = subst (λ N. known_at N (numbers k) ≡ some φ) (sym at_end_is) (view_kept the_fact last_lines (after_facts r) (numbers k) φ (known_then k φ h))

  pub written : WrittenOut A (write_out r)
  written = record {
    query_written = lines_append A (symbol_lines no_names ss) (write 0 symbols_named (formula_tree r.query)) no_names symbols_done.lines query_done.wrote.lines;
    while_asking = asking_append (symbol_lines no_names ss) (write 0 symbols_named (formula_tree r.query)) symbols_done.only_asking (write_asking 0 (formula_tree r.query) symbols_named (formula_early r.query));
    query_named = (refl, formula_there (at_query r) r.query (subst (λ (N : Names). stands_in N.results (formula_tree r.query) ≡ true) (sym at_query_is) query_done.stands));
    query_closed = is.query_closed;
    plan_written = plan_done.wrote.lines;
    plan_named = (refl, plan_there (at_initial r) r.plan plan_done.stands);
    symbols_once = is.symbols_once;
    symbols_new = is.symbols_new;
    plan_turns = subst (λ l. Turns (thing_arity (only_symbols l)) 0 r.plan r.query r.initial) (sym based_2.symbols_are) is.plan_turns;
    proof_written = lines_append A (fact_lines (before r) (begun r) r.facts) last_lines (begun r) facts_done.lines proof_done.wrote.lines;
    proof_named = (refl, proof_there (at_end r) (proof_written r) (subst (λ (N : Names). stands_in N.results (proof_tree (proof_written r)) ≡ true) (sym at_end_is) proof_done.stands));
    proof_closed = let h = hypotheses_within concluded_then in omega arith;
    refutes = concludes_renumbered (known_at (at_end r)) numbers known_at_end is.refutes;
  }
