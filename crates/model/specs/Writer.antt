-- Writing out a refutation that is given as trees: each distinct term once, operands before heads.
use Rattle.command.specs.declared.command.Command.{Command}
use Rattle.std.specs.Prelude.{◌≡◌, ℕ, zero, suc, ◌-◌, Bool, true, false, cond, ◌&&◌, ◌||◌, List, [], ◌∷◌, ◌++◌, length, nat_lt, slice_index}
use Rattle.std.proofs.Math.Option.{Option, none, some}
use Rattle.std.proofs.Math.ListN.{get_elem?}
use Rattle.logic.specs.Syntax.{Formula, Plan, Proof, falsity, OneSided, OnePremise, TwoPremises, Connective, TwoSided}
use Rattle.logic.specs.Syntax.{implication, conjunction, disjunction, skip, skol, recnn, recand, recor, recnor, recnand}
use Rattle.logic.specs.Syntax.{nnpp, eqsymm, and1, and2, orimp, addneg, intro, elimnot, mp, eqtrans, negelim}
use Rattle.logic.specs.Syntax.{hyp, known, assume, eqrefl_thing, eqrefl_number, eqsub, inst, from, from_both}
use Rattle.logic.specs.Tree.{Kind, thing, number, predicate, same_kind, Leaf, Unary, Binary, Tree, leaf, unary, binary, same_tree, number_tree, formula_tree, plan_tree, proof_tree, parts}
use Rattle.logic.specs.Arithmetic.{Arithmetic}
use Rattle.logic.specs.Rules.{Concludes, ◌>>=◌}
use Rattle.logic.specs.Facts.{Fact, States, sum, atmost, cancel, swap, eqleq, leqtrans, pair}
use Rattle.logic.specs.Plans.{Turns, symbols, member, distinct}
use Rattle.logic.specs.Closed.{closed}
use Rattle.model.specs.Limits.{Limits, Room}
use Rattle.model.specs.State.{Symbol, Result, fact, nothing, Names, no_names, with_result, with_symbol, next_number, fresh, the_tree, thing_arity}
use Rattle.logic.specs.Keeping.{keep_each}
use Rattle.model.specs.Commands.{plain, literal_of}
use Rattle.model.specs.Tests.{full, literal_admitted, closed_within, fact_operands, each, closed_fact, appears}
use Rattle.model.specs.Run.{accepts, run}
use Rattle.model.specs.Written.{Writes, writes_symbol, writes_term, writes_deduction, writes_fact, Line, Last, named_each, Script, query_file, proof_file, at_final, WrittenOut, Fits}

-- ---- refutations as trees

pub record StatedFact : Type 0 where
  pub fact : Fact
  pub formula : Formula

-- Terms name a symbol by its place in the list. The proof names the initial formula as `known 0`, and the facts from `known 1` on.
pub record Refutation : Type 0 where
  pub symbols : List Symbol
  pub query : Formula
  pub plan : Plan
  pub initial : Formula
  pub facts : List StatedFact
  pub proof : Proof

abbrev pub only_symbols : List Symbol → Names
only_symbols ss = record { symbols = ss; results = [] }

abbrev pub known_in : Refutation → ℕ → Option Formula
known_in r zero = some r.initial
known_in r (suc i) = do
  f ← get_elem? r.facts i
  some f.formula

abbrev pub is_of_kind : Option Symbol → Kind → Bool
is_of_kind none k = false
is_of_kind (some y) k = same_kind y.kind k

abbrev pub is_there : Option Symbol → Bool
is_there none = false
is_there (some y) = true

abbrev pub plan_symbol_there : List Symbol → OneSided → Bool
plan_symbol_there ss skip = true
plan_symbol_there ss (skol s) = is_there (get_elem? ss s)
plan_symbol_there ss recnn = true

-- the symbol that the head names is there; one that it applies is of its kind
abbrev pub symbol_there : List Symbol → Unary → Bool
symbol_there ss (Unary.application k s) = is_of_kind (get_elem? ss s) k
symbol_there ss Unary.minus = true
symbol_there ss Unary.neg = true
symbol_there ss Unary.forall = true
symbol_there ss (Unary.step h) = plan_symbol_there ss h
symbol_there ss Unary.eqrefl = true
symbol_there ss (Unary.from r) = true

abbrev pub own_symbol_there : List Symbol → Tree → Bool
own_symbol_there ss (leaf x) = true
own_symbol_there ss (unary h t) = symbol_there ss h
own_symbol_there ss (binary h t u) = true

-- what is asked of a term by its own head, and of all its parts
abbrev pub passes_by_head : Arithmetic → List Symbol → Tree → Bool
passes_by_head A ss t = own_symbol_there ss t && full (only_symbols ss) t && literal_admitted A t && closed_within t

abbrev pub proper : Arithmetic → List Symbol → Tree → Bool
proper A ss t = each (passes_by_head A ss) (parts t)

-- a fact of proper and closed operands that the arithmetic states
abbrev pub FactsHold : Arithmetic → List Symbol → List StatedFact → Type 0
FactsHold A ss [] = Unit {0}
FactsHold A ss (f ∷ l) = ((each (proper A ss) (fact_operands f.fact) ≡ true) × (closed_fact f.fact ≡ true) × States A f.fact f.formula) × FactsHold A ss l

pub record IsRefutation (A : Arithmetic) (r : Refutation) : Type 0 where
  pub query_proper : proper A r.symbols (formula_tree r.query) ≡ true
  pub query_closed : closed (formula_tree r.query) ≡ true
  pub plan_proper : proper A r.symbols (plan_tree r.plan) ≡ true
  -- each Skolem symbol stands once in the plan, and not in the query
  pub symbols_once : distinct (symbols r.plan) ≡ true
  pub symbols_new : (s : ℕ) → member s (symbols r.plan) ≡ true → appears s (formula_tree r.query) ≡ false
  pub plan_turns : Turns (thing_arity (only_symbols r.symbols)) 0 r.plan r.query r.initial
  pub facts_hold : FactsHold A r.symbols r.facts
  pub proof_proper : proper A r.symbols (proof_tree r.proof) ≡ true
  pub refutes : Concludes (known_in r) [] r.proof falsity

-- ---- the command that writes a term; symbols come first, so that symbol s has the number suc s

abbrev pub leaf_command : Leaf → Command
leaf_command (Leaf.var i) = plain 10 i 0
leaf_command Leaf.nil = plain 11 0 0
leaf_command (Leaf.lit n) = literal_of n
leaf_command Leaf.falsity = plain 20 0 0
leaf_command Leaf.id = plain 30 0 0
leaf_command (Leaf.hyp i) = plain 40 i 0
leaf_command (Leaf.known k) = plain 41 k 0

abbrev pub one_premise_code : OnePremise → ℕ
one_premise_code nnpp = 45
one_premise_code eqsymm = 48
one_premise_code and1 = 50
one_premise_code and2 = 51
one_premise_code orimp = 52
one_premise_code addneg = 54
one_premise_code intro = 55
one_premise_code elimnot = 56

-- of an operand with the number n
abbrev pub step_command : OneSided → ℕ → Command
step_command skip n = plain 31 n 0
step_command (skol s) n = plain 32 (suc s) n
step_command recnn n = plain 37 n 0

abbrev pub unary_command : Unary → ℕ → Command
unary_command (Unary.application k s) n = plain 13 (suc s) n
unary_command Unary.minus n = plain 16 n 0
unary_command Unary.neg n = plain 24 n 0
unary_command Unary.forall n = plain 27 n 0
unary_command (Unary.step h) n = step_command h n
unary_command Unary.eqrefl n = plain 46 n 0
unary_command (Unary.from r) n = plain (one_premise_code r) n 0

abbrev pub connective_code : Connective → ℕ
connective_code implication = 21
connective_code conjunction = 22
connective_code disjunction = 23

abbrev pub two_sided_code : TwoSided → ℕ
two_sided_code recand = 33
two_sided_code recor = 34
two_sided_code recnor = 35
two_sided_code recnand = 36

abbrev pub two_premises_code : TwoPremises → ℕ
two_premises_code mp = 43
two_premises_code eqtrans = 47
two_premises_code negelim = 53

abbrev pub binary_code : Binary → ℕ
binary_code Binary.cons = 12
binary_code Binary.add = 15
binary_code (Binary.connect c) = connective_code c
binary_code Binary.eq = 25
binary_code Binary.leq = 26
binary_code (Binary.fork h) = two_sided_code h
binary_code Binary.assume = 42
binary_code Binary.absurd = 44
binary_code Binary.eqsub = 49
binary_code Binary.inst = 57
binary_code (Binary.from_both r) = two_premises_code r

-- ---- the lines of a term

abbrev pub is_tree : Tree → Option Tree → Bool
is_tree t none = false
is_tree t (some u) = same_tree t u

-- the term is among the results; its place there, from 0
abbrev pub stands_in : List Result → Tree → Bool
stands_in [] t = false
stands_in (x ∷ l) t = is_tree t (the_tree x) || stands_in l t

abbrev pub place_in : List Result → Tree → ℕ
place_in [] t = 0
place_in (x ∷ l) t = cond (is_tree t (the_tree x)) 0 (suc (place_in l t))

abbrev pub number_of : Names → Tree → ℕ
number_of N t = suc (place_in N.results t)

-- a line, where so many commands were in the file before
abbrev pub line : ℕ → Names → Command → Writes → Line
line before N c x = record { number = next_number N - before; command = c; writes = x }

-- the codes of things, lists, number terms and formulas are below 30
abbrev pub makes_term : Command → Tree → Writes
makes_term c t = cond (nat_lt c.code 30) (writes_term t) (writes_deduction t)

abbrev pub unless : Bool → List Line → List Line
unless b l = cond b [] l

-- the lines of the term's parts that are not among the results yet
abbrev pub write : ℕ → Names → Tree → List Line
write before N (leaf x) = unless (stands_in N.results (leaf x)) (line before N (leaf_command x) (makes_term (leaf_command x) (leaf x)) ∷ [])
write before N (unary h t) =
    let l = write before N t in
    let M = named_each N l in
    let c = unary_command h (number_of M t) in
    unless (stands_in N.results (unary h t)) (l ++ (line before M c (makes_term c (unary h t)) ∷ []))
write before N (binary h t u) =
    let l = write before N t in
    let M = named_each N l in
    let m = write before M u in
    let K = named_each M m in
    let c = plain (binary_code h) (number_of K t) (number_of K u) in
    unless (stands_in N.results (binary h t u)) (l ++ (m ++ (line before K c (makes_term c (binary h t u)) ∷ [])))

abbrev pub write_each : ℕ → Names → List Tree → List Line
write_each before N [] = []
write_each before N (t ∷ l) = let m = write before N t in m ++ write_each before (named_each N m) l

-- ---- symbols and facts

abbrev pub symbol_code : Kind → ℕ
symbol_code thing = 1
symbol_code number = 2
symbol_code predicate = 3

abbrev pub symbol_lines : Names → List Symbol → List Line
symbol_lines N [] = []
symbol_lines N (y ∷ l) = line 0 N (plain (symbol_code y.kind) y.arity 0) (writes_symbol y) ∷ symbol_lines (with_symbol N y) l

abbrev pub fact_command : Names → Fact → Command
fact_command N (sum a b) = plain 60 (number_of N (number_tree a)) (number_of N (number_tree b))
fact_command N (atmost a b) = plain 61 (number_of N (number_tree a)) (number_of N (number_tree b))
fact_command N (cancel a) = plain 62 (number_of N (number_tree a)) 0
fact_command N (swap a b) = plain 63 (number_of N (number_tree a)) (number_of N (number_tree b))
fact_command N (eqleq a b) = plain 64 (number_of N (number_tree a)) (number_of N (number_tree b))
fact_command N (leqtrans a b c) = record { code = 65; a = number_of N (number_tree a); b = number_of N (number_tree b); c = number_of N (number_tree c); literal = (plain 0 0 0).literal }
fact_command N (pair φ ψ) = plain 66 (number_of N (formula_tree φ)) (number_of N (formula_tree ψ))

-- the terms of a fact, and the names at its own line
abbrev pub fact_terms : ℕ → Names → StatedFact → List Line
fact_terms before N f = write_each before N (fact_operands f.fact)

abbrev pub at_fact : ℕ → Names → StatedFact → Names
at_fact before N f = named_each N (fact_terms before N f)

abbrev pub fact_lines : ℕ → Names → List StatedFact → List Line
fact_lines before N [] = []
fact_lines before N (f ∷ l) =
    let M = at_fact before N f in
    fact_terms before N f ++ (line before M (fact_command M f.fact) (writes_fact f.fact f.formula) ∷ fact_lines before (with_result M (fact f.formula)) l)

-- the numbers of the facts
abbrev pub fact_numbers : ℕ → Names → List StatedFact → List ℕ
fact_numbers before N [] = []
fact_numbers before N (f ∷ l) = let M = at_fact before N f in next_number M ∷ fact_numbers before (with_result M (fact f.formula)) l

-- ---- the proof, with the numbers of what it knows

abbrev pub renumbered : (ℕ → ℕ) → Proof → Proof
renumbered f (hyp i) = hyp i
renumbered f (known k) = known (f k)
renumbered f (assume φ P) = assume φ (renumbered f P)
renumbered f (Proof.absurd P φ) = Proof.absurd (renumbered f P) φ
renumbered f (eqrefl_thing t) = eqrefl_thing t
renumbered f (eqrefl_number a) = eqrefl_number a
renumbered f (eqsub P ψ) = eqsub (renumbered f P) ψ
renumbered f (inst t P) = inst t (renumbered f P)
renumbered f (from r P) = from r (renumbered f P)
renumbered f (from_both r P Q) = from_both r (renumbered f P) (renumbered f Q)

-- the number of the initial formula's command, and of the facts'
abbrev pub numbers_known : ℕ → List ℕ → ℕ → ℕ
numbers_known initial facts zero = initial
numbers_known initial facts (suc i) = slice_index facts i

-- ---- the two files

module _ (r : Refutation) where
  abbrev pub query_lines : List Line
  query_lines = let l = symbol_lines no_names r.symbols in l ++ write 0 (named_each no_names l) (formula_tree r.query)

  -- the names at `query`, after it, at `initial`, after it, and after the facts
  abbrev pub at_query : Names
  at_query = named_each no_names query_lines

  abbrev pub asked : Names
  asked = with_result at_query nothing

  -- the commands in the query's file
  abbrev pub before : ℕ
  before = length asked.results

  abbrev pub plan_lines : List Line
  plan_lines = write before asked (plan_tree r.plan)

  abbrev pub at_initial : Names
  at_initial = named_each asked plan_lines

  abbrev pub begun : Names
  begun = with_result at_initial (fact r.initial)

  abbrev pub after_facts : Names
  after_facts = named_each begun (fact_lines before begun r.facts)

  abbrev pub proof_written : Proof
  proof_written = renumbered (numbers_known (next_number at_initial) (fact_numbers before begun r.facts)) r.proof

  abbrev pub proof_lines : List Line
  proof_lines = fact_lines before begun r.facts ++ write before after_facts (proof_tree proof_written)

  abbrev pub at_end : Names
  at_end = named_each begun proof_lines

  abbrev pub last_line : ℕ → Names → ℕ → Tree → Last
  last_line before N code t = record { number = next_number N - before; command = plain code (number_of N t) 0 }

  abbrev pub write_out : Script
  write_out = record {
    query_lines = query_lines;
    query_line = last_line 0 at_query 70 (formula_tree r.query);
    plan_lines = plan_lines;
    initial_line = last_line before at_initial 71 (plan_tree r.plan);
    proof_lines = proof_lines;
    final_line = last_line before at_end 75 (proof_tree proof_written);
    query = r.query;
    plan = r.plan;
    initial = r.initial;
    proof = proof_written;
  }

-- the terms among the results
abbrev pub tree_before : Option Tree → List Tree → List Tree
tree_before none l = l
tree_before (some t) l = t ∷ l

abbrev pub trees_in : List Result → List Tree
trees_in [] = []
trees_in (x ∷ l) = tree_before (the_tree x) (trees_in l)

-- what is so written is a refutation written out, with no term written twice; it is accepted if it fits
pub record WritesOut (A : Arithmetic) (r : Refutation) : Type 0 where
  pub written_out : WrittenOut A (write_out r)
  pub terms_once : keep_each [] (trees_in (at_final (write_out r)).results) ≡ trees_in (at_final (write_out r)).results
  pub accepted : (L : Limits) (R : Room) → Fits L R (write_out r)
      → (run A L R fresh (query_file (write_out r)) (proof_file (write_out r))).verdict ≡ accepts 2 (write_out r).final_line.number

abbrev pub RefutationsCanBeWrittenOut : Type 0
RefutationsCanBeWrittenOut = (A : Arithmetic) (r : Refutation) → IsRefutation A r → WritesOut A r
