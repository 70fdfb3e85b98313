-- The state of a session, as the accepted commands left it, and what their numbers name.
use Rattle.std.specs.Prelude.{ℕ, zero, suc, Bool, false, List, [], ◌∷◌, ◌++◌, length}
use Rattle.std.proofs.Math.Option.{Option, none, some}
use Rattle.std.proofs.Math.ListN.{get_elem?}
use Rattle.logic.specs.Syntax.{Number, Formula, Plan, Proof}
use Rattle.logic.specs.Tree.{Kind, Tree, same_kind, thing}
use Rattle.logic.specs.Terms.{Term, tree_term, as_number, as_formula, as_plan, as_proof}
use Rattle.logic.specs.Rules.{◌>>=◌, when}

pub record Symbol : Type 0 where
  pub kind : Kind
  -- how many things it takes
  pub arity : ℕ

-- The result of an accepted command: a symbol, by its place among the session's symbols; a term; a formula made known; or nothing.
pub data Result : Type 0 where
  symbol : ℕ → Result
  term : Tree → Result
  fact : Formula → Result
  nothing : Result

-- what the accepted commands give names to: the symbols, and the results in order
pub record Names : Type 0 where
  pub symbols : List Symbol
  pub results : List Result

abbrev pub no_names : Names
no_names = record { symbols = []; results = [] }

abbrev pub with_result : Names → Result → Names
with_result N x = record { symbols = N.symbols; results = N.results ++ (x ∷ []) }

abbrev pub with_symbol : Names → Symbol → Names
with_symbol N y = record { symbols = N.symbols ++ (y ∷ []); results = N.results ++ (symbol (length N.symbols) ∷ []) }

-- the number of the next command accepted
abbrev pub next_number : Names → ℕ
next_number N = suc (length N.results)

-- ---- what a number names: commands are numbered from 1

abbrev pub result_at : Names → ℕ → Option Result
result_at N zero = none
result_at N (suc i) = get_elem? N.results i

abbrev pub the_symbol : Result → Option ℕ
the_symbol (symbol s) = some s
the_symbol (term t) = none
the_symbol (fact φ) = none
the_symbol nothing = none

abbrev pub the_tree : Result → Option Tree
the_tree (symbol s) = none
the_tree (term t) = some t
the_tree (fact φ) = none
the_tree nothing = none

abbrev pub the_fact : Result → Option Formula
the_fact (symbol s) = none
the_fact (term t) = none
the_fact (fact φ) = some φ
the_fact nothing = none

abbrev pub symbol_at : Names → ℕ → Option ℕ
symbol_at N k = result_at N k >>= the_symbol

abbrev pub tree_at : Names → ℕ → Option Tree
tree_at N k = result_at N k >>= the_tree

-- the formula that command k made known
abbrev pub known_at : Names → ℕ → Option Formula
known_at N k = result_at N k >>= the_fact

abbrev pub term_at : Names → ℕ → Option Term
term_at N k = tree_at N k >>= tree_term

abbrev pub number_at : Names → ℕ → Option Number
number_at N k = term_at N k >>= as_number

abbrev pub formula_at : Names → ℕ → Option Formula
formula_at N k = term_at N k >>= as_formula

abbrev pub plan_at : Names → ℕ → Option Plan
plan_at N k = term_at N k >>= as_plan

abbrev pub proof_at : Names → ℕ → Option Proof
proof_at N k = term_at N k >>= as_proof

-- how many arguments the thing symbol s takes; none if it is no thing symbol
abbrev pub thing_arity : Names → ℕ → Option ℕ
thing_arity N s = get_elem? N.symbols s >>= λ y. when (same_kind y.kind thing) y.arity

-- ---- states

-- the accepted `initial`: its plan, and the formula that the plan turned the query into
pub record Start : Type 0 where
  pub plan : Plan
  pub formula : Formula

pub record State : Type 0 where
  pub names : Names
  -- the terms kept, each once
  pub terms : List Tree
  pub query : Option Formula
  pub start : Option Start
  -- whether a `final` was accepted
  pub closed : Bool

abbrev pub state : Names → List Tree → Option Formula → Option Start → Bool → State
state N ts q b c = record { names = N; terms = ts; query = q; start = b; closed = c }

abbrev pub fresh : State
fresh = state no_names [] none none false
