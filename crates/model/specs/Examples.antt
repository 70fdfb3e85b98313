-- Worked examples of a session, as tests that compute, with those of the rules; and the accepted one as a refutation written out.
use Rattle.command.specs.declared.command.Command.{Command}
use Rattle.command.specs.declared.command.Item.{Item}
use Rattle.std.specs.Prelude.{◌≡◌, ℕ, suc, Bool, true, false, cond, not, ◌&&◌, List, [], ◌∷◌, ◌++◌, pos, negsuc, Some, ◌==◌}
use Rattle.std.proofs.Math.Option.{Option, none, some}
use Rattle.logic.specs.Syntax.{Formula, Proof, nil, atom, and, neg, same, known, from, from_both, and1, and2, negelim}
use Rattle.logic.specs.Syntax as Syntax
use Rattle.logic.specs.Tree.{predicate, formula_tree, things_tree, plan_tree, proof_tree}
use Rattle.logic.specs.Arithmetics.{whole, counts}
use Rattle.logic.specs.Examples as Rules
use Rattle.logic.specs.Examples.{all}
use Rattle.logic.specs.Facts.{atmost}
use Rattle.logic.specs.Plans.{symbols}
use Rattle.model.specs.Refusal.{number, Outcome, done, refused}
use Rattle.model.specs.Limits.{limits, Room}
use Rattle.model.specs.State.{Start, State, fresh, known_at}
use Rattle.model.specs.Commands.{plain, literal_of}
use Rattle.model.specs.Session.{step, after}
use Rattle.model.specs.Run.{Verdict, run}
use Rattle.model.specs.Written.{writes_symbol, writes_term, writes_deduction, Script, query_file, proof_file, WrittenOut, Fits}
use Rattle.model.specs.Writer.{Refutation, IsRefutation, write_out}

-- ---- items

-- one to a line
abbrev lines : ℕ → List Command → List Item
lines n [] = []
lines n (c ∷ l) = record { line = n; content = Some c } ∷ lines (suc n) l

abbrev pub room : Room
room = record { terms = 1_024; symbols = 256; commands = 2_000 }

-- ---- tests

abbrev verdict_is : Bool → ℕ → ℕ → ℕ → ℕ → Verdict → Bool
verdict_is ok file line r at v = cond ok v.accepted (not v.accepted) && v.file == file && v.line == line && v.refusal == r && v.position == at

abbrev refused_by : ℕ → Outcome State → Bool
refused_by r (done S) = false
refused_by r (refused x at) = number x == r

abbrev knows : Option Formula → Formula → Bool
knows none φ = false
knows (some ψ) φ = same ψ φ

-- begun with a plan that names one Skolem symbol s
abbrev begun_with : ℕ → Option Start → Bool
begun_with s none = false
begun_with s (some b) = only (symbols b.plan)
  where
    only : List ℕ → Bool
    only [] = false
    only (r ∷ []) = r == s
    only (r ∷ q ∷ l) = false

-- ---- sessions

-- q and not q; `negelim` with its premises in the order given
abbrev asks_both : List Command
asks_both = plain 3 0 0 ∷ plain 11 0 0 ∷ plain 13 1 2 ∷ plain 24 3 0 ∷ plain 22 3 4 ∷ plain 70 5 0 ∷ []

abbrev refutes_both : ℕ → ℕ → List Command
refutes_both a b = plain 30 0 0 ∷ plain 71 7 0 ∷ plain 41 8 0 ∷ plain 51 9 0 ∷ plain 50 9 0 ∷ plain 53 a b ∷ plain 75 12 0 ∷ []

abbrev runs : ℕ → ℕ → Verdict
runs a b = (run whole limits room fresh (lines 1 asks_both) (lines 1 (refutes_both a b))).verdict

-- neg(forall q(v0)) and neg(forall q(v0)): symbols 1 and 2, the conjunct 8, the query 9 or 8
abbrev not_all : List Command
not_all = plain 1 0 0 ∷ plain 3 1 0 ∷ plain 10 0 0 ∷ plain 11 0 0 ∷ plain 12 3 4 ∷ plain 13 2 5 ∷ plain 27 6 0 ∷ plain 24 7 0 ∷ []

-- `recand` of one `skol` and itself: the plan 13
abbrev shared_skolem : List Command
shared_skolem = not_all ++ (plain 22 8 8 ∷ plain 70 9 0 ∷ plain 30 0 0 ∷ plain 32 1 11 ∷ plain 33 12 12 ∷ [])

-- `skol` on neg(forall q(v0)): the query 9, the plan 11
abbrev one_skolem : List Command
one_skolem = not_all ++ (plain 70 8 0 ∷ plain 30 0 0 ∷ plain 32 1 10 ∷ plain 71 11 0 ∷ [])

-- x + y ≤ 5 and −x + z ≤ 7 in counts: symbols 1 to 3, the bounds 11 and 15
abbrev bounds : List Command
bounds =
    plain 2 0 0 ∷ plain 2 0 0 ∷ plain 2 0 0 ∷ plain 11 0 0 ∷ plain 13 1 4 ∷ plain 13 2 4 ∷ plain 13 3 4
    ∷ plain 15 5 6 ∷ literal_of (pos 5) ∷ literal_of (pos 7) ∷ plain 26 8 9 ∷ plain 16 5 0 ∷ plain 15 12 7 ∷ plain 11 0 0 ∷ plain 26 13 10
    ∷ plain 20 0 0 ∷ plain 70 16 0 ∷ []

-- ---- the accepted example, written out

abbrev q : Formula
q = atom 0 nil

abbrev q_and_not_q : Formula
q_and_not_q = and q (neg q)

abbrev contradiction : Proof
contradiction = from_both negelim (from and2 (known 8)) (from and1 (known 8))

abbrev one_below_two : Formula
one_below_two = Syntax.leq (Syntax.lit (pos 1)) (Syntax.lit (pos 2))

abbrev pub example : Script
example = record {
  query_lines =
      record { number = 1; command = plain 3 0 0; writes = writes_symbol (record { kind = predicate; arity = 0 }) }
      ∷ record { number = 2; command = plain 11 0 0; writes = writes_term (things_tree nil) }
      ∷ record { number = 3; command = plain 13 1 2; writes = writes_term (formula_tree q) }
      ∷ record { number = 4; command = plain 24 3 0; writes = writes_term (formula_tree (neg q)) }
      ∷ record { number = 5; command = plain 22 3 4; writes = writes_term (formula_tree q_and_not_q) }
      ∷ [];
  query_line = record { number = 6; command = plain 70 5 0 };
  plan_lines = record { number = 1; command = plain 30 0 0; writes = writes_deduction (plan_tree Syntax.id) } ∷ [];
  initial_line = record { number = 2; command = plain 71 7 0 };
  proof_lines =
      record { number = 3; command = plain 41 8 0; writes = writes_deduction (proof_tree (known 8)) }
      ∷ record { number = 4; command = plain 51 9 0; writes = writes_deduction (proof_tree (from and2 (known 8))) }
      ∷ record { number = 5; command = plain 50 9 0; writes = writes_deduction (proof_tree (from and1 (known 8))) }
      ∷ record { number = 6; command = plain 53 10 11; writes = writes_deduction (proof_tree contradiction) }
      ∷ [];
  final_line = record { number = 7; command = plain 75 12 0 };
  query = q_and_not_q;
  plan = Syntax.id;
  initial = q_and_not_q;
  proof = contradiction;
}

-- the same as trees: `known 0` is the initial formula
abbrev pub example_trees : Refutation
example_trees = record {
  symbols = record { kind = predicate; arity = 0 } ∷ [];
  query = q_and_not_q;
  plan = Syntax.id;
  initial = q_and_not_q;
  facts = [];
  proof = from_both negelim (from and2 (known 0)) (from and1 (known 0));
}

pub record ExampleStands : Type 0 where
  pub written_out : WrittenOut whole example
  pub fits : Fits limits room example
  pub is_refutation : IsRefutation whole example_trees
  pub writes_out : write_out example_trees ≡ example

-- 1 is not at most 2, refuted by a fact
abbrev order_trees : Refutation
order_trees = record {
  symbols = [];
  query = neg one_below_two;
  plan = Syntax.id;
  initial = neg one_below_two;
  facts = record { fact = atmost (Syntax.lit (pos 1)) (Syntax.lit (pos 2)); formula = one_below_two } ∷ [];
  proof = from_both negelim (known 0) (known 1);
}

-- ---- all of them

abbrev pub examples : List Bool
examples =
    verdict_is true 2 7 0 0 (runs 10 11)
    ∷ verdict_is false 2 7 9 5 (runs 11 10)
    ∷ refused_by 13 (step counts limits room fresh (literal_of (pos 65_536)))
    ∷ refused_by 13 (step counts limits room fresh (literal_of (negsuc 0)))
    ∷ refused_by 14 (step counts limits room (after counts limits room fresh bounds) (plain 66 11 15))
    ∷ refused_by 11 (step whole limits room (after whole limits room fresh shared_skolem) (plain 71 13 0))
    -- a formula is known, an initial formula with a Skolem symbol stands, and a `final` is accepted
    ∷ knows (known_at (after whole limits room fresh one_skolem).names 12) (neg (atom 1 (Syntax.cons (Syntax.apply 0 nil) nil)))
    ∷ begun_with 0 (after whole limits room fresh one_skolem).start
    ∷ (after whole limits room fresh (asks_both ++ refutes_both 10 11)).closed
    -- what is written out from trees is accepted
    ∷ verdict_is true 2 7 0 0 (run whole limits room fresh (query_file (write_out order_trees)) (proof_file (write_out order_trees))).verdict
    ∷ Rules.examples

abbrev pub ExamplesComeOut : Type 0
ExamplesComeOut = all examples ≡ true
