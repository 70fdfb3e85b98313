-- Three ways to believe too much, shown wrong of the definitions: in each, a world tells the false belief from the truth.
use Rattle.std.specs.Prelude.{◌≡◌, ℕ, suc, true, false, [], ◌∷◌, pos, ◌==◌, slice_index, refl}
use Rattle.std.proofs.Common.{zero-le}
use Rattle.std.proofs.Math.Option.{Option, some}
use Rattle.logic.specs.Syntax.{Thing, Number, Formula, Plan, var, apply, nil, cons, lit, add, minus, measure, falsity, connect, neg, eq_things, relate, atom, forall, and, leq, implies}
use Rattle.logic.specs.Syntax.{id, step, fork, skip, skol, recnn, recand}
use Rattle.logic.specs.Substitution.{put_thing, put_things, put_number, instance_of}
use Rattle.logic.specs.Tree.{thing, formula_tree, stands}
use Rattle.logic.specs.Arithmetic.{Arithmetic}
use Rattle.logic.specs.Arithmetics.{counts}
use Rattle.logic.specs.World.{World, value, truth, Holds}
use Rattle.logic.specs.Facts.{admitted, pair, state, uncarried}
use Rattle.logic.specs.Plans.{turn, symbols, member, distinct}

-- a world over the counts with things 0 to n, each thing symbol 0, each number symbol 1, each predicate true of thing 0 alone
abbrev pub small_world : ℕ → World counts
small_world n = record {
  last = n;
  thing = λ s l. 0;
  thing_within = λ s l. zero-le;
  number = λ s l. pos 1;
  number_within = λ s l. refl;
  predicate = λ s l. (slice_index l 0 == 0);
}

-- ---- adding bounds over counts: a = b = c = 1, so that a + b ≤ 65,535 and −a + c ≤ 1 hold; their sum b + c ≤ 0 fails

abbrev a : Number
a = measure 1 nil

abbrev b : Number
b = measure 2 nil

abbrev c : Number
c = measure 3 nil

abbrev pub bound : Formula
bound = leq (add a b) (lit (pos 65535))

abbrev pub other_bound : Formula
other_bound = leq (add (minus a) c) (lit (pos 1))

abbrev pub carried_sum : Formula
carried_sum = leq (add b c) (lit (counts.sum (pos 65535) (pos 1)))

pub record BoundsOverCountsDoNotAdd : Type 0 where
  pub literals : admitted counts (implies bound (implies other_bound carried_sum)) ≡ true
  pub bound_holds : Holds (small_world 0) bound
  pub other_holds : Holds (small_world 0) other_bound
  pub sum_fails : truth (small_world 0) [] carried_sum ≡ false
  pub not_stated : state counts (pair bound other_bound) ≡ uncarried
  pub pair_fails : truth (small_world 0) [] (implies bound (implies other_bound carried_sum)) ≡ false

-- ---- not raising the inserted thing under an inner binder

-- index k replaced by t, t left as it is under a forall
abbrev pub put_unraised : ℕ → Thing → Formula → Formula
put_unraised k t falsity = falsity
put_unraised k t (connect h φ ψ) = connect h (put_unraised k t φ) (put_unraised k t ψ)
put_unraised k t (neg φ) = neg (put_unraised k t φ)
put_unraised k t (eq_things u v) = eq_things (put_thing k t u) (put_thing k t v)
put_unraised k t (relate h x y) = relate h (put_number k t x) (put_number k t y)
put_unraised k t (atom s l) = atom s (put_things k t l)
put_unraised k t (forall φ) = forall (put_unraised (suc k) t φ)

abbrev f : Thing → Thing
f t = apply 1 (cons t nil)

-- each thing is v0
abbrev pub all_alike : Formula
all_alike = forall (eq_things (var 1) (var 0))

-- for each x there is a y such that for each z, y = x
abbrev pub each_has_one : Formula
each_has_one = forall (neg (forall (neg (forall (eq_things (var 1) (var 2))))))

abbrev arity : ℕ → Option ℕ
arity s = some 1

pub record UnraisedSubstitutionIsWrong : Type 0 where
  -- of two things, with v0 for index 0 it says that each is itself, which is true; but not each is thing 0
  pub says_true : truth (small_world 1) (0 ∷ []) (put_unraised 0 (var 0) all_alike) ≡ true
  pub is_false : truth (small_world 1) (value (small_world 1) (0 ∷ []) (var 0) ∷ 0 ∷ []) all_alike ≡ false
  -- a Skolem term: f(v1) is right, f(v0) is captured
  pub raised : instance_of (neg (neg (forall (eq_things (var 1) (var 2))))) (f (var 0)) ≡ neg (neg (forall (eq_things (f (var 1)) (var 1))))
  pub captured : put_unraised 0 (f (var 0)) (neg (neg (forall (eq_things (var 1) (var 2))))) ≡ neg (neg (forall (eq_things (f (var 0)) (var 1))))
  -- the formula holds of two things, the plan yields the right one, and no world of two things has the other
  pub query_holds : Holds (small_world 1) each_has_one
  pub turned : turn arity 0 (step skip (step (skol 1) (step recnn id))) each_has_one ≡ some (forall (forall (eq_things (f (var 1)) (var 1))))
  pub captured_fails : (A : Arithmetic) (V : World A) → V.last ≡ 1 → truth V [] (forall (forall (eq_things (f (var 0)) (var 1)))) ≡ false

-- ---- counting a shared `skol` once: some thing is no p, and some thing is a p

abbrev p : Thing → Formula
p t = atom 1 (cons t nil)

abbrev pub mixed : Formula
mixed = and (neg (forall (p (var 0)))) (neg (forall (neg (p (var 0)))))

abbrev pub shared : Plan
shared = fork recand (step (skol 1) id) (step (skol 1) id)

abbrev constants : ℕ → Option ℕ
constants s = some 0

pub record SharedSkolemSymbolIsWrong : Type 0 where
  -- the symbol is the plan's only one, and new
  pub only_one : (s : ℕ) → member s (symbols shared) ≡ true → s ≡ 1
  pub new : stands thing 1 (formula_tree mixed) ≡ false
  pub query_holds : Holds (small_world 1) mixed
  -- what the plan yields holds in no world
  pub turned : turn constants 0 shared mixed ≡ some (and (neg (p (apply 1 nil))) (neg (neg (p (apply 1 nil)))))
  pub result_fails : (A : Arithmetic) (V : World A) → truth V [] (and (neg (p (apply 1 nil))) (neg (neg (p (apply 1 nil))))) ≡ false
  -- written out, the symbol stands twice
  pub twice : distinct (symbols shared) ≡ false
