-- Worked examples, as questions with the answer that is expected: f is symbol 1 and takes one thing, g is symbol 2 and takes two, d is symbol 3 and takes none.
use Rattle.std.specs.Prelude.{◌≡◌, ℕ, Bool, true, false, cond, not, ◌&&◌, List, [], ◌∷◌, map, ℤ, pos, negsuc, ◌==◌}
use Rattle.std.proofs.Math.Option.{Option, none, some}
use Rattle.logic.specs.Syntax.{Thing, Number, Formula, Plan, Proof, var, apply, nil, cons, lit, add, minus, measure, atom, forall, neg, falsity, and, implies, eq_numbers, leq, same}
use Rattle.logic.specs.Syntax.{known, from, from_both, and1, and2, negelim, inst, id, step, fork, skip, skol, recnn, recand}
use Rattle.logic.specs.Arithmetics.{whole, counts}
use Rattle.logic.specs.Rules.{conclude}
use Rattle.logic.specs.Arithmetic.{Arithmetic}
use Rattle.logic.specs.Facts.{Fact, sum, pair, Stated, uncarried, misshapen, unadmitted, formula, state}
use Rattle.logic.specs.Plans.{turn, symbols, distinct}
use Rattle.logic.specs.Positions.{misfit_at}

abbrev pub arity : ℕ → Option ℕ
arity s = cond (s == 1) (some 1) (cond (s == 2) (some 2) (some 0))

pub data Numbers : Type 0 where
  whole_numbers counting : Numbers

abbrev pub arithmetic : Numbers → Arithmetic
arithmetic whole_numbers = whole
arithmetic counting = counts

pub data Question : Type 0 where
  -- the plan turns the first formula into the second
  turned : Plan → Formula → Formula → Question
  -- from the known formula the proof concludes the other; or does not fit, at the position
  concluded : Formula → Proof → Formula → Question
  unfit : Formula → Proof → ℕ → Question
  -- the fact states the formula; or nothing, since sums are not carried
  stated : Numbers → Fact → Formula → Question
  not_carried : Numbers → Fact → Question
  -- the number is no literal
  no_literal : Numbers → ℤ → Question
  -- a Skolem symbol stands twice in the written-out plan
  shared : Plan → Question

abbrev gives : Option Formula → Formula → Bool
gives none φ = false
gives (some ψ) φ = same ψ φ

abbrev says : Stated → Formula → Bool
says uncarried φ = false
says misshapen φ = false
says unadmitted φ = false
says (formula ψ) φ = same ψ φ

abbrev carries_none : Stated → Bool
carries_none uncarried = true
carries_none misshapen = false
carries_none unadmitted = false
carries_none (formula ψ) = false

-- the one known formula, whatever its number
abbrev pub only : Formula → ℕ → Option Formula
only φ k = some φ

-- the answer is the expected one
abbrev pub right : Question → Bool
right (turned plan φ ψ) = gives (turn arity 0 plan φ) ψ
right (concluded φ P ψ) = gives (conclude (only φ) [] P) ψ
right (unfit φ P k) = misfit_at (only φ) P == k
right (stated n fact ψ) = says (state (arithmetic n) fact) ψ
right (not_carried n fact) = carries_none (state (arithmetic n) fact)
right (no_literal n m) = not ((arithmetic n).admits m)
right (shared plan) = not (distinct (symbols plan))

abbrev q : Thing → Thing → Formula
q t u = atom 5 (cons t (cons u nil))

abbrev r : Thing → Thing → Thing → Formula
r t u v = atom 6 (cons t (cons u (cons v nil)))

abbrev p : Formula
p = atom 7 nil

abbrev f : Thing → Thing
f t = apply 1 (cons t nil)

abbrev g : Thing → Thing → Thing
g t u = apply 2 (cons t (cons u nil))

abbrev d : Thing
d = apply 3 nil

-- x is number symbol 1, y is 2, z is 3
abbrev number : ℕ → Number
number s = measure s nil

abbrev count : ℕ → Number
count n = lit (pos n)

-- x + y ≤ 5 and −x + z ≤ 7
abbrev bound_5 : Formula
bound_5 = leq (add (number 1) (number 2)) (count 5)

abbrev bound_7 : Formula
bound_7 = leq (add (minus (number 1)) (number 3)) (count 7)

-- p and not p
abbrev both : Formula
both = and p (neg p)

abbrev pub questions : List Question
questions =
    -- the first part of p and not p is refuted by the second; the two the other way round do not fit, at the fifth sub-proof
    concluded both (from_both negelim (from and2 (known 8)) (from and1 (known 8))) falsity
    ∷ unfit both (from_both negelim (from and1 (known 8)) (from and2 (known 8))) 5
    -- a Skolem symbol takes the scope's variables, the newest first
    ∷ turned (step skip (step (skol 1) id)) (forall (neg (forall (q (var 1) (var 0))))) (forall (neg (q (var 0) (f (var 0)))))
    ∷ turned (step skip (step skip (step (skol 2) id))) (forall (forall (neg (forall (r (var 2) (var 1) (var 0)))))) (forall (forall (neg (r (var 1) (var 0) (g (var 0) (var 1))))))
    -- f(v0) is raised to f(v1) under the inner forall
    ∷ turned (step skip (step (skol 1) (step recnn id))) (forall (neg (forall (neg (forall (r (var 2) (var 1) (var 0))))))) (forall (forall (r (var 1) (f (var 1)) (var 0))))
    ∷ concluded (forall (forall (q (var 1) (var 0)))) (inst d (known 1)) (forall (q d (var 0)))
    -- 65,535 + 1
    ∷ stated counting (sum (count 65535) (count 1)) (eq_numbers (add (count 65535) (count 1)) (count 0))
    ∷ stated whole_numbers (sum (count 65535) (count 1)) (eq_numbers (add (count 65535) (count 1)) (count 65536))
    ∷ no_literal counting (pos 65536)
    ∷ no_literal counting (negsuc 0)
    -- the bounds imply y + z ≤ 12; counts carry no sums
    ∷ stated whole_numbers (pair bound_5 bound_7) (implies bound_5 (implies bound_7 (leq (add (number 2) (number 3)) (count 12))))
    ∷ not_carried counting (pair bound_5 bound_7)
    -- one `skol` on both sides stands twice in the written-out plan
    ∷ shared (fork recand (step (skol 1) id) (step (skol 1) id))
    ∷ []

abbrev pub examples : List Bool
examples = map right questions

abbrev pub all : List Bool → Bool
all [] = true
all (b ∷ l) = b && all l

abbrev pub ExamplesComeOut : Type 0
ExamplesComeOut = all examples ≡ true
