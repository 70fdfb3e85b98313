-- Facts: what each states in an arithmetic, as a relation and as a function.
use Rattle.std.specs.Prelude.{◌≡◌, Bool, true, false, cond, ◌&&◌, ℤ, pos}
use Rattle.logic.specs.Syntax.{Number, Formula, lit, add, minus, measure, falsity, connect, neg, eq_things, relate, atom, forall, implies, eq_numbers, leq, same}
use Rattle.logic.specs.Arithmetic.{Arithmetic}
use Rattle.logic.specs.Tree.{formula_tree, literals_pass}

pub data Fact : Type 0 where
  sum : Number → Number → Fact
  atmost : Number → Number → Fact
  cancel : Number → Fact
  swap : Number → Number → Fact
  eqleq : Number → Number → Fact
  leqtrans : Number → Number → Number → Fact
  pair : Formula → Formula → Fact

-- the fact states the formula, in the arithmetic
pub data States (A : Arithmetic) : Fact → Formula → Type 0 where
  by_sum : {m n : ℤ} → A.admits (A.sum m n) ≡ true → States A (sum (lit m) (lit n)) (eq_numbers (add (lit m) (lit n)) (lit (A.sum m n)))
  by_atmost : {m n : ℤ} → A.atmost m n ≡ true → States A (atmost (lit m) (lit n)) (leq (lit m) (lit n))
  by_above : {m n : ℤ} → A.atmost m n ≡ false → States A (atmost (lit m) (lit n)) (neg (leq (lit m) (lit n)))
  by_cancel : {a : Number} → States A (cancel a) (eq_numbers (add a (minus a)) (lit (pos 0)))
  by_swap : {a b : Number} → States A (swap a b) (eq_numbers (add a b) (add b a))
  by_eqleq : {a b : Number} → States A (eqleq a b) (implies (eq_numbers a b) (leq a b))
  by_leqtrans : {a b c : Number} → States A (leqtrans a b c) (implies (leq a b) (implies (leq b c) (leq a c)))
  by_pair : {a b c : Number} {m n : ℤ} → A.carries ≡ true → A.admits (A.sum m n) ≡ true
      → States A (pair (leq (add a b) (lit m)) (leq (add (minus a) c) (lit n)))
      (implies (leq (add a b) (lit m)) (implies (leq (add (minus a) c) (lit n)) (leq (add b c) (lit (A.sum m n)))))

-- each literal of the formula is admitted
abbrev pub admitted : Arithmetic → Formula → Bool
admitted A φ = literals_pass A.admits (formula_tree φ)

-- ---- the facts as a function

-- the formula, or why there is none, the first reason first
pub data Stated : Type 0 where
  -- sums are not carried
  uncarried : Stated
  -- the operands are not of the fact's shape
  misshapen : Stated
  -- the sum is not admitted
  unadmitted : Stated
  formula : Formula → Stated

-- what follows of a literal
abbrev pub of_literal : Number → (ℤ → Stated) → Stated
of_literal (lit n) f = f n
of_literal (add a b) f = misshapen
of_literal (minus a) f = misshapen
of_literal (measure s l) f = misshapen

-- the two numbers of a sum, and the one of a minus
abbrev pub first : Number → Number
first (lit n) = lit n
first (add a b) = a
first (minus a) = a
first (measure s l) = measure s l

abbrev pub second : Number → Number
second (lit n) = lit n
second (add a b) = b
second (minus a) = minus a
second (measure s l) = measure s l

-- the two sides of a relation
abbrev pub lower : Formula → Number
lower falsity = lit (pos 0)
lower (connect c φ ψ) = lit (pos 0)
lower (neg φ) = lit (pos 0)
lower (eq_things t u) = lit (pos 0)
lower (relate r a b) = a
lower (atom s l) = lit (pos 0)
lower (forall φ) = lit (pos 0)

abbrev pub upper : Formula → Number
upper falsity = lit (pos 0)
upper (connect c φ ψ) = lit (pos 0)
upper (neg φ) = lit (pos 0)
upper (eq_things t u) = lit (pos 0)
upper (relate r a b) = b
upper (atom s l) = lit (pos 0)
upper (forall φ) = lit (pos 0)

-- φ is leq(add(a, b), m) and ψ is leq(add(minus(a), c), n)
abbrev pub are_bounds : Formula → Formula → ℤ → ℤ → Bool
are_bounds φ ψ m n = let a = first (lower φ) in same φ (leq (add a (second (lower φ))) (lit m)) && same ψ (leq (add (minus a) (second (lower ψ))) (lit n))

module _ (A : Arithmetic) where
  abbrev pub state : Fact → Stated
  state (sum a b) =
      of_literal a λ m. of_literal b λ n.
      cond (A.admits (A.sum m n)) (formula (eq_numbers (add a b) (lit (A.sum m n)))) unadmitted
  state (atmost a b) =
      of_literal a λ m. of_literal b λ n.
      formula (cond (A.atmost m n) (leq a b) (neg (leq a b)))
  state (cancel a) = formula (eq_numbers (add a (minus a)) (lit (pos 0)))
  state (swap a b) = formula (eq_numbers (add a b) (add b a))
  state (eqleq a b) = formula (implies (eq_numbers a b) (leq a b))
  state (leqtrans a b c) = formula (implies (leq a b) (implies (leq b c) (leq a c)))
  state (pair φ ψ) =
      cond A.carries (of_literal (upper φ) λ m. of_literal (upper ψ) λ n.
      cond (are_bounds φ ψ m n)
      (cond (A.admits (A.sum m n)) (formula (implies φ (implies ψ (leq (add (second (lower φ)) (second (lower ψ))) (lit (A.sum m n)))))) unadmitted)
      misshapen)
      uncarried
