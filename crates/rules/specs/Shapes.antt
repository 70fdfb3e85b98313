-- What a fact reads off its operands.
use Rattle.std.specs.Prelude.{ℕ, ◌<◌, Bool, false, cond, ℤ, Some, None, Ok, Err, Option, Result}
use Rattle.logic.specs.Arithmetic.{Arithmetic}
use Rattle.logic.specs.Tree.{Leaf, Unary, Binary, Tree, leaf, unary, binary, same_tree}
use Rattle.arithmetic.specs.Literals.{literal_sum}
use Rattle.rules.specs.declared.refusal.Reason.{Reason}
use Rattle.rules.specs.declared.shapes.Bound.{Bound}

-- ---- literals

-- the number, if the term is a literal
abbrev pub literal : Tree → Option ℤ
literal (leaf (Leaf.lit n)) = Some n
literal t = None

-- ---- bounds

-- a + b ≤ n, by the trees of a and b
pub data Bounded : Type 0 where
  bound : Tree → Tree → ℤ → Bounded
  no_bound : Bounded

-- the sum that the term is, if it is one, bounded by the number
abbrev pub sum_within : Tree → Option ℤ → Bounded
sum_within (binary Binary.add a b) (Some n) = bound a b n
sum_within t o = no_bound

-- the bound that the term is, if it is one
abbrev pub bounded : Tree → Bounded
bounded (binary Binary.leq t u) = sum_within t (literal u)
bounded t = no_bound

-- the code's bound, over the terms at its indices, which are less than n
abbrev pub seen : (ℕ → Tree) → Option Bound → Bounded
seen f None = no_bound
seen f (Some x) = bound (f x.first) (f x.second) x.limit

abbrev pub SeenBelow : ℕ → Option Bound → Type 0
SeenBelow n None = Unit {0}
SeenBelow n (Some x) = (x.first < n) × (x.second < n)

-- ---- the sum of two literals, and their order

abbrev pub admitted : Option ℤ → Result ℤ Reason
admitted None = Err Reason.Unadmitted
admitted (Some n) = Ok n

-- the sum, or why there is none
abbrev pub total : Arithmetic → Option ℤ → Option ℤ → Result ℤ Reason
total A (Some m) (Some n) = admitted (literal_sum A m n)
total A o o' = Err Reason.Unfounded

-- whether the one is at most the other, or why that can't be told
abbrev pub compared : Arithmetic → Option ℤ → Option ℤ → Result Bool Reason
compared A (Some m) (Some n) = Ok (A.atmost m n)
compared A o o' = Err Reason.Unfounded

-- ---- the sum of two bounds

-- b + c ≤ n, by the trees of b and c, or why that does not follow
pub data Added : Type 0 where
  adds : Tree → Tree → ℤ → Added
  refuses : Reason → Added

-- the term is minus a
abbrev pub is_minus : Tree → Tree → Bool
is_minus (unary Unary.minus t) a = same_tree t a
is_minus t a = false

abbrev pub adds_admitted : Tree → Tree → Option ℤ → Added
adds_admitted b c None = refuses Reason.Unadmitted
adds_admitted b c (Some n) = adds b c n

abbrev pub adds_bounds : Arithmetic → Bounded → Bounded → Added
adds_bounds A (bound a b m) (bound x c n) = cond (is_minus x a) (adds_admitted b c (literal_sum A m n)) (refuses Reason.Unfounded)
adds_bounds A x y = refuses Reason.Unfounded

-- a + b ≤ m and -a + c ≤ n give b + c ≤ m + n, where sums are carried
abbrev pub added : Arithmetic → Bounded → Bounded → Added
added A x y = cond A.carries (adds_bounds A x y) (refuses Reason.Uncarried)

-- the code's answer, over the terms at its indices, which are less than n
abbrev pub added_seen : (ℕ → Tree) → Result Bound Reason → Added
added_seen f (Ok x) = adds (f x.first) (f x.second) x.limit
added_seen f (Err e) = refuses e

abbrev pub AddedBelow : ℕ → Result Bound Reason → Type 0
AddedBelow n (Ok x) = (x.first < n) × (x.second < n)
AddedBelow n (Err e) = Unit {0}

-- both numbers, if both terms are literals
abbrev pub literals : Option ℤ → Option ℤ → Result (ℤ × ℤ) Reason
literals (Some m) (Some n) = Ok (m, n)
literals o p = Err Reason.Unfounded
