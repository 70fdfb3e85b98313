-- Refusals, each with its number and its meaning; and what a test or a command ends in.
use Rattle.std.specs.Prelude.{ℕ, Bool, true, false, ◌&&◌, ◌||◌, ◌==◌, nat_le}
use Rattle.std.proofs.Math.Option.{Option, none, some}

pub data Refusal : Type 0 where
  -- no command has the code, or the line is spoiled
  unknown : Refusal
  -- the query's file ends without `query`, or the proof's without acceptance
  unfinished : Refusal
  -- the command is not taken at this stage
  untimely : Refusal
  -- an operand names no result of its class
  unnamed : Refusal
  -- a symbol of too many arguments, or a list that is not as long as the symbol asks
  miscounted : Refusal
  -- an index is open, or a hypothesis, where none may be
  unclosed : Refusal
  -- a size, a nesting or an index is over its limit; at opening, more records than the limits allow
  oversized : Refusal
  -- more distinct terms, symbols or commands than there are records
  crowded : Refusal
  -- the rule concludes nothing from its premises, or a fact's operands are not of its shape
  unfounded : Refusal
  -- the plan does not fit the query
  unfit : Refusal
  -- a Skolem symbol stands in the query, or twice in the written-out plan
  stale : Refusal
  -- the two formulas differ
  different : Refusal
  -- a literal is not admitted
  unadmitted : Refusal
  -- sums are not carried
  uncarried : Refusal
  -- the conclusion is not falsity
  unrefuted : Refusal

abbrev pub number : Refusal → ℕ
number unknown = 1
number unfinished = 2
number untimely = 3
number unnamed = 4
number miscounted = 5
number unclosed = 6
number oversized = 7
number crowded = 8
number unfounded = 9
number unfit = 10
number stale = 11
number different = 12
number unadmitted = 13
number uncarried = 14
number unrefuted = 15

-- Where a refusal may name a position: `let`, `same`, `shows` and `final` name the sub-proof that is oversized, crowded or unfounded, and
-- `initial` the position of the plan that is unfit. Every other position is 0.
abbrev pub positioned : ℕ → Refusal → Bool
positioned code r = (nat_le 72 code && nat_le code 75 && nat_le 7 (number r) && nat_le (number r) 9) || (code == 71 && number r == 10)

-- ---- outcomes

-- a value, or a refusal with a position
pub data Outcome (X : Type 0) : Type 0 where
  done : X → Outcome X
  refused : Refusal → ℕ → Outcome X

module _ {X Y : Type 0} where
  infixl 10 ◌>>=◌
  infixl 10 ◌>>◌
  abbrev pub ◌>>=◌ : Outcome X → (X → Outcome Y) → Outcome Y
  done x >>= f = f x
  refused r at >>= f = refused r at

  abbrev pub ◌>>◌ : Outcome X → Outcome Y → Outcome Y
  o >> p = o >>= (λ x. p)

-- the refusal at the position, unless the test passes
abbrev pub require_at : ℕ → Refusal → Bool → Outcome (Unit {0})
require_at at r true = done tt
require_at at r false = refused r at

abbrev pub require : Refusal → Bool → Outcome (Unit {0})
require r b = require_at 0 r b

-- the refusal, unless there is a value
abbrev pub need : {X : Type 0} → Refusal → Option X → Outcome X
need r none = refused r 0
need r (some x) = done x
