-- What the walk over a proof is handed: what commands made known, and a stack of hypotheses, by their indices in the table.
use Rattle.std.specs.Prelude.{◌≡◌, ℕ, ◌<◌, List, length, slice_index, slice_index_or}
use Rattle.std.proofs.Math.Option.{Option}
use Rattle.std.specs.declared.option.Option as std
use Rattle.logic.specs.Tree.{Tree}
use Rattle.rules.specs.Stack.{named}

-- what command k made known
abbrev pub made_at : (ℕ → Tree) → List (std.Option ℕ) → ℕ → Option Tree
made_at f known k = named f (slice_index_or known k std.TheVariants.None)

abbrev pub IndexBelow : ℕ → std.Option ℕ → Type 0
IndexBelow n (std.TheVariants.Some i) = i < n
IndexBelow n std.TheVariants.None = Unit {0}

-- all that is known, and each cell below the height, is in the table
pub record Handed (n : ℕ) (known : List (std.Option ℕ)) (cells : List ℕ) (height : ℕ) : Type 0 where
  pub known_below : (k : ℕ) → IndexBelow n (slice_index_or known k std.TheVariants.None)
  pub cells_below : (j : ℕ) → j < height → slice_index cells j < n

-- the stack is as it was below its height, and as long
pub record StackKept (before after : List ℕ) (height : ℕ) : Type 0 where
  pub same_below : (j : ℕ) → j < height → slice_index after j ≡ slice_index before j
  pub same_length : length after ≡ length before
