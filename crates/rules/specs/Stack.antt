-- The hypotheses on a stack.
use Rattle.std.specs.Prelude.{ℕ, zero, suc, List, [], ◌∷◌, slice_index}
use Rattle.std.proofs.Math.Option.{Option, none, some}
use Rattle.std.specs.declared.option.Option as std
use Rattle.logic.specs.Tree.{Tree}

-- the trees of the lowest cells, as many as the stack is high, the newest first
abbrev pub stacked : (ℕ → Tree) → List ℕ → ℕ → List Tree
stacked f cells zero = []
stacked f cells (suc h) = f (slice_index cells h) ∷ stacked f cells h

abbrev pub named : (ℕ → Tree) → std.Option ℕ → Option Tree
named f (std.TheVariants.Some i) = some (f i)
named f std.TheVariants.None = none
