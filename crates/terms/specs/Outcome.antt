-- A table of terms by what it means, and what a call that keeps a term does to it.
use Rattle.std.specs.Prelude.{◌≡◌, ℕ, ◌-◌, ◌^◌, ◌<◌, min, List, [], ◌∷◌, length, take, Result, IfOk, MatchResult}
use Rattle.logic.specs.Tree.{Tree, parts}
use Rattle.table.specs.Contents.{kept, places}
use Rattle.table.specs.declared.Full.{Full}
use Rattle.terms.specs.declared.records.Entry.{Entry}
use Rattle.terms.specs.declared.Terms.{Terms}
use Rattle.logic.specs.Keeping.{keep_each}
use Rattle.terms.specs.declared.records.Record.{Record}
use Rattle.terms.specs.Nodes.{node}
use Rattle.terms.specs.Meaning.{at, trees_of, tree_of}

abbrev pub entries : Terms → List Entry
entries T = kept T.table

-- how many terms are kept, and for how many there are places
abbrev pub count : Terms → ℕ
count T = length (entries T)

abbrev pub room : Terms → ℕ
room T = places T.table

-- the terms kept, in the order in which they came, and the one at an index
abbrev pub trees : Terms → List Tree
trees T = trees_of (entries T)

abbrev pub tree : Terms → ℕ → Tree
tree T i = tree_of (entries T) i

-- how many terms can be kept: their number has 32 bits
abbrev pub most : Terms → ℕ
most T = min (room T) (2 ^ 32 - 1)

-- new has the tree at index i, and beside the trees of old only the parts of it that were not there,
-- operands before heads, left to right
pub record Keeps (old new : List Entry) (root : Tree) (i : ℕ) : Type 0 where
  pub within : i < length new
  pub means : tree_of new i ≡ root
  pub kept_each : trees_of new ≡ keep_each (trees_of old) (parts root)

-- Ok: the index at which the tree is kept. Full: the terms kept and the tree's parts are more than can be kept.
-- Either way what was kept still stands in front.
pub record Did (old new : Terms) (root : Tree) (answer : Result ℕ Full) : Type 0 where
  pub same_room : room new ≡ room old
  pub front : take (count old) (entries new) ≡ entries old
  pub outcome : MatchResult answer (Keeps (entries old) (entries new) root) (λ _. most old < length (keep_each (trees old) (parts root)))

-- new keeps what old did, and beside it each of the trees that was not there
pub record Grew (old new : Terms) (more : List Tree) : Type 0 where
  pub same_room : room new ≡ room old
  pub front : take (count old) (entries new) ≡ entries old
  pub kept_each : trees new ≡ keep_each (trees old) more

-- the terms kept after each of the records was made, the first first
abbrev pub made_each : List Tree → List Record → List Tree
made_each ts [] = ts
made_each ts (r ∷ rs) = made_each (keep_each ts (parts (node (at ts) r))) rs

-- The same of a term from outside, which is refused also where an operand is not there or a limit is passed.
pub record Tried {E : Type 0} (old new : Terms) (root : Tree) (answer : Result ℕ E) : Type 0 where
  pub same_room : room new ≡ room old
  pub front : take (count old) (entries new) ≡ entries old
  pub outcome : IfOk answer (Keeps (entries old) (entries new) root)
