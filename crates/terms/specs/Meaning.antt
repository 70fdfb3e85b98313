-- What the entries of a table mean: each has a tree, made of the trees of earlier ones.
use Rattle.std.specs.Prelude.{◌≡◌, ℕ, ◌<◌, ◌≤◌, List, [], ◌∷◌, ◌++◌, length, slice_index_or}
use Rattle.logic.specs.Tree.{Tree, leaf, nil, size, open_indices, open_hypotheses, foralls, assumptions}
use Rattle.table.specs.Sameness.{Apart}
use Rattle.terms.specs.declared.records.Record.TheVariants.{Leaf}
use Rattle.terms.specs.declared.records.Leaf.TheVariants.{Nil}
use Rattle.terms.specs.declared.records.Entry.{Entry}
use Rattle.terms.specs.Nodes.{node, after, same_entry}

-- the tree and the entry at a place
abbrev pub at : List Tree → ℕ → Tree
at ts k = slice_index_or ts k (leaf nil)

abbrev pub entry : List Entry → ℕ → Entry
entry es k = slice_index_or es k (record { «record» = Leaf Nil; size = 1; indices = 0; hypotheses = 0; foralls = 0; assumptions = 0 })

-- the trees ts, and after them those of the entries, each made of the trees before it
unfoldable pub trees_after : List Tree → List Entry → List Tree
trees_after ts [] = ts
trees_after ts (e ∷ es) = trees_after (ts ++ (node (at ts) e.record ∷ [])) es

-- the trees of the entries, in order
unfoldable pub trees_of : List Entry → List Tree
trees_of es = trees_after [] es

abbrev pub tree_of : List Entry → ℕ → Tree
tree_of es k = at (trees_of es) k

-- no term that is kept is larger
abbrev pub largest : ℕ
largest = 20_000

-- the entry's measures are those of the tree
pub record Measures (t : Tree) (e : Entry) : Type 0 where
  pub size_is : e.size ≡ size t
  pub indices_is : e.indices ≡ open_indices t
  pub hypotheses_is : e.hypotheses ≡ open_hypotheses t
  pub foralls_is : e.foralls ≡ foralls t
  pub assumptions_is : e.assumptions ≡ assumptions t

-- operands stand earlier, no record stands twice, measures are right, and no term is too large
pub record Sound (es : List Entry) : Type 0 where
  pub earlier : (k : ℕ) → k < length es → after (entry es k).record ≤ k
  pub once : Apart same_entry es
  pub measured : (k : ℕ) → k < length es → Measures (tree_of es k) (entry es k)
  pub small : (k : ℕ) → k < length es → size (tree_of es k) ≤ largest
