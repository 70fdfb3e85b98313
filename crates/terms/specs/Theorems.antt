-- What holds of every table of terms.
use Rattle.std.specs.Prelude.{◌≡◌, ℕ, ◌^◌, ◌<◌, List, ◌++◌, length, take, is_err, Result, nat_lt}
use Rattle.logic.specs.Tree.{Tree, parts, operands}
use Rattle.logic.specs.Terms.{Term, term_tree}
use Rattle.table.specs.declared.Full.{Full}
use Rattle.terms.specs.declared.Terms.{Terms}
use Rattle.terms.specs.declared.records.Entry.{Entry}
use Rattle.terms.specs.Nodes.{node}
use Rattle.logic.specs.Keeping.{keep_each, HasEach}
use Rattle.terms.specs.Meaning.{entry, trees_of, tree_of}
use Rattle.terms.specs.Outcome.{count, room, most, trees, tree, entries, Did}
use Rattle.terms.specs.Classes.{tree_class, term_class}

-- Each kept term stands under one index, and with it all its parts.
pub record KeptOnce : Type 0 where
  pub distinct : (T : Terms) → (i j : ℕ) → i < count T → j < count T → tree T i ≡ tree T j → i ≡ j
  pub complete : (T : Terms) → (i : ℕ) → i < count T → HasEach (trees T) (parts (tree T i))
  pub operands_kept : (T : Terms) → (i : ℕ) → i < count T → HasEach (trees T) (operands (tree T i))

-- A term is made by its record from the terms at its operands, and appending entries changes no term.
pub record MeaningsLast : Type 0 where
  pub by_record : (T : Terms) → (i : ℕ) → i < count T → tree T i ≡ node (tree T) (entry (entries T) i).record
  pub as_many : (es : List Entry) → length (trees_of es) ≡ length es
  pub appended : (es more : List Entry) (i : ℕ) → i < length es → tree_of (es ++ more) i ≡ tree_of es i

-- The class by the head is that of the typed term.
abbrev pub ClassByHead : Type 0
ClassByHead = (x : Term) → tree_class (term_tree x) ≡ term_class x

-- A call that keeps a tree is refused exactly when the terms kept and the tree's parts are more than can be kept,
-- and cutting the table back to its old length gives back the old terms.
pub record RefusedForWantOfRoom : Type 0 where
  pub exactly : (old new : Terms) (root : Tree) (answer : Result ℕ Full) → Did old new root answer → is_err answer ≡ nat_lt (most old) (length (keep_each (trees old) (parts root)))
  -- which is what there is room for, where the room has 32 bits
  pub most_is_room : (T : Terms) → room T < 2 ^ 32 → most T ≡ room T
  pub given_back : (old new : Terms) (root : Tree) (answer : Result ℕ Full) → Did old new root answer → take (count old) (trees new) ≡ trees old
