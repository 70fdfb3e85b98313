-- What the call that keeps a draft answers, and what it does to the table.
use Rattle.std.specs.Prelude.{◌≡◌, ℕ, ◌<◌, ◌≤◌, length, take, Result, MatchResult}
use Rattle.logic.specs.Tree.{Tree, size, parts}
use Rattle.terms.specs.declared.Terms.{Terms}
use Rattle.logic.specs.Keeping.{keep_each}
use Rattle.terms.specs.Meaning.{largest}
use Rattle.terms.specs.Outcome.{entries, count, room, most, trees, Keeps}
use Rattle.rules.specs.declared.refusal.Reason.{Reason}

-- why the tree is not kept: it is too large, or with its parts there is no room for it
abbrev pub NotKept : Terms → Tree → Reason → Type 0
NotKept T root Reason.Oversized = largest < size root
NotKept T root Reason.Crowded = (size root ≤ largest) × (most T < length (keep_each (trees T) (parts root)))
NotKept T root reason = ⊥

-- the answer is the index of the tree, kept with its parts, or why it is not kept; either way what was kept still stands in front
pub record Stated (old new : Terms) (root : Tree) (answer : Result ℕ Reason) : Type 0 where
  pub same_room : room new ≡ room old
  pub front : take (count old) (entries new) ≡ entries old
  pub outcome : MatchResult answer (λ i. (size root ≤ largest) × Keeps (entries old) (entries new) root i) (NotKept old root)
