-- Terms kept, each once.
use Rattle.std.specs.Prelude.{◌≡◌, Bool, true, false, cond, ◌||◌, List, [], ◌∷◌, ◌++◌}
use Rattle.logic.specs.Tree.{Tree, same_tree}

abbrev pub has : List Tree → Tree → Bool
has [] t = false
has (u ∷ ts) t = same_tree t u || has ts t

abbrev pub keep : List Tree → Tree → List Tree
keep ts t = cond (has ts t) ts (ts ++ (t ∷ []))

abbrev pub keep_each : List Tree → List Tree → List Tree
keep_each ts [] = ts
keep_each ts (t ∷ l) = keep_each (keep ts t) l

-- the first list has each of the second
abbrev pub HasEach : List Tree → List Tree → Type 0
HasEach ts [] = Unit {0}
HasEach ts (t ∷ l) = (has ts t ≡ true) × HasEach ts l
