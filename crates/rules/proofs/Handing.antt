-- What is known and what is on the stack, over a table that has grown.
use Rattle.std.proofs.Common.{◌≡◌, ℕ, ◌<◌, ◌≤◌, List, get_or, take, refl, ap, arith}
use mathlib.Core.Path.{fun_ext}
use mathlib.Core.Option.{some}
use Rattle.std.specs.declared.option.Option as std
use Rattle.logic.specs.Tree.{Tree}
use Rattle.terms.specs.declared.Terms.{Terms}
use Rattle.terms.specs.Outcome.{entries, count, tree}
use Rattle.rules.specs.Hypotheses.{made_at, IndexBelow, Handed}
use Rattle.rules.specs.Stack.{stacked, named}
use Rattle.rules.proofs.Stacks.{stacked_alike}
use Rattle.rules.proofs.Walking.{stands_later}

index_later : (m n : ℕ) (o : std.Option ℕ) → m ≤ n → IndexBelow m o → IndexBelow n o
index_later m n (std.TheVariants.Some i) l b = omega (arith, l, b)
index_later m n std.TheVariants.None l b = tt

named_later : (n : ℕ) (f g : ℕ → Tree) (o : std.Option ℕ) → ((i : ℕ) → i < n → g i ≡ f i) → IndexBelow n o → named g o ≡ named f o
named_later n f g (std.TheVariants.Some i) e b = ap some (e i b)
named_later n f g std.TheVariants.None e b = refl

module _ (known : List (std.Option ℕ)) (cells : List ℕ) (height : ℕ) where
  pub handed_later : (m n : ℕ) → m ≤ n → Handed m known cells height → Handed n known cells height
  handed_later m n l h = record {
    known_below = λ k. index_later m n (get_or known k std.TheVariants.None) l (h.known_below k);
    cells_below = λ j b. omega (arith, l, h.cells_below j b);
  }

  module _ (old new : Terms) (front : take (count old) (entries new) ≡ entries old) (h : Handed (count old) known cells height) where
    pub made_later : made_at (tree new) known ≡ made_at (tree old) known
    made_later = fun_ext (λ k. named_later (count old) (tree old) (tree new) (get_or known k std.TheVariants.None) (λ i l. (stands_later old new front i l).0) (h.known_below k))

    pub stacked_later : stacked (tree new) cells height ≡ stacked (tree old) cells height
    stacked_later = stacked_alike (tree new) (tree old) cells cells height (λ j l. (stands_later old new front (get_or cells j 0) (h.cells_below j l)).0)
