-- Substitution on trees, head by head: what changes nothing, sizes, and what the operands are asked.
use Rattle.std.proofs.Common.{◌≡◌, ℕ, suc, pred, max, ◌+◌, ◌*◌, ◌^◌, ◌<◌, ◌≤◌, Bool, true, false, cond, eqb, Ok, sym, refl, ap, ◌∙◌, ap₂, arith}
use mathlib.Core.Option.{Option, none, some}
use Rattle.std.proofs.lemmas.Bool.Decides.{nat_tests}
use Rattle.std.proofs.lemmas.Bool.{lt-ltb}
use Rattle.logic.specs.Tree.{Tree, Leaf, Unary, Binary, leaf, unary, binary, size, binds, variable, above, foralls, open_indices, raise_tree, under, put_index, put_tree, put_late, put_size_at, put_size}
use Rattle.logic.proofs.Trees.{put_late_is, raise_by_none, raise_size, put_tree_size, le_pred}
use Rattle.terms.specs.declared.Terms.{Terms}
use Rattle.terms.specs.Meaning.{largest}
use Rattle.terms.specs.Outcome.{count, tree, Did}
use Rattle.terms.proofs.Outcomes.{still_means, second_means}

-- ---- a term without an open index from d on

under_open : (b : Bool) (m d : ℕ) → cond b (pred m) m ≤ d → m ≤ cond b (suc d) d
under_open true m d h = le_pred m d h
under_open false m d h = h

put_index_closed : (d : ℕ) (t : Tree) (x : Leaf) (o : Option ℕ) → above o ≤ d → put_index d t x o ≡ leaf x
put_index_closed d t x none h = refl
put_index_closed d t x (some i) h = ap (λ b. cond b (leaf x) (cond (eqb i d) t (leaf (Leaf.var (pred i))))) (lt-ltb i d (omega arith))

pub put_late_closed : (d : ℕ) (t u : Tree) → open_indices u ≤ d → put_late d t u ≡ u
put_late_closed d t (leaf x) h = put_index_closed d (raise_tree d t) x (variable x) h
put_late_closed d t (unary u v) h = ap (unary u) (put_late_closed (under u d) t v (under_open (binds u) (open_indices v) d h))
put_late_closed d t (binary u v w) h = ap₂ (binary u) (put_late_closed d t v (omega arith)) (put_late_closed d t w (omega arith))

size_at_closed : (d n : ℕ) (o : Option ℕ) → above o ≤ d → put_size_at d n o ≡ 1
size_at_closed d n none h = refl
size_at_closed d n (some i) h = grind (arith, nat_tests)

pub put_size_closed : (d n : ℕ) (u : Tree) → open_indices u ≤ d → put_size d n u ≡ size u
put_size_closed d n (leaf x) h = size_at_closed d n (variable x) h
put_size_closed d n (unary u v) h = ap suc (put_size_closed (under u d) n v (under_open (binds u) (open_indices v) d h))
put_size_closed d n (binary u v w) h = omega (arith, put_size_closed d n v (omega arith), put_size_closed d n w (omega arith))

-- ---- the result's size

pub put_late_size : (d : ℕ) (t u : Tree) → size (put_late d t u) ≡ put_size d (size t) u
put_late_size d t u = ap size (put_late_is d t u) ∙ put_tree_size d (raise_tree d t) u ∙ ap (λ n. put_size d n u) (raise_size d t)

pub put_late_small : (d : ℕ) (t u : Tree) → put_size d (size t) u ≤ largest → size (put_late d t u) ≤ largest
put_late_small d t u h = omega (arith, put_late_size d t u)

size_at_bound : (d n : ℕ) (o : Option ℕ) → n ≤ largest → put_size_at d n o ≤ largest
size_at_bound d n none h = omega arith
size_at_bound d n (some i) h = grind (arith, nat_tests)

pub put_size_bound : (d n : ℕ) (u : Tree) → n ≤ largest → put_size d n u ≤ size u * largest
put_size_bound d n (leaf x) h = omega (arith, size_at_bound d n (variable x) h)
put_size_bound d n (unary u v) h = omega (arith, put_size_bound (under u d) n v h)
put_size_bound d n (binary u v w) h = omega (arith, put_size_bound d n v h, put_size_bound d n w h)

-- a 32-bit number holds it
pub put_size_fits : (d n : ℕ) (u v : Tree) → u ≡ v → size u ≤ largest → n ≤ largest → put_size d n v < 2 ^ 32
put_size_fits d n u v is s h = omega (arith, put_size_bound d n v h, ap size is)

-- ---- φ[t]

pub instance_is : (t u : Tree) → put_late 0 t u ≡ put_tree 0 t u
instance_is t u = put_late_is 0 t u ∙ ap (λ x. put_tree 0 x u) (raise_by_none t)

-- ---- the result by its head, the thing and the second operand read later

pub put_one : (d e : ℕ) (t u x : Tree) (h : Unary) → u ≡ unary h x → e ≡ under h d → put_late d t u ≡ unary h (put_late e t x)
put_one d e t u x h is at = ap (put_late d t) is ∙ ap (λ n. unary h (put_late n t x)) (sym at)

-- a head over two, the thing and the second operand read after a call for the first
module _ (old new : Terms) (x : Tree) (k : ℕ) (did : Did old new x (Ok k)) (i a b : ℕ) (h : Binary) (is : tree old i ≡ binary h (tree old a) (tree old b)) (early : suc (max a b) ≤ i) (within : i < count old) (j : ℕ) (there : j < count old) where
  same_thing : tree new j ≡ tree old j
  same_thing = still_means old new x k did j there

  same_second : tree new b ≡ tree old b
  same_second = second_means old new x k did i a b early within

  pub put_two : (d : ℕ) → put_late d (tree old j) (tree old i) ≡ binary h (put_late d (tree old j) (tree old a)) (put_late d (tree new j) (tree new b))
  put_two d = rw (is, same_thing, same_second)

  -- what substitution asks of it
  pub second_put : (d : ℕ) → foralls (tree old j) ≡ 0 → open_indices (tree old j) + (d + foralls (tree old i)) < 2 ^ 32 → put_size d (size (tree old j)) (tree old i) ≤ largest
      → (foralls (tree new j) ≡ 0) × ((open_indices (tree new j) + (d + foralls (tree new b)) < 2 ^ 32) × (put_size d (size (tree new j)) (tree new b) ≤ largest))
  second_put d u f g = rw (same_thing, same_second) (u, (omega (arith, ap foralls is), omega (arith, ap (put_size d (size (tree old j))) is)))

  pub second_smaller : size (tree new b) < size (tree old i)
  second_smaller = omega (arith, ap size is, ap size same_second)
