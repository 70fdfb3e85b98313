-- Raising a thing, head by head.
use Rattle.std.proofs.Common.{◌≡◌, ℕ, suc, pred, max, ◌+◌, ◌^◌, ◌<◌, ◌≤◌, Bool, true, false, cond, Ok, sym, refl, ap, ◌∙◌, arith}
use Rattle.logic.specs.Tree.{Tree, Leaf, Binary, leaf, unary, binary, size, binds, variable, above, foralls, open_indices, raise_leaf, raise_tree}
use Rattle.logic.proofs.Trees.{raise_size}
use Rattle.terms.specs.declared.Terms.{Terms}
use Rattle.terms.specs.Meaning.{largest}
use Rattle.terms.specs.Outcome.{count, tree, Did}
use Rattle.terms.proofs.Outcomes.{second_means}

-- a head that stands in a term without `forall` binds nothing
pub binds_not : (b : Bool) (m n : ℕ) → cond b (suc m) m ≡ 0 → (m ≡ 0) × (cond b (pred n) n ≡ n)
binds_not true m n h = absurd (omega arith)
binds_not false m n h = (h, refl)

closed_leaf : (n : ℕ) (x : Leaf) → above (variable x) ≡ 0 → raise_leaf n x ≡ x
closed_leaf n (Leaf.var i) h = absurd (omega arith)
closed_leaf n x h = refl

-- a closed thing stays as it is
pub raise_closed : (n : ℕ) (t : Tree) → foralls t ≡ 0 → open_indices t ≡ 0 → raise_tree n t ≡ t
raise_closed n (leaf x) f h = ap leaf (closed_leaf n x h)
raise_closed n (unary u t) f h =
    let b = binds_not (binds u) (foralls t) (open_indices t) f in
    ap (unary u) (raise_closed n t b.0 (sym b.1 ∙ h))
raise_closed n (binary u t v) f h = rw (raise_closed n t (omega arith) (omega arith), raise_closed n v (omega arith) (omega arith))

pub raised_small : (n : ℕ) (t : Tree) → size t ≤ largest → size (raise_tree n t) ≤ largest
raised_small n t h = omega (arith, raise_size n t)

-- a head over two, the second operand read after a call for the first
module _ (old new : Terms) (x : Tree) (k : ℕ) (d : Did old new x (Ok k)) (i a b : ℕ) (h : Binary) (is : tree old i ≡ binary h (tree old a) (tree old b)) (early : suc (max a b) ≤ i) (within : i < count old) where
  pub raised_two : (n : ℕ) → raise_tree n (tree old i) ≡ binary h (raise_tree n (tree old a)) (raise_tree n (tree new b))
  raised_two n = let s = second_means old new x k d i a b early within in rw (is, s)

  -- what raising asks of it
  pub second_fits : (n : ℕ) → foralls (tree old i) ≡ 0 → open_indices (tree old i) + n < 2 ^ 32 → (foralls (tree new b) ≡ 0) × (open_indices (tree new b) + n < 2 ^ 32)
  second_fits n f g = let s = second_means old new x k d i a b early within in rw s (omega (arith, ap foralls is), omega (arith, ap open_indices is))
