-- The trees of entries: appending keeps those of earlier places, distinct records have distinct trees, and the parts of each tree are there.
use Rattle.std.proofs.Common.{◌≡◌, ℕ, zero, suc, ◌+◌, ◌<◌, ◌≤◌, true, List, [], ◌∷◌, ◌++◌, length, sym, refl, ap, ◌∙◌, subst, arith}
use Rattle.std.proofs.lemmas.List.{length_push, get_or_push, get_or_append_left}
use Rattle.std.proofs.lemmas.Option.{slice_get-get_or}
use Rattle.logic.specs.Tree.{Tree, leaf, nil, parts}
use Rattle.table.specs.Sameness.{Stands}
use Rattle.table.proofs.Aparts.{at_most_one}
use Rattle.terms.specs.declared.records.Record.{Record}
use Rattle.terms.specs.declared.records.Record.TheVariants.{Leaf, Unary, Binary}
use Rattle.terms.specs.declared.records.Entry.{Entry}
use Rattle.terms.specs.Nodes.{node, after, same_entry}
use Rattle.logic.specs.Keeping.{has, HasEach}
use Rattle.terms.specs.Meaning.{at, entry, trees_after, trees_of, tree_of, Sound}
use Rattle.terms.specs.NodesLemmas.{node_agree, node_injective, decides_same, same_equivalence}
use Rattle.terms.proofs.Keepings.{has_at}
use Rattle.logic.proofs.Keepings.{has_each_append}

-- ---- the trees after others

after_append : (ts : List Tree) (es fs : List Entry) → trees_after ts (es ++ fs) ≡ trees_after (trees_after ts es) fs
unfolding trees_after
after_append ts [] fs = refl
after_append ts (e ∷ es) fs = after_append (ts ++ (node (at ts) e.record ∷ [])) es fs

after_length : (ts : List Tree) (es : List Entry) → length (trees_after ts es) ≡ length ts + length es
unfolding trees_after
after_length ts [] = omega arith
after_length ts (e ∷ es) =
    let t = node (at ts) e.record in
    omega (arith, after_length (ts ++ (t ∷ [])) es, length_push ts t)

after_front : (ts : List Tree) (es : List Entry) (k : ℕ) → k < length ts → at (trees_after ts es) k ≡ at ts k
unfolding trees_after
after_front ts [] k h = refl
after_front ts (e ∷ es) k h =
    let t = node (at ts) e.record in
    after_front (ts ++ (t ∷ [])) es k (omega (arith, length_push ts t)) ∙ get_or_append_left ts (t ∷ []) (leaf nil) k h

after_node : (ts : List Tree) (es : List Entry) (k : ℕ) → k < length es → after (entry es k).record ≤ length ts + k → at (trees_after ts es) (length ts + k) ≡ node (at (trees_after ts es)) (entry es k).record
unfolding trees_after
after_node ts [] k h a = absurd (omega arith)
after_node ts (e ∷ es) zero h a =
    let t = node (at ts) e.record in
    let us = ts ++ (t ∷ []) in
    let l = length_push ts t in
    ap (at (trees_after us es)) (omega arith)
    ∙ after_front us es (length ts) (omega arith)
    ∙ get_or_push ts t (leaf nil) (length ts) refl
    ∙ node_agree (at ts) (at (trees_after us es)) e.record (λ j b. sym (after_front us es j (omega arith) ∙ get_or_append_left ts (t ∷ []) (leaf nil) j (omega arith)))
after_node ts (e ∷ es) (suc k) h a =
    let t = node (at ts) e.record in
    let us = ts ++ (t ∷ []) in
    let l = length_push ts t in
    ap (at (trees_after us es)) (omega arith) ∙ after_node us es k (omega arith) (omega arith)

-- ---- the trees of entries

pub trees_length : (es : List Entry) → length (trees_of es) ≡ length es
unfolding trees_of
trees_length es = omega (arith, after_length [] es)

pub trees_push : (es : List Entry) (e : Entry) → trees_of (es ++ (e ∷ [])) ≡ trees_of es ++ (node (tree_of es) e.record ∷ [])
unfolding trees_of trees_after
trees_push es e = after_append [] es (e ∷ [])

-- appending keeps the meaning of earlier places
pub tree_front : (es fs : List Entry) (k : ℕ) → k < length es → tree_of (es ++ fs) k ≡ tree_of es k
unfolding trees_of
tree_front es fs k h =
    ap (λ ts. at ts k) (after_append [] es fs) ∙ after_front (trees_after [] es) fs k (omega (arith, after_length [] es))

-- the tree of a place is what its record makes of the trees of its operands
pub tree_node : (es : List Entry) → Sound es → (k : ℕ) → k < length es → tree_of es k ≡ node (tree_of es) (entry es k).record
unfolding trees_of
tree_node es s k h =
    let e = s.earlier k h in
    ap (at (trees_after [] es)) (omega arith) ∙ after_node [] es k h (omega arith)

pub tree_last : (es : List Entry) (e : Entry) → tree_of (es ++ (e ∷ [])) (length es) ≡ node (tree_of es) e.record
tree_last es e = ap (λ ts. at ts (length es)) (trees_push es e) ∙ get_or_push (trees_of es) (node (tree_of es) e.record) (leaf nil) (length es) (trees_length es)

-- ---- each once

pub stands_at : (es : List Entry) (e : Entry) (k : ℕ) → k < length es → (entry es k).record ≡ e.record → Stands same_entry es e k
stands_at es e k h q = (entry es k, slice_get-get_or es k _ h, (decides_same (entry es k).record e.record).1 q)

record_once : (es : List Entry) → Sound es → (j k : ℕ) → j < length es → k < length es → (entry es j).record ≡ (entry es k).record → j ≡ k
record_once es s j k a b e = at_most_one same_entry same_equivalence es s.once (entry es k) j k (stands_at es (entry es k) j a e) (stands_at es (entry es k) k b refl)

-- distinct places have distinct trees
pub tree_once : (es : List Entry) → Sound es → (n j k : ℕ) → j < n → k < n → j < length es → k < length es → tree_of es j ≡ tree_of es k → j ≡ k
tree_once es s zero j k p q a b e = absurd (omega arith)
tree_once es s (suc n) j k p q a b e =
    let x = s.earlier j a in
    let y = s.earlier k b in
    record_once es s j k a b
    (node_injective (tree_of es) (entry es j).record (entry es k).record
    (λ u v f g. tree_once es s n u v (omega arith) (omega arith) (omega arith) (omega arith))
    (sym (tree_node es s j a) ∙ e ∙ tree_node es s k b))

-- comparing indices compares terms
pub index_once : (es : List Entry) → Sound es → (j k : ℕ) → j < length es → k < length es → tree_of es j ≡ tree_of es k → j ≡ k
index_once es s j k a b e = tree_once es s (suc (j + k)) j k (omega arith) (omega arith) a b e

-- ---- all parts are there

-- the parts of a record's tree, if those of its operands' are
parts_made : (es : List Entry) (k : ℕ) → ((i : ℕ) → i < k → HasEach (trees_of es) (parts (tree_of es i))) → (r : Record) → after r ≤ k → has (trees_of es) (node (tree_of es) r) ≡ true → HasEach (trees_of es) (parts (node (tree_of es) r))
parts_made es k below (Leaf x) a e = (e, tt)
parts_made es k below (Unary u i) a e = has_each_append (trees_of es) (parts (tree_of es i)) _ (below i (omega arith)) (e, tt)
parts_made es k below (Binary u i j) a e =
    has_each_append (trees_of es) (parts (tree_of es i) ++ parts (tree_of es j)) _
    (has_each_append (trees_of es) (parts (tree_of es i)) (parts (tree_of es j)) (below i (omega arith)) (below j (omega arith)))
    (e, tt)

parts_of : (es : List Entry) → Sound es → (n k : ℕ) → k < n → k < length es → HasEach (trees_of es) (parts (tree_of es k))
parts_of es s zero k p h = absurd (omega arith)
parts_of es s (suc n) k p h =
    let e = tree_node es s k h in
    subst (λ t. HasEach (trees_of es) (parts t)) (sym e)
    (parts_made es k (λ i b. parts_of es s n i (omega arith) (omega arith)) (entry es k).record (s.earlier k h) (has_at (trees_of es) k _ (omega (arith, trees_length es)) e))

pub has_parts : (es : List Entry) → Sound es → (k : ℕ) → k < length es → HasEach (trees_of es) (parts (tree_of es k))
has_parts es s k h = parts_of es s (suc k) k (omega arith) h
