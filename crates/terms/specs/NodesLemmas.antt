-- Records: what the tree of a record depends on, and sameness, which is equality.
use Rattle.std.specs.Prelude.{◌≡◌, ℕ, ◌<◌, true, Decides, refl}
use Rattle.std.proofs.Common.{arith, sym, ap, ap₂, ◌∙◌}
use Rattle.std.specs.Cmp.{both_ways, IsEquivalence, IsPartialEquivalence, partial_equiv_from_equiv}
use Rattle.logic.specs.Tree.{Tree, leaf, known}
use Rattle.logic.proofs.Trees.{same_tree_true, same_tree_refl}
use Rattle.terms.specs.declared.records.Record.{Record}
use Rattle.terms.specs.declared.records.Record.TheVariants.{Leaf, Unary, Binary}
use Rattle.terms.specs.declared.records.Entry.{Entry}
use Rattle.terms.specs.Nodes.{node, after, same_record, same_entry}
use Rattle.terms.specs.HeadsLemmas.{leaf_head_injective, unary_head_injective, binary_head_injective}

-- the tree of a record depends on its operands' trees alone
pub node_agree : (f g : ℕ → Tree) (r : Record) → ((j : ℕ) → j < after r → f j ≡ g j) → node f r ≡ node g r
node_agree f g (Leaf x) h = refl
node_agree f g (Unary u a) h = rw (h a (omega arith))
node_agree f g (Binary u a b) h = rw (h a (omega arith), h b (omega arith))

-- the same tree over operands that their trees tell apart: the same record
pub node_injective : (f : ℕ → Tree) (r s : Record) → ((a b : ℕ) → a < after r → b < after s → f a ≡ f b → a ≡ b) → node f r ≡ node f s → r ≡ s
node_injective f (Leaf x) (Leaf y) h e = ap Leaf (leaf_head_injective x y (cc))
node_injective f (Unary u a) (Unary v c) h e = ap₂ Unary (unary_head_injective u v (cc)) (h a c (omega arith) (omega arith) (cc))
node_injective f (Binary u a b) (Binary v c d) h e =
    let head = binary_head_injective u v (cc) in
    let left = h a c (omega arith) (omega arith) (cc) in
    let right = h b d (omega arith) (omega arith) (cc) in
    cc
node_injective f r s h e = cc

pub same_record_true : (r s : Record) → same_record r s ≡ true → r ≡ s
same_record_true r s e = node_injective (λ i. leaf (known i)) r s (λ a b _ _ q. cc) (same_tree_true _ _ e)

pub same_record_refl : (r : Record) → same_record r r ≡ true
same_record_refl r = same_tree_refl _

pub decides_same : (r s : Record) → Decides (same_record r s) (r ≡ s)
decides_same r s = (same_record_true r s, λ e. ap (same_record r) (sym e) ∙ same_record_refl r)

pub same_reflexive : (x : Entry) → same_entry x x ≡ true
same_reflexive x = same_record_refl x.record

same_symm : (x y : Entry) → same_entry x y ≡ same_entry y x
same_symm x y = both_ways _ _ (λ e. (decides_same y.record x.record).1 (sym (same_record_true _ _ e))) (λ e. (decides_same x.record y.record).1 (sym (same_record_true _ _ e)))

same_congr : (x y z : Entry) → same_entry x y ≡ true → same_entry x z ≡ same_entry y z
same_congr x y z e = ap (λ r. same_record r z.record) (same_record_true _ _ e)

-- sameness of entries is an equivalence
pub same_equivalence : IsEquivalence same_entry
same_equivalence = record { refl = same_reflexive; symm = same_symm; congr = same_congr }

pub same_partial : IsPartialEquivalence same_entry
same_partial = partial_equiv_from_equiv same_equivalence
