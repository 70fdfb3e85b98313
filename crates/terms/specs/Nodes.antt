-- Records by the trees that they make.
use Rattle.std.specs.Prelude.{ℕ, suc, max, Bool}
use Rattle.logic.specs.Tree.{Tree, leaf, unary, binary, known, same_tree}
use Rattle.terms.specs.declared.records.Record.{Record}
use Rattle.terms.specs.declared.records.Record.TheVariants.{Leaf, Unary, Binary}
use Rattle.terms.specs.declared.records.Entry.{Entry}
use Rattle.terms.specs.Heads.{leaf_head, unary_head, binary_head}

-- the tree that a record makes of its operands' trees
abbrev pub node : (ℕ → Tree) → Record → Tree
node f (Leaf x) = leaf (leaf_head x)
node f (Unary h a) = unary (unary_head h) (f a)
node f (Binary h a b) = binary (binary_head h) (f a) (f b)

-- the least place at which a record may stand: after its operands
abbrev pub after : Record → ℕ
after (Leaf x) = 0
after (Unary h a) = suc a
after (Binary h a b) = suc (max a b)

-- records are the same if they have the same head over the same indices
abbrev pub same_record : Record → Record → Bool
same_record r s = same_tree (node (λ i. leaf (known i)) r) (node (λ i. leaf (known i)) s)

abbrev pub same_entry : Entry → Entry → Bool
same_entry x y = same_record x.record y.record
