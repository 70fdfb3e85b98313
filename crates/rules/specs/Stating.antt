-- The trees of the formulas that facts state, by those of their operands.
use Rattle.std.specs.Prelude.{ℤ, pos}
use Rattle.logic.specs.Syntax.{implication}
use Rattle.logic.specs.Tree.{Tree, leaf, unary, binary, lit, add, minus, neg, eq, leq, connect}

abbrev pub implies_tree : Tree → Tree → Tree
implies_tree φ ψ = binary (connect implication) φ ψ

-- a + -a = 0
abbrev pub cancel_tree : Tree → Tree
cancel_tree a = binary eq (binary add a (unary minus a)) (leaf (lit (pos 0)))

-- a + b = b + a
abbrev pub swap_tree : Tree → Tree → Tree
swap_tree a b = binary eq (binary add a b) (binary add b a)

-- a = b → a ≤ b
abbrev pub eqleq_tree : Tree → Tree → Tree
eqleq_tree a b = implies_tree (binary eq a b) (binary leq a b)

-- a ≤ b → b ≤ c → a ≤ c
abbrev pub leqtrans_tree : Tree → Tree → Tree → Tree
leqtrans_tree a b c = implies_tree (binary leq a b) (implies_tree (binary leq b c) (binary leq a c))

-- a + b = n
abbrev pub sum_tree : Tree → Tree → ℤ → Tree
sum_tree a b n = binary eq (binary add a b) (leaf (lit n))

-- ψ → b + c ≤ n
abbrev pub bound_tree : Tree → Tree → Tree → ℤ → Tree
bound_tree ψ b c n = implies_tree ψ (binary leq (binary add b c) (leaf (lit n)))

-- φ → ψ → b + c ≤ n
abbrev pub pair_tree : Tree → Tree → Tree → Tree → ℤ → Tree
pair_tree φ ψ b c n = implies_tree φ (bound_tree ψ b c n)

-- not a ≤ b
abbrev pub above_tree : Tree → Tree → Tree
above_tree a b = unary neg (binary leq a b)
