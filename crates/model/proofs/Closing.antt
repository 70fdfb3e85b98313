-- What a fact of closed operands states is closed.
use Rattle.std.proofs.Common.{◌≡◌, ℕ, max, true, leb, List, [], ◌∷◌, refl}
use Rattle.std.proofs.Math.Nat.{max-le}
use Rattle.std.proofs.lemmas.Bool.{and_parts, leb-true, le-leb}
use Rattle.logic.specs.Syntax.{Formula, add, minus, lit, leq}
use Rattle.logic.specs.Tree.{Tree, number_tree, formula_tree}
use Rattle.logic.specs.Arithmetic.{Arithmetic}
use Rattle.logic.specs.Facts.{Fact, States, by_sum, by_atmost, by_above, by_cancel, by_swap, by_eqleq, by_leqtrans, by_pair}
use Rattle.logic.specs.Closed.{closed}
use Rattle.logic.proofs.Trees.{max_parts}
use Rattle.logic.proofs.ClosedKept.{open_number}
use Rattle.model.specs.Tests.{each, closed_fact}

both_closed : (m n : ℕ) → leb m 0 ≡ true → leb n 0 ≡ true → leb (max m n) 0 ≡ true
both_closed m n h k = le-leb _ _ (max-le (leb-true m 0 h) (leb-true n 0 k))

sides_closed : (m n : ℕ) → leb (max m n) 0 ≡ true → (leb m 0 ≡ true) × (leb n 0 ≡ true)
sides_closed m n h = let p = max_parts m n 0 (leb-true _ 0 h) in (le-leb m 0 p.0, le-leb n 0 p.1)

one_closed : (t : Tree) (l : List Tree) → each closed (t ∷ l) ≡ true → (closed t ≡ true) × (each closed l ≡ true)
one_closed t l h = and_parts (closed t) (each closed l) h

pub stated_closed : (A : Arithmetic) (f : Fact) (φ : Formula) → States A f φ → closed_fact f ≡ true → closed (formula_tree φ) ≡ true
stated_closed A f φ (by_sum ok) h = refl
stated_closed A f φ (by_atmost e) h = refl
stated_closed A f φ (by_above e) h = refl
stated_closed A f φ (by_cancel {a}) h = let p = one_closed (number_tree a) [] h in both_closed _ 0 (both_closed (open_number a) (open_number a) p.0 p.0) refl
stated_closed A f φ (by_swap {a} {b}) h =
    let p = one_closed (number_tree a) (number_tree b ∷ []) h in
    let q = one_closed (number_tree b) [] p.1 in
    both_closed _ _ (both_closed (open_number a) (open_number b) p.0 q.0) (both_closed (open_number b) (open_number a) q.0 p.0)
stated_closed A f φ (by_eqleq {a} {b}) h =
    let p = one_closed (number_tree a) (number_tree b ∷ []) h in
    let q = one_closed (number_tree b) [] p.1 in
    let ab = both_closed (open_number a) (open_number b) p.0 q.0 in
    both_closed _ _ ab ab
stated_closed A f φ (by_leqtrans {a} {b} {c}) h =
    let p = one_closed (number_tree a) (number_tree b ∷ number_tree c ∷ []) h in
    let q = one_closed (number_tree b) (number_tree c ∷ []) p.1 in
    let r = one_closed (number_tree c) [] q.1 in
    both_closed _ _ (both_closed (open_number a) (open_number b) p.0 q.0)
    (both_closed _ _ (both_closed (open_number b) (open_number c) q.0 r.0) (both_closed (open_number a) (open_number c) p.0 r.0))
stated_closed A f φ (by_pair {a} {b} {c} {m} {n} carries ok) h =
    let first = leq (add a b) (lit m) in
    let second = leq (add (minus a) c) (lit n) in
    let p = one_closed (formula_tree first) (formula_tree second ∷ []) h in
    let q = one_closed (formula_tree second) [] p.1 in
    let ab = sides_closed (max (open_number a) (open_number b)) 0 p.0 in
    let ac = sides_closed (max (open_number a) (open_number c)) 0 q.0 in
    let b_closed = (sides_closed (open_number a) (open_number b) ab.0).1 in
    let c_Closed = (sides_closed (open_number a) (open_number c) ac.0).1 in
    both_closed _ _ p.0 (both_closed _ _ q.0 (both_closed _ 0 (both_closed (open_number b) (open_number c) b_closed c_Closed) refl))
