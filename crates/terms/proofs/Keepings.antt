-- Terms kept once, by their indices.
use Rattle.std.proofs.Common.{◌≡◌, ℕ, zero, suc, ◌<◌, true, List, [], ◌∷◌, length, sym, ap, ◌∙◌, inl, inr, arith}
use mathlib.Core.Bool.{false≢true}
use Rattle.std.proofs.lemmas.Bool.{or_cases, or_left, or_right}
use Rattle.logic.specs.Tree.{Tree, same_tree}
use Rattle.logic.specs.Keeping.{has}
use Rattle.logic.proofs.Trees.{same_tree_true, same_tree_refl}
use Rattle.terms.specs.Meaning.{at}

pub has_at : (l : List Tree) (k : ℕ) (t : Tree) → k < length l → at l k ≡ t → has l t ≡ true
has_at [] k t h e = absurd (omega arith)
has_at (u ∷ l) zero t h e = or_left (same_tree t u) (has l t) (ap (λ x. same_tree x u) (sym e) ∙ same_tree_refl u)
has_at (u ∷ l) (suc k) t h e = or_right (same_tree t u) (has l t) (has_at l k t (omega arith) e)

pub at_has : (l : List Tree) (t : Tree) → has l t ≡ true → (k : ℕ) × (k < length l) × (at l k ≡ t)
at_has [] t h = absurd (false≢true h)
at_has (u ∷ l) t h =
    elim (or_cases (same_tree t u) (has l t) h) [
      | inl e ↦ (0, omega arith, sym (same_tree_true t u e))
      | inr e ↦ let r = at_has l t e in (suc r.0, omega (arith, r.1), r.2)
    ]
