-- Terms kept once, by their places.
use Rattle.std.proofs.Common.{◌≡◌, ℕ, zero, suc, true, List, [], ◌∷◌, sym, ap, subst, inl, inr}
use mathlib.Core.Bool.{false≢true}
use mathlib.Core.Option.{some, none-ne-some, some-injective}
use lib.ListN.{get_elem?}
use Rattle.std.proofs.lemmas.Bool.{or_left, or_right, or_cases}
use Rattle.logic.specs.Tree.{Tree, same_tree}
use Rattle.logic.specs.Keeping.{has}
use Rattle.logic.proofs.Trees.{same_tree_true, same_tree_refl}

-- the list has the term at some place
pub has_at : (ts : List Tree) (t : Tree) (i : ℕ) → get_elem? ts i ≡ some t → has ts t ≡ true
has_at [] t i h = absurd (none-ne-some t h)
has_at (u ∷ ts) t zero h = or_left _ _ (subst (λ x. same_tree t x ≡ true) (sym (some-injective u t h)) (same_tree_refl t))
has_at (u ∷ ts) t (suc i) h = or_right (same_tree t u) _ (has_at ts t i h)

pub has_place : (ts : List Tree) (t : Tree) → has ts t ≡ true → (i : ℕ) × (get_elem? ts i ≡ some t)
has_place [] t h = absurd (false≢true h)
has_place (u ∷ ts) t h =
    elim (or_cases (same_tree t u) (has ts t) h) [
      | inl e ↦ (zero, ap some (sym (same_tree_true t u e)))
      | inr e ↦ let r = has_place ts t e in (suc r.0, r.1)
    ]
