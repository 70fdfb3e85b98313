-- Comparing indices compares terms, since each is kept once.
use Rattle.std.proofs.Common.{◌≡◌, ℕ, ◌<◌, eqb, sym, ap, ◌∙◌}
use Rattle.std.specs.Cmp.{both_ways}
use Rattle.std.proofs.lemmas.Bool.{eqb-true, eq-eqb}
use Rattle.logic.specs.Tree.{same_tree}
use Rattle.logic.proofs.Trees.{same_tree_true, same_tree_refl}
use Rattle.terms.specs.declared.Terms.{Terms}
use Rattle.terms.specs.Outcome.{entries, count, tree}
use Rattle.terms.proofs.Meanings.{index_once}

pub same_by_index : (T : Terms) → (i j : ℕ) → i < count T → j < count T → eqb i j ≡ same_tree (tree T i) (tree T j)
same_by_index T i j l m =
    both_ways _ _
    (λ e. ap (λ k. same_tree (tree T i) (tree T k)) (sym (eqb-true i j e)) ∙ same_tree_refl (tree T i))
    (λ e. eq-eqb i j (index_once (entries T) T.sound i j l m (same_tree_true _ _ e)))
