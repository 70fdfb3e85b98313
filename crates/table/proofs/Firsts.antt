-- The place of the first entry that is the same is the first place at which the test passes.
use Rattle.std.proofs.Common.{◌≡◌, suc, Bool, true, false, cond, ◌||◌, List, [], ◌∷◌, length, Some, None, sym, refl, ap, ◌∙◌, arith}
use Rattle.std.specs.Prelude.{nat_lt}
use Rattle.std.specs.List.{position, position_or_len}
use Rattle.std.proofs.lemmas.List.Recursion.{is_position_or_len}
use Prim.Native.Nat.compare
use borrow.Author.Tests.{lt-ltb}
use lib.Dec.{is_le}
use Rattle.table.specs.Sameness.{has, before, first}

module _ {E : Type 0} (same : E → E → Bool) (e : E) where
  has_before : (l : List E) → has same l e ≡ nat_lt (before same l e) (length l)
  has_before [] = refl
  has_before (x ∷ l) =
      elim (same x e) as (λ b. b || has same l e ≡ nat_lt (cond b 0 (suc (before same l e))) (suc (length l))) [ true ↦ sym (lt-ltb 0 (suc (length l)) (omega arith)) | false ↦ has_before l ∙ sym (ap is_le (compare.suc-suc (suc (before same l e)) (length l))) ]

  before_is : (l : List E) → before same l e ≡ position_or_len (λ x. same x e) l
  before_is l = is_position_or_len (λ k. before same k e) (λ x. same x e) refl (λ x k. ap (cond (same x e) 0) (omega arith)) l

  pub first_is_position : (l : List E) → first same l e ≡ position (λ x. same x e) l
  first_is_position l =
      ap (λ b. cond b (Some (before same l e)) None) (has_before l) ∙ ap (λ n. cond (nat_lt n (length l)) (Some n) None) (before_is l)
