-- Entries that are apart: each has one place, and they stay apart as entries are appended or forgotten.
use Rattle.std.proofs.Common.{◌≡◌, ℕ, zero, suc, Bool, true, false, cond, ◌||◌, List, [], ◌∷◌, ◌++◌, length, take, Some, None, sym, refl, ap, ◌∙◌, inl, inr}
use mathlib.Core.Bool.{false≢true}
use Rattle.std.specs.List.{slice_get}
use Rattle.std.proofs.lemmas.Bool.{cases_Bool, or_parts, or_from, or_left, or_right}
use Rattle.std.specs.Cmp.{IsEquivalence}
use Rattle.table.specs.Sameness.{has, before, first, Apart, Stands, FirstIsTheOne}

module _ {E : Type 0} (same : E → E → Bool) where
  pub has_at : (l : List E) (i : ℕ) (x e : E) → slice_get l i ≡ Some x → same x e ≡ true → has same l e ≡ true
  has_at [] i x e at t = cc
  has_at (y ∷ l) zero x e at t = or_left (same y e) (has same l e) (cc)
  has_at (y ∷ l) (suc i) x e at t = or_right (same y e) (has same l e) (has_at l i x e at t)

  pub stands_first : (l : List E) (e : E) → has same l e ≡ true → Stands same l e (before same l e)
  stands_first [] e h = absurd (false≢true h)
  stands_first (x ∷ l) e h =
      elim (same x e) as (λ b. b || has same l e ≡ true → same x e ≡ b → Stands same (x ∷ l) e (cond b 0 (suc (before same l e))))
      [ true ↦ λ _ t. (x, refl, t) | false ↦ λ k _. stands_first l e k ] h refl

  pub first_stands : (l : List E) (e : E) (i : ℕ) → first same l e ≡ Some i → Stands same l e i
  first_stands l e i h =
      elim (cases_Bool (has same l e)) [
        | inl t ↦
            let at = rw t at h in
            let place : before same l e ≡ i = cc in
            rw (← place) (stands_first l e t)
        | inr f ↦
            let at = rw f at h in
            cc
      ]

  pub stands_last : (l : List E) (e : E) → same e e ≡ true → Stands same (l ++ e ∷ []) e (length l)
  stands_last [] e t = (e, refl, t)
  stands_last (x ∷ l) e t = stands_last l e t

  has_take : (n : ℕ) (l : List E) (e : E) → has same l e ≡ false → has same (take n l) e ≡ false
  has_take zero l e h = refl
  has_take (suc n) [] e h = refl
  has_take (suc n) (x ∷ l) e h =
      let p = or_parts (same x e) (has same l e) h in
      or_from (same x e) (has same (take n l) e) p.0 (has_take n l e p.1)

  pub apart_take : (n : ℕ) (l : List E) → Apart same l → Apart same (take n l)
  apart_take zero l a = tt
  apart_take (suc n) [] a = tt
  apart_take (suc n) (x ∷ l) a = (has_take n l x a.0, apart_take n l a.1)

  module _ (q : IsEquivalence same) where
    pub differs : (x y : E) → same x y ≡ false → same y x ≡ false
    differs x y no_xy = sym (q.symm x y) ∙ no_xy

    has_last_not : (l : List E) (e x : E) → has same l x ≡ false → same e x ≡ false → has same (l ++ e ∷ []) x ≡ false
    has_last_not [] e x h n = or_from (same e x) false n refl
    has_last_not (y ∷ l) e x h n =
        let p = or_parts (same y x) (has same l x) h in
        or_from (same y x) (has same (l ++ e ∷ []) x) p.0 (has_last_not l e x p.1 n)

    pub apart_append : (l : List E) (e : E) → has same l e ≡ false → Apart same l → Apart same (l ++ e ∷ [])
    apart_append [] e h a = (refl, tt)
    apart_append (x ∷ l) e h a =
        let p = or_parts (same x e) (has same l e) h in
        (has_last_not l e x a.0 (differs x e p.0), apart_append l e p.1 a.1)

    -- where entries are apart, the one that is the same as e is the first
    pub only_first : (l : List E) → Apart same l → (e : E) (i : ℕ) → Stands same l e i → first same l e ≡ Some i
    only_first l a e i s = ap (λ b. cond b (Some (before same l e)) None) (has_at l i s.0 e s.1 s.2) ∙ ap Some (place l a i s)
      where
        place : (l : List E) → Apart same l → (i : ℕ) → Stands same l e i → before same l e ≡ i
        place [] a i s = cc
        place (x ∷ l) a zero s =
            let here : same x e ≡ true = cc in
            ap (λ b. cond b 0 (suc (before same l e))) here
        place (x ∷ l) a (suc i) s =
            elim (cases_Bool (same x e)) [
              | inl t ↦ absurd (false≢true (sym a.0 ∙ has_at l i s.0 x s.1 (q.congr s.0 e x s.2 ∙ sym (q.symm x e) ∙ t)))
              | inr f ↦ ap (λ b. cond b 0 (suc (before same l e))) f ∙ ap suc (place l a.1 i s)
            ]

    pub at_most_one : (l : List E) → Apart same l → (e : E) (i j : ℕ) → Stands same l e i → Stands same l e j → i ≡ j
    at_most_one l a e i j s t =
        let p = only_first l a e i s in
        let r = only_first l a e j t in
        cc

    pub own_place : (l : List E) → Apart same l → (e : E) (i : ℕ) → slice_get l i ≡ Some e → first same l e ≡ Some i
    own_place l a e i at = only_first l a e i (e, at, q.refl e)

    pub first_is_the_one : FirstIsTheOne same
    first_is_the_one = record { stands = first_stands; only = only_first; at_most_one = at_most_one; own_place = own_place }
