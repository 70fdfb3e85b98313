-- Keeping each entry of a list keeps their first appearances.
use Rattle.std.proofs.Common.{◌≡◌, ℕ, ◌≤◌, Bool, true, false, cond, ◌||◌, ltb, ◌⊎◌, List, [], ◌∷◌, ◌++◌, length, take, sym, refl, ap, ◌∙◌, inl, inr, arith}
use mathlib.Core.Bool.{false≢true}
use Rattle.std.proofs.lemmas.Bool.{cases_Bool, or_cases, or_parts, or_from, or_left, or_right, ltb-true, ltb-false}
use Rattle.std.proofs.lemmas.List.{append-nil, append_assoc, take_all, take-append-le, length-append}
use Rattle.std.specs.Cmp.{IsEquivalence}
use Rattle.table.specs.Sameness.{has, Apart}
use Rattle.table.specs.Keeping.{keep_each, keep_each_in}
use Rattle.table.specs.Theorems.{without, first_appearances, KeepsFirstAppearances}
use Rattle.table.proofs.Aparts.{differs}

module _ {E : Type 0} (same : E → E → Bool) where
  -- the entries of m that are the same as none of l
  abbrev pub minus : List E → List E → List E
  minus l [] = []
  minus l (y ∷ m) = cond (has same l y) (minus l m) (y ∷ minus l m)

  minus_none : (m : List E) → minus [] m ≡ m
  minus_none [] = refl
  minus_none (y ∷ m) = ap (λ r. y ∷ r) (minus_none m)

  has_last : (l : List E) (e y : E) → has same (l ++ e ∷ []) y ≡ (has same l y || same e y)
  has_last [] e y = elim (same e y) as (λ b. b || false ≡ false || b) [ true ↦ refl | false ↦ refl ]
  has_last (x ∷ l) e y =
      ap (λ b. same x y || b) (has_last l e y)
      ∙ elim (same x y) as (λ b. b || (has same l y || same e y) ≡ (b || has same l y) || same e y) [ true ↦ refl | false ↦ refl ]

  minus_last : (l : List E) (e : E) (m : List E) → minus (l ++ e ∷ []) m ≡ minus l (without same e m)
  minus_last l e [] = refl
  minus_last l e (y ∷ m) =
      rw (has_last l e y, minus_last l e m)
      (elim (cases_Bool (same e y)) [
        | inl t ↦ elim (cases_Bool (has same l y)) [ inl h ↦ rw (t, h) | inr n ↦ rw (t, n) ]
        | inr f ↦ elim (cases_Bool (has same l y)) [ inl h ↦ rw (f, h) | inr n ↦ rw (f, n) ]
      ])

  module _ (q : IsEquivalence same) where
    has_like : (l : List E) (e y : E) → has same l e ≡ true → same e y ≡ true → has same l y ≡ true
    has_like [] e y h t = absurd (false≢true h)
    has_like (x ∷ l) e y h t =
        elim (or_cases (same x e) (has same l e) h) [
          | inl u ↦ or_left (same x y) (has same l y) (q.congr x e y u ∙ t)
          | inr k ↦ or_right (same x y) (has same l y) (has_like l e y k t)
        ]

    minus_had : (l : List E) (e : E) → has same l e ≡ true → (m : List E) → minus l (without same e m) ≡ minus l m
    minus_had l e h [] = refl
    minus_had l e h (y ∷ m) =
        elim (cases_Bool (same e y)) [
          | inl t ↦ rw (t, has_like l e y h t) (minus_had l e h m)
          | inr f ↦ rw (f, minus_had l e h m)
        ]

    -- what is appended is what was not there, at its first appearance
    pub keep_each_is : (l es : List E) → keep_each same l es ≡ l ++ minus l (first_appearances same es)
    keep_each_is l [] = sym (append-nil l)
    keep_each_is l (e ∷ es) =
        elim (cases_Bool (has same l e)) [
          | inl h ↦ rw (h, minus_had l e h (first_appearances same es)) (keep_each_is l es)
          | inr f ↦ rw (f, keep_each_is (l ++ e ∷ []) es, minus_last l e (first_appearances same es), append_assoc)
        ]

    pub keep_each_empty : (es : List E) → keep_each same [] es ≡ first_appearances same es
    keep_each_empty es = keep_each_is [] es ∙ minus_none (first_appearances same es)

    -- ---- in a table of n places

    -- what a full table has stays in front
    front : (n : ℕ) (l k es : List E) → length l ≡ n → take n (keep_each same (l ++ k) es) ≡ l
    front n l k es full =
        let grown = length-append l k in
        ap (take n) (keep_each_is (l ++ k) es)
        ∙ take-append-le n (l ++ k) (minus (l ++ k) (first_appearances same es)) (omega arith)
        ∙ take-append-le n l k (omega arith)
        ∙ take_all n l (omega arith)

    pub keep_each_in_is : (n : ℕ) (l es : List E) → length l ≤ n → keep_each_in same n l es ≡ take n (keep_each same l es)
    keep_each_in_is n l [] fits = sym (take_all n l fits)
    keep_each_in_is n l (e ∷ es) fits =
        elim (cases_Bool (has same l e)) [
          | inl h ↦ rw h (keep_each_in_is n l es fits)
          | inr f ↦ elim (cases_Bool (ltb (length l) n)) [
            | inl t ↦
                let left = ltb-true (length l) n t in
                let grown = length-append l (e ∷ []) in
                rw (f, t) (keep_each_in_is n (l ++ e ∷ []) es (omega arith))
            | inr u ↦
                let none_left = ltb-false (length l) n u in
                let full : length l ≡ n = omega arith in
                rw (f, u, front n l (e ∷ []) es full) (keep_each_in_is n l es fits ∙ rw append-nil at (front n l [] es full))
          ]
        ]

    pub room_suffices : (n : ℕ) (l es : List E) → length (keep_each same l es) ≤ n → keep_each_in same n l es ≡ keep_each same l es
    room_suffices n l es room =
        let all = ap length (keep_each_is l es) in
        let grown = length-append l (minus l (first_appearances same es)) in
        keep_each_in_is n l es (omega arith) ∙ take_all n (keep_each same l es) room

    -- ---- first appearances are apart, and none is lost

    has_without_not : (x y : E) (m : List E) → has same m y ≡ false → has same (without same x m) y ≡ false
    has_without_not x y [] h = refl
    has_without_not x y (z ∷ m) h =
        let p = or_parts (same z y) (has same m y) h in
        let rest = has_without_not x y m p.1 in
        elim (same x z) as (λ b. has same (cond b (without same x m) (z ∷ without same x m)) y ≡ false)
        [ true ↦ rest | false ↦ or_from (same z y) (has same (without same x m) y) p.0 rest ]

    has_without_own : (x : E) (m : List E) → has same (without same x m) x ≡ false
    has_without_own x [] = refl
    has_without_own x (z ∷ m) =
        elim (cases_Bool (same x z)) [
          | inl t ↦ rw t (has_without_own x m)
          | inr f ↦ rw f (or_from (same z x) (has same (without same x m) x) (differs same q x z f) (has_without_own x m))
        ]

    apart_without : (x : E) (m : List E) → Apart same m → Apart same (without same x m)
    apart_without x [] a = tt
    apart_without x (z ∷ m) a =
        elim (same x z) as (λ b. Apart same (cond b (without same x m) (z ∷ without same x m)))
        [ true ↦ apart_without x m a.1 | false ↦ (has_without_not x z m a.0, apart_without x m a.1) ]

    pub apart_first_appearances : (es : List E) → Apart same (first_appearances same es)
    apart_first_appearances [] = tt
    apart_first_appearances (x ∷ es) =
        (has_without_own x (first_appearances same es), apart_without x (first_appearances same es) (apart_first_appearances es))

    has_without : (x e : E) → same x e ≡ false → (m : List E) → has same (without same x m) e ≡ has same m e
    has_without x e n [] = refl
    has_without x e n (z ∷ m) =
        elim (cases_Bool (same x z)) [
          | inl t ↦ rw (t, not_either (cases_Bool (same z e)) t) (has_without x e n m)
          | inr f ↦ rw (f, has_without x e n m)
        ]
      where
        not_either : (same z e ≡ true) ⊎ (same z e ≡ false) → same x z ≡ true → same z e ≡ false
        not_either (inl u) t = absurd (false≢true (sym n ∙ q.congr x z e t ∙ u))
        not_either (inr f) t = f

    pub has_first_appearances : (es : List E) (e : E) → has same (first_appearances same es) e ≡ has same es e
    has_first_appearances [] e = refl
    has_first_appearances (x ∷ es) e =
        elim (cases_Bool (same x e)) [
          | inl t ↦ or_left (same x e) (has same (without same x (first_appearances same es)) e) t ∙ sym (or_left (same x e) (has same es e) t)
          | inr f ↦ ap (λ b. same x e || b) (has_without x e f (first_appearances same es) ∙ has_first_appearances es e)
        ]

    pub keeps_first_appearances : KeepsFirstAppearances same
    keeps_first_appearances = record {
      with_room = λ n es room. in_places n es ∙ take_all n (first_appearances same es) room;
      in_places = in_places;
      apart = apart_first_appearances;
      complete = has_first_appearances;
    }
      where
        in_places : (n : ℕ) (es : List E) → keep_each_in same n [] es ≡ take n (first_appearances same es)
        in_places n es = keep_each_in_is n [] es (omega arith) ∙ ap (take n) (keep_each_empty es)
