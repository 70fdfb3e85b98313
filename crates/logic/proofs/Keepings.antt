-- Terms kept once: keeping what is there changes nothing, and what was there stays, in front.
use Rattle.std.proofs.Common.{◌≡◌, ℕ, ◌≤◌, true, false, cond, ◌⊎◌, List, [], ◌∷◌, ◌++◌, length, sym, refl, ap, ◌∙◌, inl, inr, arith}
use mathlib.Core.Bool.{false≢true}
use Rattle.std.proofs.lemmas.Bool.{cases_Bool, or_cases, or_left, or_right}
use Rattle.std.proofs.lemmas.List.{append_assoc, append-nil, length-append}
use Rattle.logic.specs.Tree.{Tree, leaf, unary, binary, same_tree, operands, parts}
use Rattle.logic.specs.Keeping.{has, keep, keep_each, HasEach}
use Rattle.logic.proofs.Trees.{same_tree_true, same_tree_refl}

pub has_front : (l m : List Tree) (t : Tree) → has l t ≡ true → has (l ++ m) t ≡ true
has_front [] m t h = absurd (false≢true h)
has_front (u ∷ l) m t h =
    elim (or_cases (same_tree t u) (has l t) h) [
      | inl e ↦ or_left (same_tree t u) (has (l ++ m) t) e
      | inr e ↦ or_right (same_tree t u) (has (l ++ m) t) (has_front l m t e)
    ]

pub has_last : (l : List Tree) (t : Tree) → has (l ++ (t ∷ [])) t ≡ true
has_last [] t = or_left (same_tree t t) false (same_tree_refl t)
has_last (u ∷ l) t = or_right (same_tree t u) (has (l ++ (t ∷ [])) t) (has_last l t)

-- what is there with one more term at the end is that term or was there
pub last_or_had : (l : List Tree) (t u : Tree) → has (l ++ (t ∷ [])) u ≡ true → (u ≡ t) ⊎ (has l u ≡ true)
last_or_had [] t u h = elim (or_cases (same_tree u t) false h) [ inl e ↦ inl (same_tree_true u t e) | inr e ↦ absurd (false≢true e) ]
last_or_had (x ∷ l) t u h =
    elim (or_cases (same_tree u x) (has (l ++ (t ∷ [])) u) h) [
      | inl e ↦ inr (or_left (same_tree u x) (has l u) e)
      | inr e ↦ elim (last_or_had l t u e) [ inl i ↦ inl i | inr j ↦ inr (or_right (same_tree u x) (has l u) j) ]
    ]

pub has_each_more : (l m q : List Tree) → ((t : Tree) → has l t ≡ true → has m t ≡ true) → HasEach l q → HasEach m q
has_each_more l m [] more h = tt
has_each_more l m (t ∷ q) more h = (more t h.0, has_each_more l m q more h.1)

-- ---- keeping one

pub keep_had : (l : List Tree) (t : Tree) → has l t ≡ true → keep l t ≡ l
keep_had l t h = ap (λ b. cond b l (l ++ (t ∷ []))) h

pub keep_new : (l : List Tree) (t : Tree) → has l t ≡ false → keep l t ≡ l ++ (t ∷ [])
keep_new l t h = ap (λ b. cond b l (l ++ (t ∷ []))) h

-- what is kept begins with what was kept
pub keep_more : (l : List Tree) (t : Tree) → (m : List Tree) × (keep l t ≡ l ++ m)
keep_more l t = elim (cases_Bool (has l t)) [ inl h ↦ ([], keep_had l t h ∙ sym (append-nil l)) | inr h ↦ (t ∷ [], keep_new l t h) ]

pub kept_has : (l : List Tree) (t : Tree) → has (keep l t) t ≡ true
kept_has l t = elim (cases_Bool (has l t)) [ inl h ↦ ap (λ m. has m t) (keep_had l t h) ∙ h | inr h ↦ ap (λ m. has m t) (keep_new l t h) ∙ has_last l t ]

-- ---- keeping each

pub keep_each_append : (l p q : List Tree) → keep_each l (p ++ q) ≡ keep_each (keep_each l p) q
keep_each_append l [] q = refl
keep_each_append l (t ∷ p) q = keep_each_append (keep l t) p q

pub keep_each_more : (l p : List Tree) → (m : List Tree) × (keep_each l p ≡ l ++ m)
keep_each_more l [] = ([], sym (append-nil l))
keep_each_more l (t ∷ p) =
    let one = keep_more l t in
    let rest = keep_each_more (keep l t) p in
    (one.0 ++ rest.0, rest.1 ∙ ap (λ k. k ++ rest.0) one.1 ∙ append_assoc l one.0 rest.0)

pub has_keep_each : (l p : List Tree) (t : Tree) → has l t ≡ true → has (keep_each l p) t ≡ true
has_keep_each l p t h = let m = keep_each_more l p in ap (λ k. has k t) m.1 ∙ has_front l m.0 t h

pub kept_has_each : (l p : List Tree) → HasEach (keep_each l p) p
kept_has_each l [] = tt
kept_has_each l (t ∷ p) = (has_keep_each (keep l t) p t (kept_has l t), kept_has_each (keep l t) p)

pub keep_each_had : (l p : List Tree) → HasEach l p → keep_each l p ≡ l
keep_each_had l [] h = refl
keep_each_had l (t ∷ p) h = ap (λ k. keep_each k p) (keep_had l t h.0) ∙ keep_each_had l p h.1

pub has_each_append : (l p q : List Tree) → HasEach l p → HasEach l q → HasEach l (p ++ q)
has_each_append l [] q h k = k
has_each_append l (t ∷ p) q h k = (h.0, has_each_append l p q h.1 k)

pub length_keep_each : (l p : List Tree) → length l ≤ length (keep_each l p)
length_keep_each l p = let m = keep_each_more l p in omega (arith, ap length m.1, length-append l m.0)

-- only the head is new where the operands are there
pub keep_last : (l p : List Tree) (t : Tree) → HasEach l p → keep_each l (p ++ (t ∷ [])) ≡ keep l t
keep_last l p t h = keep_each_append l p (t ∷ []) ∙ ap (λ k. keep k t) (keep_each_had l p h)

-- the parts of one operand were kept, then a head over it; and of two
pub keep_one_first : (l p z : List Tree) → keep_each (keep_each l p) (p ++ z) ≡ keep_each l (p ++ z)
keep_one_first l p z =
    keep_each_append (keep_each l p) p z
    ∙ ap (λ k. keep_each k z) (keep_each_had (keep_each l p) p (kept_has_each l p))
    ∙ sym (keep_each_append l p z)

pub keep_two_first : (l p q z : List Tree) → keep_each (keep_each (keep_each l p) q) (p ++ q ++ z) ≡ keep_each l (p ++ q ++ z)
keep_two_first l p q z =
    ap (λ k. keep_each k (p ++ q ++ z)) (sym (keep_each_append l p q))
    ∙ keep_one_first l (p ++ q) z

-- there is space after a part if there is after the whole
pub part_fits : (l p q : List Tree) (n : ℕ) → length (keep_each l (p ++ q)) ≤ n → length (keep_each l p) ≤ n
part_fits l p q n h = omega (arith, length_keep_each (keep_each l p) q, ap length (keep_each_append l p q), h)

pub has_kept : (l : List Tree) (t u : Tree) → has l u ≡ true → has (keep l t) u ≡ true
has_kept l t = has_keep_each l (t ∷ [])

-- ---- a list that has the operands of its terms has their parts

abbrev pub HasOperands : List Tree → Type 0
HasOperands ts = (t : Tree) → has ts t ≡ true → HasEach ts (operands t)

module _ (ts : List Tree) (full : HasOperands ts) where
  pub has_parts : (t : Tree) → has ts t ≡ true → HasEach ts (parts t)
  has_parts (leaf x) h = (h, tt)
  has_parts (unary g t) h = has_each_append ts (parts t) _ (has_parts t (full _ h).0) (h, tt)
  has_parts (binary g t u) h =
      has_each_append ts (parts t ++ parts u) _ (has_each_append ts (parts t) (parts u) (has_parts t (full _ h).0) (has_parts u (full _ h).1.0)) (h, tt)

  -- a term that is there adds nothing
  pub nothing_new : (t : Tree) → has ts t ≡ true → keep_each ts (parts t) ≡ ts
  nothing_new t h = keep_each_had ts (parts t) (has_parts t h)
