-- Files and their lines.
use Rattle.std.proofs.Common.{◌≡◌, ℕ, suc, ◌+◌, ◌<◌, ◌≤◌, Bool, true, false, cond, not, eqb, ltb, List, [], ◌∷◌, ◌++◌, length, take, drop, Some, None, Option, sym, refl, ap, ◌∙◌, inl, inr, add-one, arith}
use Rattle.std.proofs.lemmas.List.{nil_from_length}
use Rattle.std.specs.List.{position}
use Rattle.std.proofs.lemmas.List.Sums.{prefix_len-le-length}
use Rattle.std.proofs.lemmas.Bool.{cases_Bool, cond-false, ne_eqb, le-ltb, ltb-true, ltb-false}
use Rattle.command.specs.declared.command.Command.{Command}
use Rattle.command.specs.declared.command.Item.{Item}
use Rattle.command.specs.Lines.{Line, ended, endless, prepended, lines, line_length, items_from, remaining, Numbered, Unbroken, LinesUnbroken, WrittenCommand, file, commands_from, ReadsBack}
use Rattle.command.specs.Meaning.{Form, meaning, Apart}
use Rattle.command.proofs.Meanings.{meaning_is}

abbrev item_of : ℕ → Option Command → Item
item_of n x = record { line = n; content = x }

-- ---- where the first byte 10 stands

pub found_end : (s : List ℕ) (i : ℕ) → Some i ≡ position (λ b. eqb b 10) s → (i ≡ line_length s) × (i < length s)
found_end s i e =
    elim (cases_Bool (ltb (line_length s) (length s))) [
      | inl t ↦ let is : Some i ≡ Some (line_length s) = e ∙ ap (λ b. cond b (Some (line_length s)) None) t in let at : i ≡ line_length s = cc in (at, omega (arith, ltb-true (line_length s) (length s) t))
      | inr f ↦ let is : Some i ≡ None = e ∙ ap (λ b. cond b (Some (line_length s)) None) f in absurd cc
    ]

pub found_none : (s : List ℕ) → None ≡ position (λ b. eqb b 10) s → line_length s ≡ length s
found_none s e =
    elim (cases_Bool (ltb (line_length s) (length s))) [
      | inl t ↦ let is : None ≡ Some (line_length s) = e ∙ ap (λ b. cond b (Some (line_length s)) None) t in absurd cc
      | inr f ↦ omega (arith, ltb-false (line_length s) (length s) f, prefix_len-le-length (λ b. not (eqb b 10)) s)
    ]

-- ---- the first line, and the others

pub first_line : (s : List ℕ) → line_length s < length s → lines s ≡ ended (take (line_length s) s) ∷ lines (drop (suc (line_length s)) s)
first_line [] h = absurd (omega arith)
first_line (b ∷ bs) h = step (eqb b 10) h (first_line bs)
  where
    step : (v : Bool) → cond (not v) (1 + line_length bs) 0 < suc (length bs)
        → (line_length bs < length bs → lines bs ≡ ended (take (line_length bs) bs) ∷ lines (drop (suc (line_length bs)) bs))
        → cond v (ended [] ∷ lines bs) (prepended b (lines bs)) ≡ ended (take (cond (not v) (1 + line_length bs) 0) (b ∷ bs)) ∷ lines (drop (suc (cond (not v) (1 + line_length bs) 0)) (b ∷ bs))
    step true h rest = refl
    step false h rest = let more : 1 + line_length bs ≡ suc (line_length bs) = omega arith in rw more (ap (prepended b) (rest (omega arith)))

pub last_line : (s : List ℕ) → 0 < length s → line_length s ≡ length s → lines s ≡ endless s ∷ []
last_line [] some e = absurd (omega arith)
last_line (b ∷ []) some e = step (eqb b 10) e
  where
    step : (v : Bool) → ◌≡◌ {A = ℕ} (cond (not v) 1 0) 1 → cond v (ended [] ∷ []) (endless (b ∷ []) ∷ []) ≡ endless (b ∷ []) ∷ []
    step true e = absurd (omega arith)
    step false e = refl
last_line (b ∷ c ∷ bs) some e = step (eqb b 10) e (last_line (c ∷ bs) (omega arith))
  where
    step : (v : Bool) → cond (not v) (1 + line_length (c ∷ bs)) 0 ≡ suc (suc (length bs))
        → (line_length (c ∷ bs) ≡ suc (length bs) → lines (c ∷ bs) ≡ endless (c ∷ bs) ∷ [])
        → cond v (ended [] ∷ lines (c ∷ bs)) (prepended b (lines (c ∷ bs))) ≡ endless (b ∷ c ∷ bs) ∷ []
    step true e rest = absurd (omega arith)
    step false e rest = ap (prepended b) (rest (omega arith))

-- ---- a file has at most as many lines as bytes

abbrev count : List Line → ℕ
count [] = 0
count (l ∷ ls) = suc (count ls)

count_prepended : (b : ℕ) (ls : List Line) → count (prepended b ls) ≤ suc (count ls)
count_prepended b [] = omega arith
count_prepended b (ended l ∷ ls) = omega arith
count_prepended b (endless l ∷ ls) = omega arith

few_lines : (s : List ℕ) → count (lines s) ≤ length s
few_lines [] = omega arith
few_lines (b ∷ bs) = step (eqb b 10) (few_lines bs)
  where
    step : (v : Bool) → count (lines bs) ≤ length bs → count (cond v (ended [] ∷ lines bs) (prepended b (lines bs))) ≤ suc (length bs)
    step true h = omega arith
    step false h = omega (arith, count_prepended b (lines bs))

numbered_from : (form : Form) (n : ℕ) (ls : List Line) → 1 ≤ n → n + count ls ≤ 99_999_999 → Numbered (items_from form n ls)
numbered_from form n [] low high = tt
numbered_from form n (l ∷ ls) low high = (low, omega arith, numbered_from form (suc n) ls (omega arith) (omega arith))

pub lines_numbered : (form : Form) (n : ℕ) (s : List ℕ) → (1 ≤ n) × (n + length s ≤ 99_999_999) → Numbered (items_from form n (lines s))
lines_numbered form n s h = numbered_from form n (lines s) h.0 (omega (arith, few_lines s, h.1))

-- ---- the first item, and what is left after it

pub at_end : (form : Form) (n : ℕ) (s : List ℕ) → length s ≡ 0 → remaining form n s ≡ []
at_end form n s e = ap (remaining form n) (nil_from_length s e)

pub at_last_line : (form : Form) (n : ℕ) (s t : List ℕ) → 0 < length s → line_length s ≡ length s → length t ≡ 0 → remaining form n s ≡ item_of n None ∷ remaining form (n + 1) t
at_last_line form n s t some e none =
    ap (items_from form n) (last_line s some e) ∙ ap (λ (l : List ℕ). item_of n None ∷ remaining form (n + 1) l) (sym (nil_from_length t none))

pub at_line :
    (form : Form) (n end : ℕ) (s t : List ℕ) (x : Option Command) → end ≡ line_length s → end < length s → x ≡ meaning form (take end s) → t ≡ drop (end + 1) s
    → remaining form n s ≡ item_of n x ∷ remaining form (n + 1) t
at_line form n end s t x is within content_is rest_is =
    let more : lines s ≡ ended (take end s) ∷ lines (drop (end + 1) s) =
    first_line s (omega arith) ∙ ap (λ (k : ℕ). ended (take k s) ∷ lines (drop (suc k) s)) (sym is) ∙ ap (λ (k : ℕ). ended (take end s) ∷ lines (drop k s)) (sym (add-one end))
    in
    ap (items_from form n) more
    ∙ ap (λ (y : Option Command). item_of n y ∷ items_from form (suc n) (lines (drop (end + 1) s))) (sym content_is)
    ∙ ap (λ (k : ℕ). item_of n x ∷ items_from form k (lines (drop (end + 1) s))) (sym (add-one n))
    ∙ ap (λ (l : List ℕ). item_of n x ∷ remaining form (n + 1) l) (sym rest_is)

-- ---- a file that was written

lines_of : (l rest : List ℕ) → Unbroken l → lines (l ++ (10 ∷ rest)) ≡ ended l ∷ lines rest
lines_of [] rest h = refl
lines_of (b ∷ bs) rest h =
    cond-false (eqb b 10) (ended [] ∷ lines (bs ++ (10 ∷ rest))) (prepended b (lines (bs ++ (10 ∷ rest)))) (ne_eqb b 10 h.0) ∙ ap (prepended b) (lines_of bs rest h.1)

module _ (form : Form) (apart : Apart form) (unbroken : LinesUnbroken form) where
  pub file_items : (n : ℕ) (ws : List WrittenCommand) → remaining form n (file form ws) ≡ commands_from n ws
  file_items n [] = refl
  file_items n (w ∷ ws) =
      let l = form w.head w.command in
      ap (items_from form n) (lines_of l (file form ws) (unbroken w.head w.command w.proper))
      ∙ ap (λ (o : Option Command). item_of n o ∷ remaining form (suc n) (file form ws)) (meaning_is form l apart w.command (w.head, w.proper, refl))
      ∙ ap (λ (is : List Item). item_of n (Some w.command) ∷ is) (file_items (suc n) ws)

  pub reads_back : ReadsBack form
  reads_back limit ws short =
      cond-false (ltb limit (length (file form ws))) (item_of 1 None ∷ []) (remaining form 1 (file form ws)) (le-ltb limit (length (file form ws)) short) ∙ file_items 1 ws
