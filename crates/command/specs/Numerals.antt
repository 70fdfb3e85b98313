-- Reading a decimal number digit by digit, from the left.
use Rattle.std.specs.Prelude.{◌≡◌, ℕ, zero, suc, ◌+◌, ◌-◌, ◌*◌, ◌^◌, ◌<◌, ◌≤◌, Bool, true, false, List, [], ◌∷◌, ◌++◌, length, take, drop, ℤ, pos, negsuc, decimal, ◌≢◌, slice_index, slice_index_or, refl}
use Rattle.std.proofs.Common.{sym, ap, ◌∙◌, subst, ⊎_elim, arith, rules}
use Rattle.std.proofs.lemmas.Fmt.{decimal-digits_value, digits_decimal, digits_value-decimal, decimal_nonempty, first_decimal, decimal_digit, decimal_injective}
use Rattle.std.proofs.lemmas.List.{take_more, take-append-drop, take_all}
use Rattle.std.proofs.lemmas.Str.Parse.{IsNumeralModel, numerals_by_fold}
use Rattle.std.proofs.lemmas.Bool.{cases_lt, both_ways}
use Rattle.std.specs.Fmt.{signed_decimal}
use Rattle.command.specs.Written.{LiteralFits}

-- the number n, and after it the digits
abbrev pub read_on : ℕ → List ℕ → ℕ
read_on n [] = n
read_on n (b ∷ bs) = read_on (n * 10 + (b - 48)) bs

abbrev pub Digits : List ℕ → Type 0
Digits [] = Unit {0}
Digits (b ∷ bs) = ((48 ≤ b) × (b ≤ 57)) × Digits bs

own : IsNumeralModel Digits (read_on 0)
own = numerals_by_fold _ (search rules) read_on (search rules)

digits_push : (ds : List ℕ) (b : ℕ) → Digits ds → 48 ≤ b → b ≤ 57 → Digits (ds ++ b ∷ [])
digits_push [] b h low high = ((low, high), tt)
digits_push (d ∷ ds) b h low high = (h.0, digits_push ds b h.1 low high)

read_push : (n : ℕ) (ds : List ℕ) (b : ℕ) → read_on n (ds ++ b ∷ []) ≡ read_on n ds * 10 + (b - 48)
read_push n [] b = refl
read_push n (d ∷ ds) b = read_push (n * 10 + (d - 48)) ds b

-- what is read so far is at most what is read in the end
read_rises : (n : ℕ) (ds : List ℕ) → n ≤ read_on n ds
read_rises n [] = omega arith
read_rises n (d ∷ ds) = omega (arith, read_rises (n * 10 + (d - 48)) ds)

read_append : (n : ℕ) (ds es : List ℕ) → read_on n (ds ++ es) ≡ read_on (read_on n ds) es
read_append n [] es = refl
read_append n (d ∷ ds) es = read_append (n * 10 + (d - 48)) ds es

-- the first i digits were read as the number v
pub record Read (ds : List ℕ) (i v : ℕ) : Type 0 where
  pub digits : Digits (take i ds)
  pub value : v ≡ read_on 0 (take i ds)

pub none_read : (ds : List ℕ) → Read ds 0 0
none_read ds = record { digits = tt; value = refl }

pub one_more : (ds : List ℕ) (i v : ℕ) → i < length ds → Read ds i v → 48 ≤ slice_index ds i → slice_index ds i ≤ 57 → Read ds (i + 1) (v * 10 + (slice_index ds i - 48))
one_more ds i v h r low high = record {
  digits = rw (take_more ds i 0 h) (digits_push (take i ds) (slice_index ds i) r.digits low high);
  value = rw (r.value, take_more ds i 0 h) (sym (read_push 0 (take i ds) (slice_index ds i)));
}

-- a decimal's digits are digits, also at the place i
pub digits_of : (x : ℕ) (ds : List ℕ) → x < 2 ^ 64 → decimal x ≡ ds → Digits ds
digits_of x ds small e = subst Digits e (digits_decimal own x small)

digit_at : (ds : List ℕ) (i : ℕ) → Digits ds → i < length ds → (48 ≤ slice_index ds i) × (slice_index ds i ≤ 57)
digit_at [] i h lt = absurd (omega arith)
digit_at (d ∷ ds) zero h lt = h.0
digit_at (d ∷ ds) (suc i) h lt = digit_at ds i h.1 (omega arith)

-- where the digit at i can't be appended within the bound, the text is no number within it
pub none_beyond :
    (ds : List ℕ) (i v most : ℕ) → i < length ds → most < 2 ^ 64 → Read ds i v
    → ((w : ℕ) → (48 ≤ slice_index ds i) × (slice_index ds i ≤ 57) × (w ≡ v * 10 + (slice_index ds i - 48)) × (w ≤ most) → ⊥)
    → (x : ℕ) → (x ≤ most) × (decimal x ≡ ds) → ⊥
none_beyond ds i v most lt small r no_digit x (le, e) =
    let x_small : x < 2 ^ 64 = omega arith in
    let d = digit_at ds i (digits_of x ds x_small e) lt in
    let more = one_more ds i v lt r d.0 d.1 in
    let w = v * 10 + (slice_index ds i - 48) in
    let whole : read_on 0 ds ≡ x = ap (read_on 0) (sym e) ∙ digits_value-decimal own x x_small in
    let split : read_on 0 ds ≡ read_on w (drop (i + 1) ds) =
    ap (read_on 0) (sym (take-append-drop (i + 1) ds)) ∙ read_append 0 (take (i + 1) ds) (drop (i + 1) ds) ∙ ap (λ (y : ℕ). read_on y (drop (i + 1) ds)) (sym more.value)
    in
    no_digit w (d.0, d.1, refl, omega (arith, read_rises w (drop (i + 1) ds)))

pub none_empty : (ds : List ℕ) (most : ℕ) → most < 2 ^ 64 → length ds ≡ 0 → (x : ℕ) → (x ≤ most) × (decimal x ≡ ds) → ⊥
none_empty ds most small e x (le, is) = let h : x < 2 ^ 64 = omega arith in omega (arith, decimal_nonempty x h, ap length is)

pub none_after_zero : (ds : List ℕ) (most : ℕ) → most < 2 ^ 64 → 1 < length ds → slice_index ds 0 ≡ 48 → (x : ℕ) → (x ≤ most) × (decimal x ≡ ds) → ⊥
none_after_zero ds most small long e x (le, is) =
    let h : x < 2 ^ 64 = omega arith in
    let first : slice_index_or (decimal x) 0 0 ≡ 48 = ap (λ (l : List ℕ). slice_index l 0) is ∙ e in
    ⊎_elim
    (λ (zero_x : x < 1). let d : x < 10 = omega arith in omega (arith, ap length (decimal_digit x d), ap length is))
    (λ (some_x : 1 ≤ x). omega (arith, first_decimal x some_x h))
    (cases_lt x 1)

-- a text that begins with 0 and has no leading zero has one digit
pub one_digit : (ds : List ℕ) (r : Bool) → ((1 < length ds) × (slice_index ds 0 ≡ 48) → r ≡ true) → r ≡ false → 0 < length ds → slice_index ds 0 ≡ 48 → length ds ≡ 1
one_digit ds r is no_zero some first =
    ⊎_elim (λ (long : 1 < length ds). absurd (both_ways r no_zero (is (long, first)))) (λ (short : length ds ≤ 1). omega arith) (cases_lt 1 (length ds))

-- all digits were read, and no 0 stands before others
pub all_read : (ds : List ℕ) (v most : ℕ) → most < 2 ^ 64 → v ≤ most → Read ds (length ds) v → 0 < length ds → (slice_index ds 0 ≡ 48 → length ds ≡ 1) → decimal v ≡ ds
all_read ds v most small le r some first =
    let whole : v ≡ read_on 0 ds = r.value ∙ ap (read_on 0) (take_all (length ds) ds (omega arith)) in
    let all : Digits ds = subst Digits (take_all (length ds) ds (omega arith)) r.digits in
    ap decimal whole ∙ decimal-digits_value own ds all some first (omega arith)

-- ---- with a sign

-- no digit is a minus
no_minus : (n : ℕ) → n < 2 ^ 63 → (ds : List ℕ) → decimal n ≢ 45 ∷ ds
no_minus n small ds e = omega (arith, (digits_of n (45 ∷ ds) (omega arith) e).0.0)

-- a number below zero is written with a minus, and one more after it
pub none_below : (ds : List ℕ) → ((n : ℕ) → (n ≤ 2 ^ 63) × (decimal n ≡ ds) → ⊥) → (z : ℤ) → LiteralFits true z × (signed_decimal z ≡ 45 ∷ ds) → ⊥
none_below ds no_number (pos n) (small, e) = no_minus n small ds e
none_below ds no_number (negsuc n) (small, e) = no_number (suc n) (omega arith, ap (drop 1) e)

pub none_minus_zero : (m : ℕ) (ds : List ℕ) → m ≡ 0 → decimal m ≡ ds → (z : ℤ) → LiteralFits true z × (signed_decimal z ≡ 45 ∷ ds) → ⊥
none_minus_zero m ds zero_m e (pos n) (small, is) = no_minus n small ds is
none_minus_zero m ds zero_m e (negsuc n) (small, is) =
    let same : suc n ≡ m = decimal_injective (suc n) m (omega arith) (omega arith) (ap (drop 1) is ∙ sym e) in
    omega arith
