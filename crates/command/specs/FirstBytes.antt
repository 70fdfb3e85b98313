-- A head's word begins with a letter, what is written of a number with a digit or a minus.
use Rattle.std.specs.Prelude.{◌≡◌, ℕ, ◌^◌, ◌<◌, Bool, true, false, ◌&&◌, List, [], ◌∷◌, length, ℤ, pos, negsuc, decimal, nat_le, refl}
use Rattle.std.proofs.Common.{inl, inr, arith}
use Rattle.std.proofs.lemmas.Fmt.{decimal_nonempty}
use Rattle.std.proofs.lemmas.Bool.{and_parts, leb-true}
use Rattle.std.specs.Fmt.{signed_decimal}
use Rattle.command.specs.declared.head.Head.{Head}
use Rattle.command.specs.Heads.{word}
use Rattle.command.specs.Fields.{LetterFirst, Lettered, DigitFirst, Numeric}
use Rattle.command.specs.Numerals.{Digits, digits_of}
use Rattle.command.specs.WithoutLemmas.{word_without, without_decimal, unblank_signed}
use Rattle.command.specs.Words.{passes}
use Rattle.command.specs.Written.{NumberFits, LiteralFits}

-- ---- words

abbrev letter_first : List ℕ → Bool
letter_first [] = false
letter_first (b ∷ bs) = nat_le 97 b && nat_le b 122

is_letter_first : (l : List ℕ) → letter_first l ≡ true → LetterFirst l
is_letter_first [] e = cc
is_letter_first (b ∷ bs) e = let p = and_parts (nat_le 97 b) (nat_le b 122) e in (leb-true 97 b p.0, leb-true b 122 p.1)

pub word_lettered : (h : Head) → Lettered (word h)
word_lettered h = (is_letter_first (word h) (passes (λ g. letter_first (word g)) refl h), word_without 32 refl h)

-- ---- numbers

digit_first : (ds : List ℕ) → Digits ds → 0 < length ds → DigitFirst ds
digit_first [] h some = omega arith
digit_first (d ∷ ds) h some = inl h.0

pub numeric_decimal : (n : ℕ) → n < 2 ^ 64 → Numeric (decimal n)
numeric_decimal n small = (digit_first (decimal n) (digits_of n (decimal n) small refl) (decimal_nonempty n small), without_decimal 32 (omega arith) n small)

pub numeric_natural : (n : ℕ) → NumberFits true n → Numeric (decimal n)
numeric_natural n small = numeric_decimal n (omega arith)

pub numeric_signed : (z : ℤ) → LiteralFits true z → Numeric (signed_decimal z)
numeric_signed (pos n) small = numeric_decimal n (omega arith)
numeric_signed (negsuc n) small = (inr refl, unblank_signed (negsuc n) small)
