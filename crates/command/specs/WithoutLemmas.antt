-- No blank and no byte 10 stands in a head's word or in what is written of a number.
use Rattle.std.specs.Prelude.{◌≡◌, ℕ, suc, ◌^◌, ◌<◌, Bool, true, not, ◌&&◌, List, [], ◌∷◌, ◌++◌, ℤ, pos, negsuc, decimal, ◌==◌, refl}
use Rattle.std.proofs.Common.{arith}
use Rattle.std.proofs.lemmas.Bool.{eqb-false, and_parts, not-true}
use Rattle.std.specs.Fmt.{signed_decimal}
use Rattle.command.specs.declared.head.Head.{Head}
use Rattle.command.specs.Heads.{word, heads}
use Rattle.command.specs.Fields.{Unblank}
use Rattle.command.specs.Numerals.{Digits, digits_of}
use Rattle.command.specs.Without.{Without}
use Rattle.command.specs.Words.{every, passes}
use Rattle.command.specs.Written.{NumberFits, LiteralFits}

pub without_append : (c : ℕ) (u v : List ℕ) → Without c u → Without c v → Without c (u ++ v)
without_append c [] v hu hv = hv
without_append c (b ∷ bs) v hu hv = (hu.0, without_append c bs v hu.1 hv)

-- ---- words

abbrev pub without : ℕ → List ℕ → Bool
without c [] = true
without c (b ∷ bs) = not (b == c) && without c bs

is_without : (c : ℕ) (l : List ℕ) → without c l ≡ true → Without c l
is_without c [] e = tt
is_without c (b ∷ bs) e =
    let p = and_parts (not (b == c)) (without c bs) e in
    (eqb-false b c (not-true (b == c) p.0), is_without c bs p.1)

pub word_without : (c : ℕ) → every (λ g. without c (word g)) heads ≡ true → (h : Head) → Without c (word h)
word_without c all h = is_without c (word h) (passes (λ g. without c (word g)) all h)

-- ---- numbers

module _ (c : ℕ) (low : c < 45) where
  without_digits : (ds : List ℕ) → Digits ds → Without c ds
  without_digits [] h = tt
  without_digits (d ∷ ds) h = (λ (e : d ≡ c). let digit = h.0.0 in omega arith, without_digits ds h.1)

  pub without_decimal : (n : ℕ) → n < 2 ^ 64 → Without c (decimal n)
  without_decimal n small = without_digits (decimal n) (digits_of n (decimal n) small refl)

  pub without_signed : (z : ℤ) → LiteralFits true z → Without c (signed_decimal z)
  without_signed (pos n) small = without_decimal n (omega arith)
  without_signed (negsuc n) small = ((λ (e : ◌≡◌ {A = ℕ} 45 c). omega arith), without_decimal (suc n) (omega arith))

pub unblank_natural : (n : ℕ) → NumberFits true n → Unblank (decimal n)
unblank_natural n small = without_decimal 32 (omega arith) n (omega arith)

pub unblank_signed : (z : ℤ) → LiteralFits true z → Unblank (signed_decimal z)
unblank_signed = without_signed 32 (omega arith)
