-- No written line has a byte 10 in it.
use Rattle.std.specs.Prelude.{◌≡◌, ℕ, zero, suc, ◌-◌, Bool, true, false, List, [], length, replicate, ℤ, decimal, refl}
use Rattle.std.proofs.Common.{arith}
use Rattle.std.specs.Fmt.{signed_decimal}
use Rattle.command.specs.Heads.{code, word, uses}
use Rattle.command.specs.Lines.{Unbroken, LinesUnbroken}
use Rattle.command.specs.Written.{NumberFits, LiteralFits, field, text_operands, text_line, justified, ledger_operands, ledger_line}
use Rattle.command.specs.LedgerLines.{numbers_small, code_small}
use Rattle.command.specs.WithoutLemmas.{without_append, without_decimal, without_signed, word_without}

unbroken_blanks : (n : ℕ) → Unbroken (replicate n 32)
unbroken_blanks zero = tt
unbroken_blanks (suc n) = ((λ (e : ◌≡◌ {A = ℕ} 32 10). omega arith), unbroken_blanks n)

-- ---- text

unbroken_number : (used : Bool) (n : ℕ) → NumberFits used n → Unbroken (field decimal used n)
unbroken_number true n f = ((λ (e : ◌≡◌ {A = ℕ} 32 10). omega arith), without_decimal 10 (omega arith) n (omega arith))
unbroken_number false n f = tt

unbroken_literal : (used : Bool) (z : ℤ) → LiteralFits used z → Unbroken (field signed_decimal used z)
unbroken_literal true z f = ((λ (e : ◌≡◌ {A = ℕ} 32 10). omega arith), without_signed 10 (omega arith) z f)
unbroken_literal false z f = tt

pub text_unbroken : LinesUnbroken text_line
text_unbroken h x p =
    without_append 10 (word h) (text_operands (uses h) x) (word_without 10 refl h)
    (without_append 10 (field decimal (uses h).a x.a) _ (unbroken_number (uses h).a x.a p.a)
    (without_append 10 (field decimal (uses h).b x.b) _ (unbroken_number (uses h).b x.b p.b)
    (without_append 10 (field decimal (uses h).c x.c) _ (unbroken_number (uses h).c x.c p.c)
    (without_append 10 (field signed_decimal (uses h).literal x.literal) [] (unbroken_literal (uses h).literal x.literal p.literal) tt))))

-- ---- ledger

unbroken_justified : (w : ℕ) (s : List ℕ) → Unbroken s → Unbroken (justified w s)
unbroken_justified w s h = without_append 10 (replicate (w - length s) 32) s (unbroken_blanks (w - length s)) h

unbroken_column : (used : Bool) (n : ℕ) → NumberFits used n → Unbroken (justified 8 (decimal n))
unbroken_column used n f = let s = numbers_small used n f in unbroken_justified 8 (decimal n) (without_decimal 10 (omega arith) n (omega arith))

pub ledger_unbroken : LinesUnbroken ledger_line
ledger_unbroken h x p =
    let c = code_small h in
    without_append 10 (justified 4 (decimal (code h))) (ledger_operands (uses h).literal x) (unbroken_justified 4 (decimal (code h)) (without_decimal 10 (omega arith) (code h) (omega arith))) (by (uses h).literal p.literal)
  where
    by : (b : Bool) → LiteralFits b x.literal → Unbroken (ledger_operands b x)
    by true f = unbroken_justified 24 (signed_decimal x.literal) (without_signed 10 (omega arith) x.literal f)
    by false f =
        without_append 10 (justified 8 (decimal x.a)) _ (unbroken_column (uses h).a x.a p.a)
        (without_append 10 (justified 8 (decimal x.b)) _ (unbroken_column (uses h).b x.b p.b) (unbroken_column (uses h).c x.c p.c))
