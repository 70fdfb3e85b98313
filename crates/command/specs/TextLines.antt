-- A text line is its head's word and its operands, in one way.
use Rattle.std.specs.Prelude.{◌≡◌, ℕ, List, ◌++◌, Some, None, Option}
use Rattle.std.specs.Borrow.{Bor}
use Rattle.std.proofs.Common.{sym, ap, ◌∙◌}
use Rattle.command.specs.declared.command.Command.{Command}
use Rattle.command.specs.declared.head.Head.{Head}
use Rattle.command.specs.declared.head.Uses.{Uses}
use Rattle.command.specs.Heads.{code, word, uses}
use Rattle.command.specs.Meaning.{Writes, Apart}
use Rattle.command.specs.Reads.{Reads}
use Rattle.command.specs.Fields.{Parted, Begins}
use Rattle.command.specs.Written.{Suits, text_operands, text_line}
use Rattle.command.specs.Operands.{parted_operands, operands_apart}
use Rattle.command.specs.FieldsLemmas.{split_same, word_unblank}
use Rattle.command.specs.Words.{same_word}

-- the word, and what stands after it
pub head_is : (g h : Head) (x : Command) (rest : List ℕ) → Parted rest → text_line g x ≡ word h ++ rest → (g ≡ h) × (text_operands (uses g) x ≡ rest)
head_is g h x rest p e =
    let s = split_same (word g) (word h) (text_operands (uses g) x) rest (word_unblank g) (word_unblank h) (parted_operands (uses g) x) p e in
    (same_word g h s.0, s.1)

-- two commands do not have the same line
pub text_apart : Apart text_line
text_apart g h x y px py e =
    let s = head_is g h x (text_operands (uses h) y) (parted_operands (uses h) y) e in
    operands_apart (uses h) (code h) x y (rw s.0 at px) py (rw s.0 at s.1)

module _ (line : List ℕ) (p : Head × Bor (List ℕ)) (begins : Begins line (Some p)) where
  abbrev RestOf : Uses → ℕ → Option Command → Type 0
  RestOf u n r = Reads (λ x. Suits u n x × (p.1.now ≡ text_operands u x)) r

  with_head : (r : Option Command) → RestOf (uses p.0) (code p.0) r → Reads (Writes text_line line) r
  with_head None none = λ x w.
      let s = head_is w.0 p.0 x p.1.now begins.0 (w.2 ∙ begins.1) in
      none x (rw s.0 at w.1, rw s.0 at (sym s.1))
  with_head (Some x) (suits, e) = (p.0, suits, sym (begins.1 ∙ ap (λ (l : List ℕ). word p.0 ++ l) e))

  pub line_with_head : (u : Uses) (n : ℕ) (r : Option Command) → u ≡ uses p.0 → n ≡ code p.0 → RestOf u n r → Reads (Writes text_line line) r
  line_with_head u n r eu en rest = with_head r (rw (← eu, ← en) rest)
