-- How a command is written as a line, in each of two forms.
use Rattle.std.specs.Prelude.{◌≡◌, ℕ, ◌-◌, ◌^◌, ◌<◌, Bool, true, false, List, [], ◌∷◌, ◌++◌, length, replicate, ℤ, pos, negsuc, decimal}
use Rattle.std.specs.Fmt.{signed_decimal}
use Rattle.command.specs.declared.command.Command.{Command}
use Rattle.command.specs.declared.head.Head.{Head}
use Rattle.command.specs.declared.head.Uses.{Uses}
use Rattle.command.specs.Heads.{code, word, uses}

-- ---- the commands that can be written

-- How many values an operand has, counted from 0. One that is used has at most eight digits; one that is not is 0.
abbrev pub numbers : Bool → ℕ
numbers true = 10 ^ 8
numbers false = 1

-- the same of a literal, from 0 up and from -1 down: one that is used is a signed number of 64 bits
abbrev pub up : Bool → ℕ
up true = 2 ^ 63
up false = 1

abbrev pub down : Bool → ℕ
down true = 2 ^ 63
down false = 0

abbrev pub NumberFits : Bool → ℕ → Type 0
NumberFits used n = n < numbers used

abbrev pub LiteralFits : Bool → ℤ → Type 0
LiteralFits used (pos n) = n < up used
LiteralFits used (negsuc n) = n < down used

-- the command has this code, and operands that fit
pub record Suits (u : Uses) (n : ℕ) (x : Command) : Type 0 where
  pub head : x.code ≡ n
  pub a : NumberFits u.a x.a
  pub b : NumberFits u.b x.b
  pub c : NumberFits u.c x.c
  pub literal : LiteralFits u.literal x.literal

-- the command has this head, and can be written
abbrev pub Proper : Head → Command → Type 0
Proper h x = Suits (uses h) (code h) x

-- ---- text: the word and the operands that are used, a blank before each

abbrev pub field : {X : Type 0} → (X → List ℕ) → Bool → X → List ℕ
field write true x = 32 ∷ write x
field write false x = []

abbrev pub text_operands : Uses → Command → List ℕ
text_operands u x =
    field decimal u.a x.a ++ (field decimal u.b x.b ++ (field decimal u.c x.c ++ (field signed_decimal u.literal x.literal ++ [])))

abbrev pub text_line : Head → Command → List ℕ
text_line h x = word h ++ text_operands (uses h) x

-- ---- ledger: the code in 4 columns and three operands in 8 each, or a literal in 24, right-justified

abbrev pub justified : ℕ → List ℕ → List ℕ
justified width s = replicate (width - length s) 32 ++ s

abbrev pub ledger_operands : Bool → Command → List ℕ
ledger_operands true x = justified 24 (signed_decimal x.literal)
ledger_operands false x = justified 8 (decimal x.a) ++ (justified 8 (decimal x.b) ++ justified 8 (decimal x.c))

abbrev pub ledger_line : Head → Command → List ℕ
ledger_line h x = justified 4 (decimal (code h)) ++ ledger_operands (uses h).literal x
