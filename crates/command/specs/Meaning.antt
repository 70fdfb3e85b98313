-- The command that a line means: the one whose written form it is.
use Rattle.std.specs.Prelude.{◌≡◌, ℕ, zero, suc, cond, ◌↔◌, List, [], ◌∷◌, ℤ, pos, negsuc, Some, None, Option}
use Rattle.std.specs.Str.{bytes_eq}
use Rattle.command.specs.declared.command.Command.{Command}
use Rattle.command.specs.declared.head.Head.{Head}
use Rattle.command.specs.Heads.{heads, code, uses}
use Rattle.command.specs.Written.{numbers, up, down, Proper}

-- A form gives the line of each command with each head.
abbrev pub Form : Type 0
Form = Head → Command → List ℕ

-- the first answer, if there is one
abbrev pub or_else : {X : Type 0} → Option X → Option X → Option X
or_else (Some x) o = Some x
or_else None o = o

-- the first answer among those for 0 to n - 1
unfoldable pub first_below : {X : Type 0} → ℕ → (ℕ → Option X) → Option X
first_below zero f = None
first_below (suc n) f = or_else (first_below n f) (f n)

-- the first answer among those for the heads
unfoldable pub first_of : {X : Type 0} → List Head → (Head → Option X) → Option X
first_of [] f = None
first_of (h ∷ hs) f = or_else (f h) (first_of hs f)

module _ (form : Form) (line : List ℕ) where
  -- the command, if this is its line
  unfoldable pub tried : Head → Command → Option Command
  tried h x = cond (bytes_eq (form h x) line) (Some x) None

  -- with this head, among all the literals that are in range
  unfoldable pub with_literal : Head → ℕ → ℕ → ℕ → Option Command
  with_literal h a b c =
      let x : ℤ → Command = λ n. record { code = code h; a = a; b = b; c = c; literal = n } in
      or_else (first_below (up (uses h).literal) (λ n. tried h (x (pos n)))) (first_below (down (uses h).literal) (λ n. tried h (x (negsuc n))))

  -- among all the operands that are in range
  unfoldable pub with_head : Head → Option Command
  with_head h =
      first_below (numbers (uses h).a) (λ a. first_below (numbers (uses h).b) (λ b. first_below (numbers (uses h).c) (λ c. with_literal h a b c)))

  -- among all the commands that can be written, the one whose line this is
  unfoldable pub meaning : Option Command
  meaning = first_of heads with_head

-- this is the line of the command
abbrev pub Writes : Form → List ℕ → Command → Type 0
Writes form line x = (h : Head) × Proper h x × (form h x ≡ line)

-- what the meaning comes to: it is the command x just where this is the line of x
abbrev pub Means : Form → List ℕ → Option Command → Type 0
Means form line r = (x : Command) → (r ≡ Some x) ↔ Writes form line x

-- two commands do not have the same line
abbrev pub Apart : Form → Type 0
Apart form = (g h : Head) (x y : Command) → Proper g x → Proper h y → form g x ≡ form h y → x ≡ y
