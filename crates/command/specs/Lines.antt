-- The lines of a file, and its items.
use Rattle.std.specs.Prelude.{◌≡◌, ℕ, suc, ◌+◌, ◌<◌, ◌≤◌, min, cond, List, [], ◌∷◌, ◌++◌, length, Some, None, Option, ◌==◌, nat_lt}
use Rattle.std.specs.Borrow.{Bor}
use Rattle.std.specs.List.{position_or_len}
use Rattle.command.specs.declared.command.Command.{Command}
use Rattle.command.specs.declared.command.Item.{Item}
use Rattle.command.specs.declared.head.Head.{Head}
use Rattle.command.specs.declared.survey.Survey.{Survey}
use Rattle.command.specs.Meaning.{Form, meaning}
use Rattle.command.specs.Without.{Without}
use Rattle.command.specs.Written.{Proper, text_line, ledger_line}

-- A line ends with byte 10. What stands after the last byte 10, if anything does, is a line that has no end.
pub data Line : Type 0 where
  ended : List ℕ → Line
  endless : List ℕ → Line

-- the lines with the byte, which ends none, before the first of them
abbrev pub prepended : ℕ → List Line → List Line
prepended b [] = endless (b ∷ []) ∷ []
prepended b (ended l ∷ ls) = ended (b ∷ l) ∷ ls
prepended b (endless l ∷ ls) = endless (b ∷ l) ∷ ls

abbrev pub lines : List ℕ → List Line
lines [] = []
lines (b ∷ bs) = cond (b == 10) (ended [] ∷ lines bs) (prepended b (lines bs))

module _ (form : Form) where
  -- a line is the command that it means; it is spoiled if it means none or has no end
  abbrev pub content : Line → Option Command
  content (ended l) = meaning form l
  content (endless l) = None

  -- the items of the lines, which are numbered from n on
  abbrev pub items_from : ℕ → List Line → List Item
  items_from n [] = []
  items_from n (l ∷ ls) = record { line = n; content = content l } ∷ items_from (suc n) ls

  -- what is left of a file after some lines: these bytes, the first line numbered n
  abbrev pub remaining : ℕ → List ℕ → List Item
  remaining n bytes = items_from n (lines bytes)

  -- the items of a file; one with more bytes than the limit is one spoiled line
  abbrev pub items : ℕ → List ℕ → List Item
  items limit bytes = cond (nat_lt limit (length bytes)) (record { line = 1; content = None } ∷ []) (remaining 1 bytes)

-- a reader's next item, and what is left then
abbrev pub next_of : List Item → Option Item
next_of [] = None
next_of (x ∷ xs) = Some x

abbrev pub rest_of : List Item → List Item
rest_of [] = []
rest_of (x ∷ xs) = xs

-- each item has a number from 1 to 99,999,998
abbrev pub Numbered : List Item → Type 0
Numbered [] = Unit {0}
Numbered (x ∷ xs) = (1 ≤ x.line) × (x.line ≤ 99_999_998) × Numbered xs

-- how many bytes stand before the first byte 10
abbrev pub line_length : List ℕ → ℕ
line_length = position_or_len (λ b. b == 10)

-- the first item of what is left and the bytes after it, which are fewer; nothing where nothing is left
abbrev pub Step : Form → ℕ → List ℕ → Option (Item × Bor (List ℕ)) → Type 0
Step form n bytes None = remaining form n bytes ≡ []
Step form n bytes (Some p) = (remaining form n bytes ≡ p.0 ∷ remaining form (n + 1) p.1.now) × (length p.1.now < length bytes)

-- ---- files that are written

pub record WrittenCommand : Type 0 where
  pub head : Head
  pub command : Command
  pub proper : Proper head command

-- the file that has the lines of these commands
abbrev pub file : Form → List WrittenCommand → List ℕ
file form [] = []
file form (w ∷ ws) = form w.head w.command ++ (10 ∷ file form ws)

-- the commands as items, numbered from n on
abbrev pub commands_from : ℕ → List WrittenCommand → List Item
commands_from n [] = []
commands_from n (w ∷ ws) = record { line = n; content = Some w.command } ∷ commands_from (suc n) ws

-- the items of a file that was written, and is not too long, are the commands that it was written from
abbrev pub ReadsBack : Form → Type 0
ReadsBack form = (limit : ℕ) (ws : List WrittenCommand) → length (file form ws) ≤ limit → items form limit (file form ws) ≡ commands_from 1 ws

-- the same commands, written as text and as a ledger, are the same items
abbrev pub TwinsReadAlike : Type 0
TwinsReadAlike =
    (limit : ℕ) (ws : List WrittenCommand) → length (file text_line ws) ≤ limit → length (file ledger_line ws) ≤ limit
    → items text_line limit (file text_line ws) ≡ items ledger_line limit (file ledger_line ws)

-- no byte 10 stands in the line
abbrev pub Unbroken : List ℕ → Type 0
Unbroken = Without 10

abbrev pub LinesUnbroken : Form → Type 0
LinesUnbroken form = (h : Head) (x : Command) → Proper h x → Unbroken (form h x)

-- ---- what a file holds, in numbers

-- a count of 32 bits, which stops at the largest
abbrev pub one_more : ℕ → ℕ
one_more n = min (n + 1) 4_294_967_295

abbrev pub counted : Option Command → ℕ → ℕ
counted (Some x) n = one_more n
counted None n = n

-- the number of the first spoiled line: the one found before, or this one
abbrev pub spoiled_at : Option Command → ℕ → Option ℕ
spoiled_at (Some x) n = None
spoiled_at None n = Some n

abbrev pub first_spoiled : Option ℕ → Item → Option ℕ
first_spoiled (Some n) x = Some n
first_spoiled None x = spoiled_at x.content x.line

abbrev pub noted : Survey → Item → Survey
noted v x = record { lines = one_more v.lines; commands = counted x.content v.commands; spoiled = first_spoiled v.spoiled x }

abbrev pub surveyed : Survey → List Item → Survey
surveyed v [] = v
surveyed v (x ∷ xs) = surveyed (noted v x) xs
