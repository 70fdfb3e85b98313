-- Right-justified fields of a ledger line.
use Rattle.std.specs.Prelude.{◌≡◌, ℕ, List, length, ◌==◌}
use Rattle.std.specs.List.{prefix_len}
use Rattle.command.specs.Written.{justified}

-- how many blanks stand before the rest
abbrev pub blanks : List ℕ → ℕ
blanks = prefix_len (λ b. b == 32)

-- the spelling is what the field holds, right-justified
abbrev pub Stands : List ℕ → List ℕ → Type 0
Stands spelling field = justified (length field) spelling ≡ field
