-- The parts of a text line: words and numbers, a blank or the line's end after each.
use Rattle.std.specs.Prelude.{◌≡◌, ℕ, ◌≤◌, ◌⊎◌, Bool, List, [], ◌∷◌, ◌++◌, Some, None, Option, ◌≢◌}
use Rattle.std.specs.Borrow.{Bor}
use Rattle.command.specs.declared.head.Head.{Head}
use Rattle.command.specs.Heads.{word}
use Rattle.command.specs.Without.{Without}
use Rattle.command.specs.Written.{field}

-- a blank or the end comes next
abbrev pub Parted : List ℕ → Type 0
Parted [] = Unit {0}
Parted (b ∷ bs) = b ≡ 32

-- no blank stands in it
abbrev pub Unblank : List ℕ → Type 0
Unblank = Without 32

-- a small letter comes first
abbrev pub LetterFirst : List ℕ → Type 0
LetterFirst [] = ⊥
LetterFirst (b ∷ bs) = (97 ≤ b) × (b ≤ 122)

-- a word: it begins with a letter, and no blank stands in it
abbrev pub Lettered : List ℕ → Type 0
Lettered s = LetterFirst s × Unblank s

-- a digit or a minus comes first
abbrev pub DigitFirst : List ℕ → Type 0
DigitFirst [] = ⊥
DigitFirst (b ∷ bs) = ((48 ≤ b) × (b ≤ 57)) ⊎ (b ≡ 45)

-- a number: it begins with a digit or a minus, and no blank stands in it
abbrev pub Numeric : List ℕ → Type 0
Numeric s = DigitFirst s × Unblank s

-- what stands before the first blank, and the rest
abbrev pub Parts : List ℕ → List ℕ → List ℕ → Type 0
Parts line first rest = (line ≡ first ++ rest) × Unblank first × Parted rest

-- the value that is written after a blank, and what stands after it; nothing where no such value is written there
abbrev pub Field : {X : Type 0} → (X → List ℕ) → (X → Type 0) → List ℕ → Option (X × Bor (List ℕ)) → Type 0
Field {X} write Fine rest None = (x : X) (more : List ℕ) → Fine x → Parted more → rest ≢ 32 ∷ (write x ++ more)
Field write Fine rest (Some p) = Fine p.0 × Parted p.1.now × (rest ≡ 32 ∷ (write p.0 ++ p.1.now))

-- the same where a value may be there or not: one that is not used is not written
abbrev pub Optional : {X : Type 0} → (X → List ℕ) → (Bool → X → Type 0) → Bool → List ℕ → Option (X × Bor (List ℕ)) → Type 0
Optional {X} write Fits used rest None = (x : X) (more : List ℕ) → Fits used x → Parted more → rest ≢ field write used x ++ more
Optional write Fits used rest (Some p) = Fits used p.0 × Parted p.1.now × (rest ≡ field write used p.0 ++ p.1.now)

-- the head whose word the line begins with, and what stands after it
abbrev pub Begins : List ℕ → Option (Head × Bor (List ℕ)) → Type 0
Begins line None = (h : Head) (rest : List ℕ) → Parted rest → line ≢ word h ++ rest
Begins line (Some p) = Parted p.1.now × (line ≡ word p.0 ++ p.1.now)
