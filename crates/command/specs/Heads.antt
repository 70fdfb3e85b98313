-- The heads of commands: the code, the word and the operands of each.
use Rattle.std.specs.Prelude.{◌≡◌, ℕ, Bool, true, false, ◌↔◌, List, [], ◌∷◌, Some, codes, Option, ◌==◌}
use Prim.Native.String.{String}
use Rattle.std.specs.List.{find}
use Rattle.std.specs.Str.{bytes_eq}
use Rattle.command.specs.declared.head.Operands.{Operands}
use Rattle.command.specs.declared.head.Operands.TheVariants.{None, One, Two, Three, Literal}
use Rattle.command.specs.declared.head.Uses.{Uses}
use Rattle.command.specs.declared.head.Head.{Head}
use Rattle.command.specs.declared.head.Head.TheVariants.{Thing, Number, Pred, Var, Nil, Cons, App, Lit, Add, Minus, False, Implies, And, Or}
use Rattle.command.specs.declared.head.Head.TheVariants.{Neg, Eq, Leq, Forall, Id, Skip, Skol, Recand, Recor, Recnor, Recnand, Recnn, Hyp, Known}
use Rattle.command.specs.declared.head.Head.TheVariants.{Assume, Mp, Absurd, Nnpp, Eqrefl, Eqtrans, Eqsymm, Eqsub, And1, And2, Orimp, Negelim, Addneg, Intro}
use Rattle.command.specs.declared.head.Head.TheVariants.{Elimnot, Inst, Sum, Atmost, Cancel, Swap, Eqleq, Leqtrans, Pair, Query, Initial, Let, Same, Shows}
use Rattle.command.specs.declared.head.Head.TheVariants.{Final}

pub record Row : Type 0 where
  pub code : ℕ
  -- the word's bytes
  pub word : List ℕ
  pub operands : Operands

abbrev is : ℕ → String → Operands → Row
is number name follow = record { code = number; word = codes name; operands = follow }

abbrev pub row : Head → Row
row Thing = is 1 "thing" One
row Number = is 2 "number" One
row Pred = is 3 "pred" One
row Var = is 10 "var" One
row Nil = is 11 "nil" None
row Cons = is 12 "cons" Two
row App = is 13 "app" Two
row Lit = is 14 "lit" Literal
row Add = is 15 "add" Two
row Minus = is 16 "minus" One
row False = is 20 "false" None
row Implies = is 21 "implies" Two
row And = is 22 "and" Two
row Or = is 23 "or" Two
row Neg = is 24 "neg" One
row Eq = is 25 "eq" Two
row Leq = is 26 "leq" Two
row Forall = is 27 "forall" One
row Id = is 30 "id" None
row Skip = is 31 "skip" One
row Skol = is 32 "skol" Two
row Recand = is 33 "recand" Two
row Recor = is 34 "recor" Two
row Recnor = is 35 "recnor" Two
row Recnand = is 36 "recnand" Two
row Recnn = is 37 "recnn" One
row Hyp = is 40 "hyp" One
row Known = is 41 "known" One
row Assume = is 42 "assume" Two
row Mp = is 43 "mp" Two
row Absurd = is 44 "absurd" Two
row Nnpp = is 45 "nnpp" One
row Eqrefl = is 46 "eqrefl" One
row Eqtrans = is 47 "eqtrans" Two
row Eqsymm = is 48 "eqsymm" One
row Eqsub = is 49 "eqsub" Two
row And1 = is 50 "and1" One
row And2 = is 51 "and2" One
row Orimp = is 52 "orimp" One
row Negelim = is 53 "negelim" Two
row Addneg = is 54 "addneg" One
row Intro = is 55 "intro" One
row Elimnot = is 56 "elimnot" One
row Inst = is 57 "inst" Two
row Sum = is 60 "sum" Two
row Atmost = is 61 "atmost" Two
row Cancel = is 62 "cancel" One
row Swap = is 63 "swap" Two
row Eqleq = is 64 "eqleq" Two
row Leqtrans = is 65 "leqtrans" Three
row Pair = is 66 "pair" Two
row Query = is 70 "query" One
row Initial = is 71 "initial" One
row Let = is 72 "let" One
row Same = is 73 "same" Two
row Shows = is 74 "shows" Two
row Final = is 75 "final" One

abbrev pub code : Head → ℕ
code h = (row h).code

abbrev pub word : Head → List ℕ
word h = (row h).word

abbrev pub operands : Head → Operands
operands h = (row h).operands

abbrev these : Bool → Bool → Bool → Bool → Uses
these first second third fourth = record { a = first; b = second; c = third; literal = fourth }

abbrev pub used_by : Operands → Uses
used_by None = these false false false false
used_by One = these true false false false
used_by Two = these true true false false
used_by Three = these true true true false
used_by Literal = these false false false true

abbrev pub uses : Head → Uses
uses h = used_by (operands h)

-- every head, by code
abbrev pub heads : List Head
heads =
    Thing ∷ Number ∷ Pred ∷ Var ∷ Nil ∷ Cons ∷ App ∷ Lit ∷ Add ∷ Minus ∷ False ∷ Implies ∷
    And ∷ Or ∷ Neg ∷ Eq ∷ Leq ∷ Forall ∷ Id ∷ Skip ∷ Skol ∷ Recand ∷ Recor ∷ Recnor ∷
    Recnand ∷ Recnn ∷ Hyp ∷ Known ∷ Assume ∷ Mp ∷ Absurd ∷ Nnpp ∷ Eqrefl ∷ Eqtrans ∷ Eqsymm ∷ Eqsub ∷
    And1 ∷ And2 ∷ Orimp ∷ Negelim ∷ Addneg ∷ Intro ∷ Elimnot ∷ Inst ∷ Sum ∷ Atmost ∷ Cancel ∷ Swap ∷
    Eqleq ∷ Leqtrans ∷ Pair ∷ Query ∷ Initial ∷ Let ∷ Same ∷ Shows ∷ Final ∷ []

-- the first of the heads that has the code; that has the word
abbrev pub coded_among : ℕ → List Head → Option Head
coded_among n = find (λ h. code h == n)

abbrev pub spelled_among : List ℕ → List Head → Option Head
spelled_among w = find (λ h. bytes_eq (word h) w)

-- the head with the code, if there is one
abbrev pub coded : ℕ → Option Head
coded n = coded_among n heads

-- r is the one head that has the name, or no head has it
abbrev pub Named : {X : Type 0} → (Head → X) → X → Option Head → Type 0
Named name x r = (h : Head) → (r ≡ Some h) ↔ (name h ≡ x)

-- the head with the word, if there is one
unfoldable pub worded : List ℕ → Option Head
worded w = spelled_among w heads
