-- A ledger line is its head's code and its operands, in one way.
use Rattle.std.specs.Prelude.{◌≡◌, ℕ, ◌+◌, ◌^◌, ◌<◌, ◌≤◌, Bool, true, false, List, ◌++◌, length, take, drop, ℤ, pos, Some, None, decimal, Option, ◌≢◌, nat_lt, refl}
use Rattle.std.proofs.Common.{sym, ap, ◌∙◌, subst, arith}
use Rattle.std.specs.Int.Signed.{mag}
use Rattle.std.proofs.lemmas.Fmt.{length-decimal-le, length_signed_le, decimal_injective, signed_decimal_injective}
use Rattle.std.proofs.lemmas.List.{length-append, length-replicate, length-drop, length-take, take_at, drop_at, take_all, take-append-drop, drop-drop}
use Rattle.std.proofs.lemmas.Bool.{ltb-true}
use Rattle.std.specs.Fmt.{signed_decimal}
use Rattle.command.specs.declared.command.Command.{Command}
use Rattle.command.specs.declared.head.Head.{Head}
use Rattle.command.specs.declared.head.Operands.{Operands}
use Rattle.command.specs.declared.head.Uses.{Uses}
use Rattle.command.specs.Heads.{code, uses, used_by, operands, coded}
use Rattle.command.specs.Meaning.{Writes, Apart}
use Rattle.command.specs.Reads.{Reads}
use Rattle.command.specs.Written.{NumberFits, LiteralFits, Suits, Proper, justified, ledger_operands, ledger_line}
use Rattle.command.specs.ColumnsLemmas.{after_blanks}
use Rattle.command.specs.WithoutLemmas.{unblank_natural, unblank_signed}
use Rattle.command.specs.Operands.{literal_small, same_command, literals_writing}
use Rattle.command.specs.Words.{passes, same_code, coded_code}

-- ---- fields of a known width

append_same : (u v x y : List ℕ) → length u ≡ length v → u ++ x ≡ v ++ y → (u ≡ v) × (x ≡ y)
append_same u v x y n e = (
  sym (take_at u x (length u) refl) ∙ ap (take (length u)) e ∙ take_at v y (length u) (sym n),
  sym (drop_at u x (length u) refl) ∙ ap (drop (length u)) e ∙ drop_at v y (length u) (sym n),
)

length_justified : (w : ℕ) (s : List ℕ) → length s ≤ w → length (justified w s) ≡ w
length_justified w s h = omega (arith, length-append {A = ℕ}, length-replicate {A = ℕ})

pub numbers_small : (used : Bool) (n : ℕ) → NumberFits used n → n < 10 ^ 8
numbers_small true n h = h
numbers_small false n h = omega arith

length_number : (n : ℕ) → n < 10 ^ 8 → length (justified 8 (decimal n)) ≡ 8
length_number n h = length_justified 8 (decimal n) (length-decimal-le 8 n (omega arith) h (omega arith))

pub code_small : (h : Head) → code h < 10 ^ 4
code_small h = ltb-true (code h) (10 ^ 4) (passes (λ g. nat_lt (code g) 10000) refl h)

length_code : (h : Head) → length (justified 4 (decimal (code h))) ≡ 4
length_code h = let c = code_small h in length_justified 4 (decimal (code h)) (length-decimal-le 4 (code h) (omega arith) c (omega arith))

length_literal : (z : ℤ) → mag z < 2 ^ 63 → length (justified 24 (signed_decimal z)) ≡ 24
length_literal z h = length_justified 24 (signed_decimal z) (omega (arith, length_signed_le 20 z (omega arith) h))

-- the number that is justified in a field is one
pub same_field : (f : List ℕ) (m n : ℕ) → m < 10 ^ 8 → n < 10 ^ 8 → justified (length f) (decimal m) ≡ f → justified (length f) (decimal n) ≡ f → m ≡ n
same_field f m n hm hn em en =
    decimal_injective m n (omega arith) (omega arith) (after_blanks f (decimal m) (unblank_natural m hm) em ∙ sym (after_blanks f (decimal n) (unblank_natural n hn) en))

length_operands : (h : Head) (x : Command) → Proper h x → length (ledger_operands (uses h).literal x) ≡ 24
length_operands h x p = by (uses h).literal p.literal
  where
    by : (b : Bool) → LiteralFits b x.literal → length (ledger_operands b x) ≡ 24
    by true f = length_literal x.literal (literal_small x.literal f)
    by false f =
        let la = length_number x.a (numbers_small (uses h).a x.a p.a) in
        let lb = length_number x.b (numbers_small (uses h).b x.b p.b) in
        let lc = length_number x.c (numbers_small (uses h).c x.c p.c) in
        omega (arith, length-append {A = ℕ})

pub length_line : (h : Head) (x : Command) → Proper h x → length (ledger_line h x) ≡ 28
length_line h x p =
    let c = length_code h in
    let o = length_operands h x p in
    omega (arith, length-append {A = ℕ})

-- ---- two commands do not have the same line

same_justified : (w m n : ℕ) → m < 10 ^ 8 → n < 10 ^ 8 → length (justified w (decimal n)) ≡ w → justified w (decimal m) ≡ justified w (decimal n) → m ≡ n
same_justified w m n hm hn l e =
    let f = justified w (decimal n) in
    same_field f m n hm hn (ap (λ (k : ℕ). justified k (decimal m)) l ∙ e) (ap (λ (k : ℕ). justified k (decimal n)) l)

operands_same : (b : Bool) (u : Uses) (n : ℕ) (x y : Command) → u.literal ≡ b → (b ≡ true → u ≡ used_by Operands.Literal) → Suits u n x → Suits u n y
    → ledger_operands b x ≡ ledger_operands b y → x ≡ y
operands_same true u n x y lit only sx sy e =
    let vx = subst (λ (v : Uses). Suits v n x) (only refl) sx in
    let vy = subst (λ (v : Uses). Suits v n y) (only refl) sy in
    let hx = literal_small x.literal vx.literal in
    let hy = literal_small y.literal vy.literal in
    let f = justified 24 (signed_decimal y.literal) in
    let l = length_literal y.literal hy in
    let s : signed_decimal x.literal ≡ signed_decimal y.literal =
    after_blanks f (signed_decimal x.literal) (unblank_signed x.literal vx.literal) (ap (λ (k : ℕ). justified k (signed_decimal x.literal)) l ∙ e)
    ∙ sym (after_blanks f (signed_decimal y.literal) (unblank_signed y.literal vy.literal) (ap (λ (k : ℕ). justified k (signed_decimal y.literal)) l))
    in
    same_command x y (sx.head ∙ sym sy.head) (zero_same x.a y.a vx.a vy.a) (zero_same x.b y.b vx.b vy.b) (zero_same x.c y.c vx.c vy.c) (signed_decimal_injective x.literal y.literal hx hy s)
  where
    zero_same : (m k : ℕ) → m < 1 → k < 1 → m ≡ k
    zero_same m k hm hk = omega arith
operands_same false u n x y lit only sx sy e =
    let xa = numbers_small u.a x.a sx.a in
    let xb = numbers_small u.b x.b sx.b in
    let xc = numbers_small u.c x.c sx.c in
    let ya = numbers_small u.a y.a sy.a in
    let yb = numbers_small u.b y.b sy.b in
    let yc = numbers_small u.c y.c sy.c in
    let first = append_same _ _ _ _ (length_number x.a xa ∙ sym (length_number y.a ya)) e in
    let second = append_same _ _ _ _ (length_number x.b xb ∙ sym (length_number y.b yb)) first.1 in
    same_command x y (sx.head ∙ sym sy.head)
    (same_justified 8 x.a y.a xa ya (length_number y.a ya) first.0)
    (same_justified 8 x.b y.b xb yb (length_number y.b yb) second.0)
    (same_justified 8 x.c y.c xc yc (length_number y.c yc) second.1)
    (literals_writing.unused x.literal y.literal (subst (λ (v : Bool). LiteralFits v x.literal) lit sx.literal) (subst (λ (v : Bool). LiteralFits v y.literal) lit sy.literal))

-- only the operands of a literal use one
literal_alone : (k : Operands) → (used_by k).literal ≡ true → used_by k ≡ used_by Operands.Literal
literal_alone Operands.Literal e = refl
literal_alone k e = cc

pub ledger_apart : Apart ledger_line
ledger_apart g h x y px py e =
    let s = append_same _ _ _ _ (length_code g ∙ sym (length_code h)) e in
    let cg = code_small g in
    let ch = code_small h in
    let same : g ≡ h = same_code g h (same_justified 4 (code g) (code h) (omega arith) (omega arith) (length_code h) s.0) in
    operands_same (uses h).literal (uses h) (code h) x y refl (literal_alone (operands h)) (rw same at px) py (rw same at s.1)

pub written_length : (line : List ℕ) (x : Command) → Writes ledger_line line x → length line ≡ 28
written_length line x (h, proper, e) = ap length (sym e) ∙ length_line h x proper

-- ---- the code, and what stands after it

pub not_literal : (k : Operands) → (k ≢ Operands.Literal) → (used_by k).literal ≡ false
not_literal Operands.Literal other = absurd (other refl)
not_literal k other = refl

module _ (line : List ℕ) (long : length line ≡ 28) where
  parts_of : (h : Head) (x : Command) → ledger_line h x ≡ line → (justified 4 (decimal (code h)) ≡ take 4 line) × (ledger_operands (uses h).literal x ≡ drop 4 line)
  parts_of h x e =
      append_same _ _ _ _ (length_code h ∙ sym (length-take 4 line ∙ omega arith)) (e ∙ sym (take-append-drop 4 line))

  four : length (take 4 line) ≡ 4
  four = length-take 4 line ∙ omega arith

  in_four : (s : List ℕ) → justified 4 s ≡ take 4 line → justified (length (take 4 line)) s ≡ take 4 line
  in_four s e = ap (λ (w : ℕ). justified w s) four ∙ e

  pub none_without_code : ((n : ℕ) → (n < 10 ^ 8) × (justified (length (take 4 line)) (decimal n) ≡ take 4 line) → ⊥) → (x : Command) → Writes ledger_line line x → ⊥
  none_without_code none x (h, proper, e) = let c = code_small h in none (code h) (omega arith, in_four (decimal (code h)) (parts_of h x e).0)

  module _ (n : ℕ) (small : n < 10 ^ 8) (is : justified (length (take 4 line)) (decimal n) ≡ take 4 line) where
    code_is : (h : Head) (x : Command) → ledger_line h x ≡ line → code h ≡ n
    code_is h x e = let c = code_small h in same_field (take 4 line) (code h) n (omega arith) small (in_four (decimal (code h)) (parts_of h x e).0) is

    pub none_with_code : None ≡ coded n → (x : Command) → Writes ledger_line line x → ⊥
    none_with_code none x (h, proper, e) =
        let f : None ≡ Some h = none ∙ ap coded (sym (code_is h x e)) ∙ coded_code h in
        cc

    module _ (h : Head) (named : code h ≡ n) where
      abbrev RestOf : Uses → Option Command → Type 0
      RestOf u r = Reads (λ x. Suits u n x × (ledger_operands u.literal x ≡ drop 4 line)) r

      with_head : (r : Option Command) → RestOf (uses h) r → Reads (Writes ledger_line line) r
      with_head None none = λ x w.
          let g = w.0 in
          let same : g ≡ h = same_code g h (code_is g x w.2 ∙ sym named) in
          none x (rw (same, named) at w.1, rw same at (parts_of g x w.2).1)
      with_head (Some x) (suits, e) = (
        h,
        rw named suits,
        rw (e, named, rw four at is) (take-append-drop 4 line),
      )

      pub line_with_code : (k : Operands) → k ≡ operands h → (r : Option Command) → RestOf (used_by k) r → Reads (Writes ledger_line line) r
      line_with_code k e r rest = with_head r (rw (← e) rest)

      -- no literal
      pub line_with_numbers :
          (k : Operands) (u : Uses) → k ≡ operands h → u ≡ used_by k → (k ≢ Operands.Literal) → (r : Option Command)
          → Reads (λ x. Suits u n x × (ledger_operands false x ≡ drop 4 line)) r → Reads (Writes ledger_line line) r
      line_with_numbers k u ek eu other r rest =
          let plain : u.literal ≡ false = ap (λ (v : Uses). v.literal) eu ∙ not_literal k other in
          line_with_code k ek r (rw (← eu) (subst (λ (b : Bool). Reads (λ x. Suits u n x × (ledger_operands b x ≡ drop 4 line)) r) (sym plain) rest))

-- ---- the operands

module _ (line : List ℕ) (long : length line ≡ 28) where
  rest_is : take 24 (drop 4 line) ≡ drop 4 line
  rest_is = take_all 24 (drop 4 line) (omega (arith, length-drop 4 line))

  twenty_four : length (take 24 (drop 4 line)) ≡ 24
  twenty_four = ap length rest_is ∙ length-drop 4 line ∙ omega arith

  pub none_without_literal :
      (n : ℕ) → ((z : ℤ) → LiteralFits true z × (justified (length (take 24 (drop 4 line))) (signed_decimal z) ≡ take 24 (drop 4 line)) → ⊥)
      → (x : Command) → Suits (used_by Operands.Literal) n x × (ledger_operands true x ≡ drop 4 line) → ⊥
  none_without_literal n none x (suits, e) =
      none x.literal (suits.literal, ap (λ (w : ℕ). justified w (signed_decimal x.literal)) twenty_four ∙ e ∙ sym rest_is)

  pub literal_line :
      (n : ℕ) (z : ℤ) → LiteralFits true z × (justified (length (take 24 (drop 4 line))) (signed_decimal z) ≡ take 24 (drop 4 line))
      → Suits (used_by Operands.Literal) n (record { code = n; a = 0; b = 0; c = 0; literal = z }) × (justified 24 (signed_decimal z) ≡ drop 4 line)
  literal_line n z (small, e) = (
    record { head = refl; a = omega arith; b = omega arith; c = omega arith; literal = small },
    ap (λ (w : ℕ). justified w (signed_decimal z)) (sym twenty_four) ∙ e ∙ rest_is,
  )

  -- the three fields of eight columns
  eight : (i : ℕ) → i + 8 ≤ 28 → length (take 8 (drop i line)) ≡ 8
  eight i h = length-take 8 (drop i line) ∙ omega (arith, length-drop i line)

  split_off : (i : ℕ) → drop i line ≡ take 8 (drop i line) ++ drop (i + 8) line
  split_off i = sym (take-append-drop 8 (drop i line)) ∙ ap (λ (l : List ℕ). take 8 (drop i line) ++ l) (drop-drop 8 i line)

  three_fields : drop 4 line ≡ take 8 (drop 4 line) ++ (take 8 (drop 12 line) ++ take 8 (drop 20 line))
  three_fields =
      split_off 4 ∙ ap (λ (l : List ℕ). take 8 (drop 4 line) ++ l) (split_off 12 ∙ ap (λ (l : List ℕ). take 8 (drop 12 line) ++ l) (sym (take_all 8 (drop 20 line) (omega (arith, length-drop 20 line)))))

  -- the number n is justified in the field of eight columns that begins at i
  abbrev pub At : ℕ → ℕ → Type 0
  At i n = (n < 10 ^ 8) × (justified (length (take 8 (drop i line))) (decimal n) ≡ take 8 (drop i line))

  in_eight : (i n : ℕ) → i + 8 ≤ 28 → n < 10 ^ 8 → justified 8 (decimal n) ≡ take 8 (drop i line) → At i n
  in_eight i n h small e = (small, ap (λ (w : ℕ). justified w (decimal n)) (eight i h) ∙ e)

  of_eight : (i n : ℕ) → i + 8 ≤ 28 → At i n → justified 8 (decimal n) ≡ take 8 (drop i line)
  of_eight i n h a = ap (λ (w : ℕ). justified w (decimal n)) (sym (eight i h)) ∙ a.1

  module _ (u : Uses) (n : ℕ) where
    abbrev pub LineOf : Command → Type 0
    LineOf x = Suits u n x × (ledger_operands false x ≡ drop 4 line)

    fields_are : (x : Command) → LineOf x → At 4 x.a × At 12 x.b × At 20 x.c
    fields_are x (suits, e) =
        let sa = numbers_small u.a x.a suits.a in
        let sb = numbers_small u.b x.b suits.b in
        let sc = numbers_small u.c x.c suits.c in
        let first = append_same (justified 8 (decimal x.a)) (take 8 (drop 4 line)) (justified 8 (decimal x.b) ++ justified 8 (decimal x.c)) (take 8 (drop 12 line) ++ take 8 (drop 20 line)) (length_number x.a sa ∙ sym (eight 4 (omega arith))) (e ∙ three_fields) in
        let second = append_same _ _ _ _ (length_number x.b sb ∙ sym (eight 12 (omega arith))) first.1 in
        (in_eight 4 x.a (omega arith) sa first.0, in_eight 12 x.b (omega arith) sb second.0, in_eight 20 x.c (omega arith) sc second.1)

    pub none_without_a : ((m : ℕ) → At 4 m → ⊥) → (x : Command) → LineOf x → ⊥
    none_without_a none x l = none x.a (fields_are x l).0

    pub none_without_b : ((m : ℕ) → At 12 m → ⊥) → (x : Command) → LineOf x → ⊥
    none_without_b none x l = none x.b (fields_are x l).1

    pub none_without_c : ((m : ℕ) → At 20 m → ⊥) → (x : Command) → LineOf x → ⊥
    none_without_c none x l = none x.c (fields_are x l).2

    module _ (a b c : ℕ) (at_a : At 4 a) (at_b : At 12 b) (at_c : At 20 c) where
      same_at : (i k m : ℕ) → At i k → At i m → k ≡ m
      same_at i k m p q = same_field (take 8 (drop i line)) k m p.0 q.0 p.1 q.1

      pub none_if_unfit : (NumberFits u.a a × NumberFits u.b b × NumberFits u.c c → ⊥) → (x : Command) → LineOf x → ⊥
      none_if_unfit unfit x l =
          let f = fields_are x l in
          unfit (rw (same_at 4 x.a a f.0 at_a) at l.0.a, rw (same_at 12 x.b b f.1 at_b) at l.0.b, rw (same_at 20 x.c c f.2 at_c) at l.0.c)

      pub numbers_line :
          u.literal ≡ false → NumberFits u.a a × NumberFits u.b b × NumberFits u.c c → LineOf (record { code = n; a = a; b = b; c = c; literal = pos 0 })
      numbers_line plain (fa, fb, fc) = (
        record { head = refl; a = fa; b = fb; c = fc; literal = subst (λ (v : Bool). LiteralFits v (pos 0)) (sym plain) (omega arith) },
        rw (of_eight 4 a (omega arith) at_a, of_eight 12 b (omega arith) at_b, of_eight 20 c (omega arith) at_c) (sym three_fields),
      )
