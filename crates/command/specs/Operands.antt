-- The operands of a text line, one after the other.
use Rattle.std.specs.Prelude.{◌≡◌, ℕ, ◌^◌, ◌<◌, Bool, true, false, List, [], ◌++◌, length, drop, ℤ, pos, negsuc, Some, None, decimal, refl}
use Rattle.std.proofs.Common.{sym, ap, ◌∙◌, arith}
use Rattle.std.specs.Int.Signed.{mag}
use Rattle.std.proofs.lemmas.Fmt.{decimal_injective, signed_decimal_injective}
use Rattle.std.proofs.lemmas.List.{nil_from_length}
use Rattle.std.specs.Borrow.{Bor}
use Rattle.std.specs.Fmt.{signed_decimal}
use Rattle.command.specs.declared.command.Command.{Command}
use Rattle.command.specs.declared.head.Uses.{Uses}
use Rattle.command.specs.Fields.{Parted, Numeric, Optional}
use Rattle.command.specs.Written.{NumberFits, LiteralFits, Suits, field, text_operands}
use Rattle.command.specs.FirstBytes.{numeric_natural, numeric_signed}
use Rattle.command.specs.FieldsLemmas.{split_same}

-- a way of writing values that does not mix them up
pub record Writing {X : Type 0} (write : X → List ℕ) (Fits : Bool → X → Type 0) : Type 0 where
  pub numeric : (x : X) → Fits true x → Numeric (write x)
  pub apart : (x y : X) → Fits true x → Fits true y → write x ≡ write y → x ≡ y
  pub unused : (x y : X) → Fits false x → Fits false y → x ≡ y

pub numbers_writing : Writing decimal NumberFits
numbers_writing = record {
  numeric = numeric_natural;
  apart = λ x y fx fy e. decimal_injective x y (omega arith) (omega arith) e;
  unused = λ x y fx fy. omega arith;
}

pub literal_small : (z : ℤ) → LiteralFits true z → mag z < 2 ^ 63
literal_small (pos n) h = h
literal_small (negsuc n) h = h

literal_unused : (y z : ℤ) → LiteralFits false y → LiteralFits false z → y ≡ z
literal_unused (pos m) (pos n) f g = ap pos (omega arith)
literal_unused (pos m) (negsuc n) f g = absurd (omega arith)
literal_unused (negsuc m) z f g = absurd (omega arith)

pub literals_writing : Writing signed_decimal LiteralFits
literals_writing = record {
  numeric = numeric_signed;
  apart = λ y z fy fz e. signed_decimal_injective y z (literal_small y fy) (literal_small z fz) e;
  unused = literal_unused;
}

pub parted_field : {X : Type 0} (write : X → List ℕ) (used : Bool) (x : X) (rest : List ℕ) → Parted rest → Parted (field write used x ++ rest)
parted_field write true x rest p = refl
parted_field write false x rest p = p

module _ {X : Type 0} (write : X → List ℕ) (Fits : Bool → X → Type 0) (w : Writing write Fits) where
  -- a value that is written or left out, and what follows it, are determined by the text
  pub field_same :
      (used : Bool) (x y : X) (rest more : List ℕ) → Fits used x → Fits used y → Parted rest → Parted more
      → field write used x ++ rest ≡ field write used y ++ more → (x ≡ y) × (rest ≡ more)
  field_same true x y rest more fx fy pr pm e =
      let s = split_same (write x) (write y) rest more (w.numeric x fx).1 (w.numeric y fy).1 pr pm (ap (drop 1) e) in
      (w.apart x y fx fy s.0, s.1)
  field_same false x y rest more fx fy pr pm e = (w.unused x y fx fy, e)

  pub read_is :
      (rest : List ℕ) (used : Bool) (p : X × Bor (List ℕ)) → Optional write Fits used rest (Some p) → (x : X) (more : List ℕ) → Fits used x → Parted more
      → rest ≡ field write used x ++ more → (x ≡ p.0) × (p.1.now ≡ more)
  read_is rest used p (fits, parted, is) x more fx pm e =
      let s = field_same used x p.0 more p.1.now fx fits pm parted (sym e ∙ is) in
      (s.0, sym s.1)

-- ---- the four of them

abbrev pub after_c : Uses → Command → List ℕ
after_c u x = field signed_decimal u.literal x.literal ++ []

abbrev pub after_b : Uses → Command → List ℕ
after_b u x = field decimal u.c x.c ++ after_c u x

abbrev pub after_a : Uses → Command → List ℕ
after_a u x = field decimal u.b x.b ++ after_b u x

module _ (u : Uses) (x : Command) where
  parted_c : Parted (after_c u x)
  parted_c = parted_field signed_decimal u.literal x.literal [] tt

  parted_b : Parted (after_b u x)
  parted_b = parted_field decimal u.c x.c (after_c u x) parted_c

  parted_a : Parted (after_a u x)
  parted_a = parted_field decimal u.b x.b (after_b u x) parted_b

  pub parted_operands : Parted (text_operands u x)
  parted_operands = parted_field decimal u.a x.a (after_a u x) parted_a

command_same : (n m a b c d e f : ℕ) (y z : ℤ) → n ≡ m → a ≡ d → b ≡ e → c ≡ f → y ≡ z
    → ◌≡◌ {A = Command} (record { code = n; a = a; b = b; c = c; literal = y }) (record { code = m; a = d; b = e; c = f; literal = z })
command_same n m a b c d e f y z p q r s t = cc

pub same_command : (x y : Command) → x.code ≡ y.code → x.a ≡ y.a → x.b ≡ y.b → x.c ≡ y.c → x.literal ≡ y.literal → x ≡ y
same_command x y p q r s t = command_same x.code y.code x.a x.b x.c y.a y.b y.c x.literal y.literal p q r s t

pub operands_apart : (u : Uses) (n : ℕ) (x y : Command) → Suits u n x → Suits u n y → text_operands u x ≡ text_operands u y → x ≡ y
operands_apart u n x y sx sy e =
    let a = field_same decimal NumberFits numbers_writing u.a x.a y.a _ _ sx.a sy.a (parted_a u x) (parted_a u y) e in
    let b = field_same decimal NumberFits numbers_writing u.b x.b y.b _ _ sx.b sy.b (parted_b u x) (parted_b u y) a.1 in
    let c = field_same decimal NumberFits numbers_writing u.c x.c y.c _ _ sx.c sy.c (parted_c u x) (parted_c u y) b.1 in
    let z = field_same signed_decimal LiteralFits literals_writing u.literal x.literal y.literal [] [] sx.literal sy.literal tt tt c.1 in
    same_command x y (sx.head ∙ sym sy.head) a.0 b.0 c.0 z.0

module _ (u : Uses) (n : ℕ) (rest : List ℕ) where
  abbrev pub LineOf : Command → Type 0
  LineOf x = Suits u n x × (rest ≡ text_operands u x)

  module _ (a : ℕ × Bor (List ℕ)) (found_a : Optional decimal NumberFits u.a rest (Some a)) where
    is_a : (x : Command) → LineOf x → (x.a ≡ a.0) × (a.1.now ≡ after_a u x)
    is_a x (proper, e) = read_is decimal NumberFits numbers_writing rest u.a a found_a x.a (after_a u x) proper.a (parted_a u x) e

    pub none_at_b : Optional decimal NumberFits u.b a.1.now None → (x : Command) → LineOf x → ⊥
    none_at_b none x l = none x.b (after_b u x) l.0.b (parted_b u x) (is_a x l).1

    module _ (b : ℕ × Bor (List ℕ)) (found_b : Optional decimal NumberFits u.b a.1.now (Some b)) where
      is_b : (x : Command) → LineOf x → (x.b ≡ b.0) × (b.1.now ≡ after_b u x)
      is_b x l = read_is decimal NumberFits numbers_writing a.1.now u.b b found_b x.b (after_b u x) l.0.b (parted_b u x) (is_a x l).1

      pub none_at_c : Optional decimal NumberFits u.c b.1.now None → (x : Command) → LineOf x → ⊥
      none_at_c none x l = none x.c (after_c u x) l.0.c (parted_c u x) (is_b x l).1

      module _ (c : ℕ × Bor (List ℕ)) (found_c : Optional decimal NumberFits u.c b.1.now (Some c)) where
        is_c : (x : Command) → LineOf x → (x.c ≡ c.0) × (c.1.now ≡ after_c u x)
        is_c x l = read_is decimal NumberFits numbers_writing b.1.now u.c c found_c x.c (after_c u x) l.0.c (parted_c u x) (is_b x l).1

        pub none_at_literal : Optional signed_decimal LiteralFits u.literal c.1.now None → (x : Command) → LineOf x → ⊥
        none_at_literal none x l = none x.literal [] l.0.literal tt (is_c x l).1

        module _ (z : ℤ × Bor (List ℕ)) (found_z : Optional signed_decimal LiteralFits u.literal c.1.now (Some z)) where
          pub none_with_more : 0 < length z.1.now → (x : Command) → LineOf x → ⊥
          none_with_more more x l =
              let e = (read_is signed_decimal LiteralFits literals_writing c.1.now u.literal z found_z x.literal [] l.0.literal tt (is_c x l).1).1 in
              omega (arith, ap length e)

          pub all_read : length z.1.now ≡ 0 → LineOf (record { code = n; a = a.0; b = b.0; c = c.0; literal = z.0 })
          all_read end = (
            record { head = refl; a = found_a.0; b = found_b.0; c = found_c.0; literal = found_z.0 },
            rw (found_a.2, found_b.2, found_c.2, found_z.2, nil_from_length z.1.now end),
          )
