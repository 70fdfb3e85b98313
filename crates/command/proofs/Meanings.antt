-- The search for the command whose line it is finds it.
use Rattle.std.proofs.Common.{◌≡◌, ℕ, zero, suc, ◌<◌, ◌≤◌, eqb, ◌⊎◌, List, [], ◌∷◌, ℤ, pos, negsuc, Some, None, Option, sym, refl, ap, ◌∙◌, subst, inl, inr, ⊎_elim, arith}
use Rattle.std.proofs.lemmas.Slice.Eq.{bytes_eq-Decides}
use Rattle.std.proofs.lemmas.Bool.{cond-true, cases_Bool, cases_lt}
use Rattle.std.proofs.lemmas.Option.{cond_some}
use Rattle.std.specs.Str.{bytes_eq}
use Rattle.command.specs.declared.command.Command.{Command}
use Rattle.command.specs.declared.head.Head.{Head}
use Rattle.command.specs.Heads.{heads, code, uses, coded_among}
use Rattle.command.specs.Meaning.{Form, or_else, first_below, first_of, tried, with_literal, with_head, meaning, Writes, Means, Apart}
use Rattle.command.specs.Reads.{Reads}
use Rattle.command.specs.Written.{up, down, LiteralFits, Proper}
use Rattle.command.specs.Operands.{same_command}
use Rattle.command.specs.Words.{coded_code}

-- ---- searches

-- there is an answer
abbrev SomeAnswer : {X : Type 0} → Option X → Type 0
SomeAnswer {X} o = (x : X) × (o ≡ Some x)

module _ {X : Type 0} where
  or_left : (o p : Option X) → SomeAnswer o → SomeAnswer (or_else o p)
  or_left None p (x, e) = cc
  or_left (Some y) p (x, e) = (y, refl)

  or_right : (o p : Option X) → SomeAnswer p → SomeAnswer (or_else o p)
  or_right None p a = a
  or_right (Some y) p a = (y, refl)

  or_came : (o p : Option X) (x : X) → or_else o p ≡ Some x → (o ≡ Some x) ⊎ (p ≡ Some x)
  or_came None p x e = inr e
  or_came (Some y) p x e = inl e

  below_finds : (n : ℕ) (f : ℕ → Option X) (k : ℕ) → k < n → SomeAnswer (f k) → SomeAnswer (first_below n f)
  unfolding first_below
  below_finds zero f k h a = absurd (omega arith)
  below_finds (suc n) f k h a =
      ⊎_elim (λ (lt : k < n). or_left (first_below n f) (f n) (below_finds n f k lt a))
      (λ (ge : n ≤ k). or_right (first_below n f) (f n) (let e : n ≡ k = omega arith in rw e a))
      (cases_lt k n)

  below_came : (n : ℕ) (f : ℕ → Option X) (x : X) → first_below n f ≡ Some x → (k : ℕ) × (k < n) × (f k ≡ Some x)
  unfolding first_below
  below_came zero f x e = cc
  below_came (suc n) f x e =
      ⊎_elim (λ (l : first_below n f ≡ Some x). let r = below_came n f x l in (r.0, (let h = r.1 in omega arith), r.2))
      (λ (l : f n ≡ Some x). (n, omega arith, l))
      (or_came (first_below n f) (f n) x e)

  of_came : (hs : List Head) (f : Head → Option X) (x : X) → first_of hs f ≡ Some x → (h : Head) × (f h ≡ Some x)
  unfolding first_of
  of_came [] f x e = cc
  of_came (h ∷ hs) f x e = ⊎_elim (λ (l : f h ≡ Some x). (h, l)) (λ (l : first_of hs f ≡ Some x). of_came hs f x l) (or_came (f h) (first_of hs f) x e)

  of_finds : (n : ℕ) (hs : List Head) (f : Head → Option X) (h : Head) → coded_among n hs ≡ Some h → SomeAnswer (f h) → SomeAnswer (first_of hs f)
  unfolding first_of
  of_finds n [] f h e a = cc
  of_finds n (g ∷ hs) f h e a =
      elim (cases_Bool (eqb (code g) n)) [
        | inl t ↦ let here = rw t at e in let same : g ≡ h = cc in or_left (f g) (first_of hs f) (rw same a)
        | inr other ↦ or_right (f g) (first_of hs f) (of_finds n hs f h (rw other at e) a)
      ]

-- ---- the search for a command

module _ (form : Form) (line : List ℕ) where
  tried_finds : (h : Head) (x : Command) → form h x ≡ line → tried form line h x ≡ Some x
  unfolding tried
  tried_finds h x e = cond-true (bytes_eq (form h x) line) (Some x) None ((bytes_eq-Decides (form h x) line).1 e)

  tried_came : (h : Head) (x y : Command) → tried form line h x ≡ Some y → (x ≡ y) × (form h x ≡ line)
  unfolding tried
  tried_came h x y e = let p = cond_some (bytes_eq (form h x) line) x y e in (p.1, (bytes_eq-Decides (form h x) line).0 p.0)

  abbrev made : Head → ℕ → ℕ → ℕ → ℤ → Command
  made h a b c z = record { code = code h; a = a; b = b; c = c; literal = z }

  literal_finds : (h : Head) (a b c : ℕ) (z : ℤ) → LiteralFits (uses h).literal z → form h (made h a b c z) ≡ line → SomeAnswer (with_literal form line h a b c)
  unfolding with_literal
  literal_finds h a b c (pos n) f e = or_left _ _ (below_finds _ _ n f (made h a b c (pos n), tried_finds h (made h a b c (pos n)) e))
  literal_finds h a b c (negsuc n) f e = or_right _ _ (below_finds _ _ n f (made h a b c (negsuc n), tried_finds h (made h a b c (negsuc n)) e))

  literal_came : (h : Head) (a b c : ℕ) (x : Command) → with_literal form line h a b c ≡ Some x
      → (z : ℤ) × LiteralFits (uses h).literal z × (made h a b c z ≡ x) × (form h (made h a b c z) ≡ line)
  unfolding with_literal
  literal_came h a b c x e =
      elim (or_came (first_below (up (uses h).literal) (λ k. tried form line h (made h a b c (pos k)))) (first_below (down (uses h).literal) (λ k. tried form line h (made h a b c (negsuc k)))) x e) [
        | inl l ↦ let r = below_came _ _ x l in let t = tried_came h (made h a b c (pos r.0)) x r.2 in (pos r.0, r.1, t.0, t.1)
        | inr l ↦ let r = below_came _ _ x l in let t = tried_came h (made h a b c (negsuc r.0)) x r.2 in (negsuc r.0, r.1, t.0, t.1)
      ]

  head_finds : (h : Head) (x : Command) → Proper h x → form h x ≡ line → SomeAnswer (with_head form line h)
  unfolding with_head
  head_finds h x p e =
      let e' : form h (made h x.a x.b x.c x.literal) ≡ line = ap (form h) (same_command (made h x.a x.b x.c x.literal) x (sym p.head) refl refl refl refl) ∙ e in
      below_finds _ _ x.a p.a (below_finds _ _ x.b p.b (below_finds _ _ x.c p.c (literal_finds h x.a x.b x.c x.literal p.literal e')))

  head_came : (h : Head) (x : Command) → with_head form line h ≡ Some x → Proper h x × (form h x ≡ line)
  unfolding with_head
  head_came h x e =
      let ra = below_came _ _ x e in
      let rb = below_came _ _ x ra.2 in
      let rc = below_came _ _ x rb.2 in
      let l = literal_came h ra.0 rb.0 rc.0 x rc.2 in
      subst (λ (y : Command). Proper h y × (form h y ≡ line)) {x = made h ra.0 rb.0 rc.0 l.0} l.2 (record { head = refl {a = code h}; a = ra.1; b = rb.1; c = rc.1; literal = l.1 }, l.3)

  pub meaning_came : (x : Command) → meaning form line ≡ Some x → Writes form line x
  unfolding meaning
  meaning_came x e = let r = of_came heads (with_head form line) x e in (r.0, (head_came r.0 x r.1).0, (head_came r.0 x r.1).1)

  meaning_finds : (x : Command) → Writes form line x → SomeAnswer (meaning form line)
  unfolding meaning
  meaning_finds x (h, p, e) = of_finds (code h) heads (with_head form line) h (coded_code h) (head_finds h x p e)

  module _ (apart : Apart form) where
    pub meaning_is : (x : Command) → Writes form line x → meaning form line ≡ Some x
    meaning_is x w =
        let f = meaning_finds x w in
        let v = meaning_came f.0 f.1 in
        f.1 ∙ ap Some (apart v.0 w.0 f.0 x v.1 w.1 (v.2 ∙ sym w.2))

    pub that_meaning_means : Means form line (meaning form line)
    that_meaning_means x = (meaning_came x, meaning_is x)

    no_answer : (o : Option Command) → ((x : Command) → o ≡ Some x → ⊥) → None ≡ o
    no_answer None f = refl
    no_answer (Some x) f = absurd (f x refl)

    pub reads_meaning : (r : Option Command) → Reads (Writes form line) r → r ≡ meaning form line
    reads_meaning None none = no_answer (meaning form line) (λ x e. none x (meaning_came x e))
    reads_meaning (Some x) w = sym (meaning_is x w)

    pub reads_means : (r : Option Command) → Reads (Writes form line) r → Means form line r
    reads_means r h = subst (Means form line) (sym (reads_meaning r h)) that_meaning_means
