-- Number terms that are literals, and their sums.
use Rattle.std.proofs.Common.{◌≡◌, Bool, true, false, cond, ℤ, Some, None, Ok, Err, Option, Result, sym, refl, ap, ◌∙◌, subst, inl, inr}
use Rattle.std.proofs.lemmas.Bool.{cases_Bool}
use Rattle.std.proofs.lemmas.Option.{none-some, same_Some}
use Rattle.logic.specs.Syntax.{Number, lit, add, minus, measure, eq_numbers, leq, neg}
use Rattle.logic.specs.Tree.{Tree, leaf, unary, binary, number_tree, size, literals_pass}
use Rattle.logic.specs.Arithmetic.{Arithmetic}
use Rattle.logic.specs.Facts.{Stated, misshapen, unadmitted, formula, of_literal, state, sum, atmost}
use Rattle.model.specs.Refusal.{refused}
use Rattle.model.specs.Session.{stated}
use Rattle.arithmetic.specs.Literals.{literal_sum}
use Rattle.rules.specs.declared.refusal.Reason.{Reason}
use Rattle.rules.specs.Refusals.{refusal}
use Rattle.rules.specs.Shapes.{literal, admitted, total, compared}

pub is_literal : (x : Number) (n : ℤ) → literal (number_tree x) ≡ Some n → x ≡ lit n
is_literal (lit m) n h = ap lit (same_Some m n h)
is_literal (add a b) n h = absurd cc
is_literal (minus a) n h = absurd cc
is_literal (measure s l) n h = absurd cc

pub no_literal : (x : Number) (f : ℤ → Stated) → literal (number_tree x) ≡ None → of_literal x f ≡ misshapen
no_literal (lit m) f h = absurd cc
no_literal (add a b) f h = refl
no_literal (minus a) f h = refl
no_literal (measure s l) f h = refl

pub literal_small : (t : Tree) (n : ℤ) → literal t ≡ Some n → size t ≡ 1
literal_small (leaf x) n h = refl
literal_small (unary u t) n h = absurd cc
literal_small (binary u s t) n h = absurd cc

-- ---- what is summed and what is compared is small

-- two terms of which something is answered that is answered of two literals alone
module _ {X : Type 0} (R : Option ℤ → Option ℤ → Result X Reason) (left : (u : Option ℤ) (x : X) → Ok x ≡ R None u → ⊥) (right : (m : ℤ) (x : X) → Ok x ≡ R (Some m) None → ⊥) (s t : Tree) where
  both_small_by : (o u : Option ℤ) → literal s ≡ o → literal t ≡ u → (x : X) → Ok x ≡ R o u → (size s ≡ 1) × (size t ≡ 1)
  both_small_by None u h k x a = absurd (left u x a)
  both_small_by (Some m) None h k x a = absurd (right m x a)
  both_small_by (Some m) (Some n) h k x a = (literal_small s m h, literal_small t n k)

  both_small : (x : X) → Ok x ≡ R (literal s) (literal t) → (size s ≡ 1) × (size t ≡ 1)
  both_small = both_small_by (literal s) (literal t) refl refl

pub total_small : (A : Arithmetic) (s t : Tree) (i : ℤ) → Ok i ≡ total A (literal s) (literal t) → (size s ≡ 1) × (size t ≡ 1)
total_small A = both_small (total A) (λ u x e. cc) (λ m x e. cc)

pub compared_small : (A : Arithmetic) (s t : Tree) (b : Bool) → Ok b ≡ compared A (literal s) (literal t) → (size s ≡ 1) × (size t ≡ 1)
compared_small A = both_small (compared A) (λ u x e. cc) (λ m x e. cc)

-- ---- the sum of two admitted literals

module _ (A : Arithmetic) (m n : ℤ) (am : A.admits m ≡ true) (an : A.admits n ≡ true) where
  sum_is : literal_sum A m n ≡ cond (A.admits (A.sum m n)) (Some (A.sum m n)) None
  sum_is = rw (am, an)

  pub sum_admitted : (s : ℤ) → Some s ≡ literal_sum A m n → (A.admits (A.sum m n) ≡ true) × (s ≡ A.sum m n)
  sum_admitted s h = elim (cases_Bool (A.admits (A.sum m n))) [
    | inl y ↦ (y, same_Some s (A.sum m n) (h ∙ sum_is ∙ rw y))
    | inr y ↦ absurd (none-some s (sym (h ∙ sum_is ∙ rw y)))
  ]

  pub sum_unadmitted : None ≡ literal_sum A m n → A.admits (A.sum m n) ≡ false
  sum_unadmitted h = elim (cases_Bool (A.admits (A.sum m n))) [
    | inl y ↦ absurd (none-some (A.sum m n) (h ∙ sum_is ∙ rw y))
    | inr y ↦ y
  ]

-- ---- what a sum and a comparison state of operands that were read

same_reason : {T : Type 0} (d r : Reason) → ◌≡◌ {A = Result T Reason} (Err r) (Err d) → d ≡ r
same_reason d r h = cc

module _ (A : Arithmetic) (x y : Number) {s t : Tree} (e : s ≡ number_tree x) (f : t ≡ number_tree y) where
  left_is : (m : ℤ) → literal s ≡ Some m → x ≡ lit m
  left_is m h = is_literal x m (sym (ap literal e) ∙ h)

  right_is : (n : ℤ) → literal t ≡ Some n → y ≡ lit n
  right_is n h = is_literal y n (sym (ap literal f) ∙ h)

  left_misshapen : (g : ℤ → Stated) → literal s ≡ None → of_literal x g ≡ misshapen
  left_misshapen g h = no_literal x g (sym (ap literal e) ∙ h)

  right_misshapen : (g : ℤ → ℤ → Stated) (m : ℤ) → literal s ≡ Some m → literal t ≡ None → of_literal x (λ m. of_literal y (g m)) ≡ misshapen
  right_misshapen g m h k = subst (λ z. of_literal z (λ m. of_literal y (g m)) ≡ misshapen) (sym (left_is m h)) (no_literal y (g m) (sym (ap literal f) ∙ k))

  module _ (m n : ℤ) (h : literal s ≡ Some m) (k : literal t ≡ Some n) where
    left_admitted : literals_pass A.admits (number_tree x) ≡ true → A.admits m ≡ true
    left_admitted p = subst (λ z. literals_pass A.admits (number_tree z) ≡ true) (left_is m h) p

    right_admitted : literals_pass A.admits (number_tree y) ≡ true → A.admits n ≡ true
    right_admitted p = subst (λ z. literals_pass A.admits (number_tree z) ≡ true) (right_is n k) p

    both_read : (P : Number → Number → Type 0) → P (lit m) (lit n) → P x y
    both_read P p = subst (λ z. P z y) (sym (left_is m h)) (subst (P (lit m)) (sym (right_is n k)) p)

    sum_states : A.admits (A.sum m n) ≡ true → state A (sum x y) ≡ formula (eq_numbers (add x y) (lit (A.sum m n)))
    sum_states a = both_read (λ x y. state A (sum x y) ≡ formula (eq_numbers (add x y) (lit (A.sum m n)))) (rw a)

    sum_states_none : A.admits (A.sum m n) ≡ false → state A (sum x y) ≡ unadmitted
    sum_states_none a = both_read (λ x y. state A (sum x y) ≡ unadmitted) (rw a)

    atmost_states : state A (atmost x y) ≡ formula (cond (A.atmost m n) (leq x y) (neg (leq x y)))
    atmost_states = both_read (λ x y. state A (atmost x y) ≡ formula (cond (A.atmost m n) (leq x y) (neg (leq x y)))) refl

  -- ---- by what was read

  abbrev SumRefused : Reason → Type 0
  SumRefused r = stated (state A (sum x y)) ≡ refused (refusal r) 0

  abbrev AtmostRefused : Reason → Type 0
  AtmostRefused r = stated (state A (atmost x y)) ≡ refused (refusal r) 0

  module _ (p : literals_pass A.admits (number_tree x) ≡ true) (q : literals_pass A.admits (number_tree y) ≡ true) where
    admission_refused : (m n : ℤ) → literal s ≡ Some m → literal t ≡ Some n → (o : Option ℤ) → o ≡ literal_sum A m n → (r : Reason) → Err r ≡ admitted o → SumRefused r
    admission_refused m n h k None i r a =
        subst SumRefused (same_reason Reason.Unadmitted r a) (ap stated (sum_states_none m n h k (sum_unadmitted A m n (left_admitted m n h k p) (right_admitted m n h k q) i)))
    admission_refused m n h k (Some j) i r a = absurd cc

    refused_by : (o u : Option ℤ) → literal s ≡ o → literal t ≡ u → (r : Reason) → Err r ≡ total A o u → SumRefused r
    refused_by None u h k r a = subst SumRefused (same_reason Reason.Unfounded r a) (ap stated (left_misshapen _ h))
    refused_by (Some m) None h k r a = subst SumRefused (same_reason Reason.Unfounded r a) (ap stated (right_misshapen _ m h k))
    refused_by (Some m) (Some n) h k r a = admission_refused m n h k (literal_sum A m n) refl r a

    -- a refusal is the fact's
    pub total_refused : (r : Reason) → Err r ≡ total A (literal s) (literal t) → stated (state A (sum x y)) ≡ refused (refusal r) 0
    total_refused r a = refused_by (literal s) (literal t) refl refl r a

    abbrev SumsTo : ℤ → Type 0
    SumsTo i = state A (sum x y) ≡ formula (eq_numbers (add x y) (lit i))

    admission_states : (m n : ℤ) → literal s ≡ Some m → literal t ≡ Some n → (o : Option ℤ) → o ≡ literal_sum A m n → (i : ℤ) → Ok i ≡ admitted o → SumsTo i
    admission_states m n h k None j i a = absurd cc
    admission_states m n h k (Some l) j i a =
        let ei : i ≡ l = cc in
        let z = sum_admitted A m n (left_admitted m n h k p) (right_admitted m n h k q) l j in
        sum_states m n h k z.0 ∙ ap (λ v. formula (eq_numbers (add x y) (lit v))) (sym (ei ∙ z.1))

    states_by : (o u : Option ℤ) → literal s ≡ o → literal t ≡ u → (i : ℤ) → Ok i ≡ total A o u → SumsTo i
    states_by None u h k i a = absurd cc
    states_by (Some m) None h k i a = absurd cc
    states_by (Some m) (Some n) h k i a = admission_states m n h k (literal_sum A m n) refl i a

    -- and a sum is what it states
    pub total_states : (i : ℤ) → Ok i ≡ total A (literal s) (literal t) → state A (sum x y) ≡ formula (eq_numbers (add x y) (lit i))
    total_states i a = states_by (literal s) (literal t) refl refl i a

  compared_refused_by : (o u : Option ℤ) → literal s ≡ o → literal t ≡ u → (r : Reason) → Err r ≡ compared A o u → AtmostRefused r
  compared_refused_by None u h k r a = subst AtmostRefused (same_reason Reason.Unfounded r a) (ap stated (left_misshapen _ h))
  compared_refused_by (Some m) None h k r a = subst AtmostRefused (same_reason Reason.Unfounded r a) (ap stated (right_misshapen _ m h k))
  compared_refused_by (Some m) (Some n) h k r a = absurd cc

  pub compared_refused : (r : Reason) → Err r ≡ compared A (literal s) (literal t) → stated (state A (atmost x y)) ≡ refused (refusal r) 0
  compared_refused r a = compared_refused_by (literal s) (literal t) refl refl r a

  abbrev ComparesAs : Bool → Type 0
  ComparesAs b = state A (atmost x y) ≡ formula (cond b (leq x y) (neg (leq x y)))

  compares_by : (o u : Option ℤ) → literal s ≡ o → literal t ≡ u → (b : Bool) → Ok b ≡ compared A o u → ComparesAs b
  compares_by None u h k b a = absurd cc
  compares_by (Some m) None h k b a = absurd cc
  compares_by (Some m) (Some n) h k b a =
      let eb : A.atmost m n ≡ b = cc in
      subst ComparesAs eb (atmost_states m n h k)

  pub compared_states : (b : Bool) → Ok b ≡ compared A (literal s) (literal t) → state A (atmost x y) ≡ formula (cond b (leq x y) (neg (leq x y)))
  compared_states b a = compares_by (literal s) (literal t) refl refl b a
