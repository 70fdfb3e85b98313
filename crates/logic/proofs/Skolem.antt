-- A world where a formula holds can be re-read, at the plan's Skolem symbols alone, into one where what the plan turns it into holds.
use Rattle.std.proofs.Common.{◌≡◌, ℕ, zero, suc, ◌≤◌, Bool, true, false, cond, not, ◌&&◌, ◌||◌, eqb, ◌⊎◌, List, [], ◌∷◌, ◌++◌, length, sym, refl, ap, ◌∙◌, subst, inl, inr, zero-le, le_refl, arith}
use mathlib.Core.Bool.{false≢true}
use mathlib.Core.Option.{Option}
use Rattle.std.proofs.lemmas.Bool.{cond_both, cond-true, cond-false, or_left, or_right, or_parts, or_from, or_cases, and_parts, and_from, not-true, not_from_false, eqb-true, eq-eqb}
use Rattle.logic.specs.Syntax.{Formula, Plan, apply, and, or, neg, forall}
use Rattle.logic.specs.Substitution.{instance_of}
use Rattle.logic.specs.Arithmetic.{Arithmetic}
use Rattle.logic.specs.World.{World, every, value, truth, reread}
use Rattle.logic.specs.Plans.{Turns, scope, symbols, member, distinct}
use Rattle.logic.specs.Plans.{by_id, by_skip, by_skol, by_recand, by_recor, by_recnor, by_recnand, by_recnn}
use Rattle.logic.proofs.Connectives.{from_not_not}
use Rattle.logic.proofs.Values.{put_value}
use Rattle.logic.proofs.Reread.{in_formula, scope_values, same_truth, put_in, in_scope, turned_in, member_append, no_member}

-- ---- a number at which a test fails

abbrev fails : ℕ → (ℕ → Bool) → ℕ
fails zero test = zero
fails (suc n) test = cond (test (suc n)) (fails n test) (suc n)

fails_within : (n : ℕ) (test : ℕ → Bool) → fails n test ≤ n
fails_within zero test = zero-le
fails_within (suc n) test = cond_both (test (suc n)) _ _ (λ x. x ≤ suc n) (λ e. omega (arith, fails_within n test)) (λ e. le_refl (suc n))

fails_there : (n : ℕ) (test : ℕ → Bool) → every n test ≡ false → test (fails n test) ≡ false
fails_there zero test h = h
fails_there (suc n) test h =
    cond_both (test (suc n)) _ _ (λ x. test x ≡ false)
    (λ e. fails_there n test (subst (λ b. (b && every n test) ≡ false) e h))
    (λ e. e)

every_mono : (n : ℕ) (f g : ℕ → Bool) → ((x : ℕ) → f x ≡ true → g x ≡ true) → every n f ≡ true → every n g ≡ true
every_mono zero f g m h = m zero h
every_mono (suc n) f g m h =
    let p = and_parts (f (suc n)) (every n f) h in
    and_from _ _ (m (suc n) p.0) (every_mono n f g m p.1)

-- ---- distinct symbols

-- if x rules y out, then y rules x out
rules_out : (x y : Bool) → (x ≡ true → y ≡ false) → y ≡ true → x ≡ false
rules_out true y h e = absurd (false≢true (sym (h refl) ∙ e))
rules_out false y h e = refl

distinct_left : (l m : List ℕ) → distinct (l ++ m) ≡ true → distinct l ≡ true
distinct_left [] m h = refl
distinct_left (s ∷ l) m h =
    let p = and_parts (not (member s (l ++ m))) (distinct (l ++ m)) h in
    and_from _ _ (not_from_false _ (no_member s l m (not-true _ p.0)).0) (distinct_left l m p.1)

distinct_right : (l m : List ℕ) → distinct (l ++ m) ≡ true → distinct m ≡ true
distinct_right [] m h = h
distinct_right (s ∷ l) m h = distinct_right l m (and_parts (not (member s (l ++ m))) (distinct (l ++ m)) h).1

distinct_apart : (l m : List ℕ) → distinct (l ++ m) ≡ true → (s : ℕ) → member s l ≡ true → member s m ≡ false
distinct_apart [] m h s e = absurd (false≢true e)
distinct_apart (r ∷ l) m h s e =
    let p = and_parts (not (member r (l ++ m))) (distinct (l ++ m)) h in
    elim (or_cases (eqb s r) (member s l) e) [
      | inl same ↦ subst (λ x. member x m ≡ false) (sym (eqb-true s r same)) (no_member r l m (not-true _ p.0)).1
      | inr later ↦ distinct_apart l m p.1 s later
    ]

-- ---- connectives

not_or : (x y : Bool) → not (x || y) ≡ true → (not x ≡ true) × (not y ≡ true)
not_or true y h = absurd (false≢true h)
not_or false y h = (refl, h)

not_and : (x y : Bool) → not (x && y) ≡ true → (not x ≡ true) ⊎ (not y ≡ true)
not_and true y h = inr h
not_and false y h = inl refl

one_of : (x y : Bool) → (x ≡ true) ⊎ (y ≡ true) → (x || y) ≡ true
one_of x y (inl h) = or_left x y h
one_of x y (inr h) = or_right x y h

-- ---- re-readings

-- A table for the thing symbols that differs from the world's at the symbols S alone, and what is good of the world so re-read in each environment of n things
pub record Reading {A : Arithmetic} (S : List ℕ) (n : ℕ) (W : World A) (Good : World A → List ℕ → Type 0) : Type 0 where
  pub table : ℕ → List ℕ → ℕ
  pub within : (s : ℕ) (l : List ℕ) → table s l ≤ W.last
  pub kept : (s : ℕ) → member s S ≡ false → (l : List ℕ) → table s l ≡ W.thing s l
  pub good : (ρ : List ℕ) → length ρ ≡ n → Good (reread W table within) ρ

module _ (A : Arithmetic) where
  -- ψ holds in the world V if φ does in W
  abbrev pub Follows : World A → Formula → Formula → World A → List ℕ → Type 0
  Follows W φ ψ V ρ = truth W ρ φ ≡ true → truth V ρ ψ ≡ true

  -- if the symbols S are distinct and none stands in φ, then each world has a reading of them in which ψ follows from φ
  abbrev pub Skolemises : List ℕ → ℕ → Formula → Formula → Type 0
  Skolemises S n φ ψ = distinct S ≡ true → ((s : ℕ) → member s S ≡ true → in_formula s φ ≡ false) → (W : World A) → Reading S n W (Follows W φ ψ)

  -- two sides: the one plan's reading, and then the other's over it
  module _ {S R : List ℕ} {n : ℕ} (φ ψ φ' ψ' : Formula) (once : distinct (S ++ R) ≡ true) (new : (s : ℕ) → member s (S ++ R) ≡ true → (in_formula s φ || in_formula s ψ) ≡ false) where
    both : ((s : ℕ) → member s S ≡ false → in_formula s φ ≡ false → in_formula s φ' ≡ false) → Skolemises S n φ φ' → Skolemises R n ψ ψ'
        → (W : World A) → Reading (S ++ R) n W (λ V ρ. Follows W φ φ' V ρ × Follows W ψ ψ' V ρ)
    both turned left right W =
        let in_left : ((s : ℕ) → member s S ≡ true → (in_formula s φ ≡ false) × (in_formula s ψ ≡ false)) = λ s m. or_parts _ _ (new s (member_append s S R ∙ or_left _ _ m)) in
        let in_right : ((s : ℕ) → member s R ≡ true → (in_formula s φ ≡ false) × (in_formula s ψ ≡ false)) = λ s m. or_parts _ _ (new s (member_append s S R ∙ or_right _ _ m)) in
        let first = left (distinct_left S R once) (λ s m. (in_left s m).0) W in
        let V = reread W first.table first.within in
        let second = right (distinct_right S R once) (λ s m. (in_right s m).1) V in
        record {
          table = second.table;
          within = second.within;
          kept = λ s h l. second.kept s (no_member s S R h).1 l ∙ first.kept s (no_member s S R h).0 l;
          good = λ ρ e. (
            λ h. same_truth V second.table second.within ρ φ' (λ s st. second.kept s (rules_out (member s R) (in_formula s φ')
                (λ m. turned s (rules_out (member s S) (member s R) (distinct_apart S R once s) m) (in_right s m).0) st)) ∙ first.good ρ e h,
            λ h. second.good ρ e (same_truth W first.table first.within ρ ψ (λ s st. first.kept s (rules_out (member s S) (in_formula s ψ) (λ m. (in_left s m).1) st)) ∙ h),
          );
        }

  then : {S : List ℕ} {n : ℕ} {W : World A} {G : World A → List ℕ → Type 0} (F : World A → List ℕ → Type 0) → Reading S n W G
      → ((V : World A) (ρ : List ℕ) → G V ρ → F V ρ) → Reading S n W F
  then F r f = record { table = r.table; within = r.within; kept = r.kept; good = λ ρ e. f _ ρ (r.good ρ e) }

  -- the symbol s re-read so that φ fails at its value wherever it fails at all
  module _ (W : World A) (s : ℕ) (φ : Formula) where
    abbrev witness : ℕ → List ℕ → ℕ
    witness r l = cond (eqb r s) (fails W.last (λ x. truth W (x ∷ l) φ)) (W.thing r l)

    witness_within : (r : ℕ) (l : List ℕ) → witness r l ≤ W.last
    witness_within r l = cond_both (eqb r s) _ _ (λ x. x ≤ W.last) (λ e. fails_within W.last _) (λ e. W.thing_within r l)

    witnessed : (ρ : List ℕ) → in_formula s φ ≡ false → truth W ρ (neg (forall φ)) ≡ true
        → truth (reread W witness witness_within) ρ (neg (instance_of φ (apply s (scope (length ρ))))) ≡ true
    witnessed ρ new h =
        let V = reread W witness witness_within in
        let t = apply s (scope (length ρ)) in
        let x = fails W.last (λ x. truth W (x ∷ ρ) φ) in
        let value_is : value V ρ t ≡ x = ap (witness s) (scope_values V ρ) ∙ cond-true (eqb s s) _ _ (eq-eqb s s refl) in
        ap not
        (put_value V 0 ρ t φ
        ∙ ap (λ v. truth V (v ∷ ρ) φ) value_is
        ∙ same_truth W witness witness_within (x ∷ ρ) φ (λ r st l. cond-false (eqb r s) _ _ (rules_out (eqb r s) (in_formula r φ) (λ e. subst (λ z. in_formula z φ ≡ false) (sym (eqb-true r s e)) new) st))
        ∙ fails_there W.last _ (not-true _ h))

  pub skolem : {arity : ℕ → Option ℕ} {n : ℕ} {p : Plan} {φ ψ : Formula} → Turns arity n p φ ψ → Skolemises (symbols p) n φ ψ
  skolem by_id once new W = record { table = W.thing; within = W.thing_within; kept = λ s h l. refl; good = λ ρ e h. h }
  skolem (by_skip d) once new W =
      let r = skolem d once new W in
      record { table = r.table; within = r.within; kept = r.kept; good = λ ρ e h. every_mono W.last _ _ (λ x hx. r.good (x ∷ ρ) (ap suc e) hx) h }
  skolem (by_skol {n} {s} {p} {φ} {ψ} has d) once new W =
      let o = and_parts (not (member s (symbols p))) (distinct (symbols p)) once in
      let other : ((r : ℕ) → member r (symbols p) ≡ true → eqb r s ≡ false) =
      λ r m. rules_out (eqb r s) (member r (symbols p)) (λ e. subst (λ z. member z (symbols p) ≡ false) (sym (eqb-true r s e)) (not-true _ o.0)) m in
      let V = reread W (witness W s φ) (witness_within W s φ) in
      let next = skolem d o.1 (λ r m. put_in r 0 (apply s (scope n)) φ (or_from _ _ (other r m) (in_scope r n)) (new r (or_right _ _ m))) V in
      record {
        table = next.table;
        within = next.within;
        kept = λ r h l. let q = or_parts (eqb r s) (member r (symbols p)) h in next.kept r q.1 l ∙ cond-false (eqb r s) _ _ q.0;
        good = λ ρ e h. next.good ρ e (subst (λ m. truth V ρ (neg (instance_of φ (apply s (scope m)))) ≡ true) e (witnessed W s φ ρ (new s (or_left _ _ (eq-eqb s s refl))) h));
      }
  skolem (by_recand {φ} {ψ} {φ'} {ψ'} d e) once new W =
      then (Follows W (and φ ψ) (and φ' ψ')) (both φ ψ φ' ψ' once new (λ s. turned_in s d) (skolem d) (skolem e) W)
      (λ V ρ g h. let c = and_parts (truth W ρ φ) (truth W ρ ψ) h in and_from _ _ (g.0 c.0) (g.1 c.1))
  skolem (by_recor {φ} {ψ} {φ'} {ψ'} d e) once new W =
      then (Follows W (or φ ψ) (or φ' ψ')) (both φ ψ φ' ψ' once new (λ s. turned_in s d) (skolem d) (skolem e) W)
      (λ V ρ g h. one_of _ _ (elim (or_cases (truth W ρ φ) (truth W ρ ψ) h) [ inl c ↦ inl (g.0 c) | inr c ↦ inr (g.1 c) ]))
  skolem (by_recnor {φ} {ψ} {φ'} {ψ'} d e) once new W =
      then (Follows W (neg (or φ ψ)) (and φ' ψ')) (both (neg φ) (neg ψ) φ' ψ' once new (λ s. turned_in s d) (skolem d) (skolem e) W)
      (λ V ρ g h. let c = not_or (truth W ρ φ) (truth W ρ ψ) h in and_from _ _ (g.0 c.0) (g.1 c.1))
  skolem (by_recnand {φ} {ψ} {φ'} {ψ'} d e) once new W =
      then (Follows W (neg (and φ ψ)) (or φ' ψ')) (both (neg φ) (neg ψ) φ' ψ' once new (λ s. turned_in s d) (skolem d) (skolem e) W)
      (λ V ρ g h. one_of _ _ (elim (not_and (truth W ρ φ) (truth W ρ ψ) h) [ inl c ↦ inl (g.0 c) | inr c ↦ inr (g.1 c) ]))
  skolem (by_recnn {φ} {ψ} d) once new W = then (Follows W (neg (neg φ)) ψ) (skolem d once new W) (λ V ρ g h. g (from_not_not (truth W ρ φ) h))
