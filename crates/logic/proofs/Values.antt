-- What a term or a formula means after a substitution, and under a re-reading of symbols.
use Rattle.std.proofs.Common.{◌≡◌, ℕ, zero, suc, pred, ◌<◌, Bool, cond, eqb, ltb, List, [], ◌∷◌, get_or, refl, ap, ◌∙◌, le_of_suc-le-suc, not-suc-le-zero, arith}
use Rattle.std.proofs.lemmas.Bool.{cond_both, ltb-true, ltb-false, eqb-true, eqb-false}
use Rattle.logic.specs.Syntax.{Thing, Things, Number, Formula, var, apply, nil, cons, lit, add, minus, measure, falsity, connect, neg, eq_things, relate, atom, forall}
use Rattle.logic.specs.Substitution.{raise, raise_each, put_var, put_thing, put_things, put_number, put}
use Rattle.logic.specs.Arithmetic.{Arithmetic}
use Rattle.logic.specs.World.{World, every, value, values, amount, truth}

-- ---- environments

-- the environment with x put in at index k
abbrev pub insert : ℕ → ℕ → List ℕ → List ℕ
insert zero x ρ = x ∷ ρ
insert (suc k) x [] = 0 ∷ insert k x []
insert (suc k) x (y ∷ ρ) = y ∷ insert k x ρ

below : (k i x : ℕ) (ρ : List ℕ) → i < k → get_or ρ i 0 ≡ get_or (insert k x ρ) i 0
below zero i x ρ h = absurd (not-suc-le-zero h)
below (suc k) zero x [] h = refl
below (suc k) zero x (y ∷ ρ) h = refl
below (suc k) (suc i) x [] h = below k i x [] (le_of_suc-le-suc h)
below (suc k) (suc i) x (y ∷ ρ) h = below k i x ρ (le_of_suc-le-suc h)

here : (k x : ℕ) (ρ : List ℕ) → x ≡ get_or (insert k x ρ) k 0
here zero x ρ = refl
here (suc k) x [] = here k x []
here (suc k) x (y ∷ ρ) = here k x ρ

above : (k i x : ℕ) (ρ : List ℕ) → k < i → get_or ρ (pred i) 0 ≡ get_or (insert k x ρ) i 0
above k zero x ρ h = absurd (not-suc-le-zero h)
above zero (suc i) x ρ h = refl
above (suc k) (suc i) x [] h = above k i x [] (le_of_suc-le-suc h)
above (suc k) (suc zero) x (y ∷ ρ) h = absurd (not-suc-le-zero (le_of_suc-le-suc h))
above (suc k) (suc (suc i)) x (y ∷ ρ) h = above k (suc i) x ρ (le_of_suc-le-suc h)

-- ---- a test at each number up to n

pub every_same : (n : ℕ) (f g : ℕ → Bool) → ((x : ℕ) → f x ≡ g x) → every n f ≡ every n g
every_same zero f g h = h zero
every_same (suc n) f g h = cc (h (suc n), every_same n f g h)

module _ {A : Arithmetic} (W : World A) where
  -- ---- a raised thing

  mutual
    pub raised : (x : ℕ) (ρ : List ℕ) (t : Thing) → value W (x ∷ ρ) (raise t) ≡ value W ρ t
    raised x ρ (var i) = refl
    raised x ρ (apply s l) = ap (W.thing s) (raised_each x ρ l)

    pub raised_each : (x : ℕ) (ρ : List ℕ) (l : Things) → values W (x ∷ ρ) (raise_each l) ≡ values W ρ l
    raised_each x ρ nil = refl
    raised_each x ρ (cons t l) = cc (raised x ρ t, raised_each x ρ l)

  -- ---- the substitution lemma

  put_var_value : (k : ℕ) (ρ : List ℕ) (t : Thing) (i : ℕ) → value W ρ (put_var k t i) ≡ get_or (insert k (value W ρ t) ρ) i 0
  put_var_value k ρ t i =
      cond_both (ltb i k) (var i) (cond (eqb i k) t (var (pred i))) (λ u. value W ρ u ≡ get_or (insert k (value W ρ t) ρ) i 0)
      (λ e. below k i _ ρ (ltb-true i k e))
      (λ e. cond_both (eqb i k) t (var (pred i)) (λ u. value W ρ u ≡ get_or (insert k (value W ρ t) ρ) i 0)
      (λ f. rw (eqb-true i k f) (here k _ ρ))
      (λ f. above k i _ ρ (omega (arith, ltb-false i k e, eqb-false i k f))))

  mutual
    pub put_thing_value : (k : ℕ) (ρ : List ℕ) (t u : Thing) → value W ρ (put_thing k t u) ≡ value W (insert k (value W ρ t) ρ) u
    put_thing_value k ρ t (var i) = put_var_value k ρ t i
    put_thing_value k ρ t (apply s l) = ap (W.thing s) (put_things_value k ρ t l)

    put_things_value : (k : ℕ) (ρ : List ℕ) (t : Thing) (l : Things) → values W ρ (put_things k t l) ≡ values W (insert k (value W ρ t) ρ) l
    put_things_value k ρ t nil = refl
    put_things_value k ρ t (cons u l) = cc (put_thing_value k ρ t u, put_things_value k ρ t l)

  put_number_value : (k : ℕ) (ρ : List ℕ) (t : Thing) (a : Number) → amount W ρ (put_number k t a) ≡ amount W (insert k (value W ρ t) ρ) a
  put_number_value k ρ t (lit n) = refl
  put_number_value k ρ t (add a b) = cc (put_number_value k ρ t a, put_number_value k ρ t b)
  put_number_value k ρ t (minus a) = cc (put_number_value k ρ t a)
  put_number_value k ρ t (measure s l) = ap (W.number s) (put_things_value k ρ t l)

  pub put_value : (k : ℕ) (ρ : List ℕ) (t : Thing) (φ : Formula) → truth W ρ (put k t φ) ≡ truth W (insert k (value W ρ t) ρ) φ
  put_value k ρ t falsity = refl
  put_value k ρ t (connect c φ ψ) = cc (put_value k ρ t φ, put_value k ρ t ψ)
  put_value k ρ t (neg φ) = cc (put_value k ρ t φ)
  put_value k ρ t (eq_things u v) = cc (put_thing_value k ρ t u, put_thing_value k ρ t v)
  put_value k ρ t (relate r a b) = cc (put_number_value k ρ t a, put_number_value k ρ t b)
  put_value k ρ t (atom s l) = ap (W.predicate s) (put_things_value k ρ t l)
  put_value k ρ t (forall φ) = every_same W.last _ _ (λ x. put_value (suc k) (x ∷ ρ) (raise t) φ ∙ ap (λ v. truth W (x ∷ insert k v ρ) φ) (raised x ρ t))
