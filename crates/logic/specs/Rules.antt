-- What proofs conclude: the rules as a relation, and as a function.
use Rattle.std.specs.Prelude.{◌≡◌, ℕ, Bool, true, false, List, ◌∷◌}
use Rattle.std.proofs.Math.Option.{Option, none, some}
use Rattle.std.proofs.Math.ListN.{get_elem?}
use Rattle.logic.specs.Syntax.{Thing, Number, Formula, OnePremise, TwoPremises, Proof}
use Rattle.logic.specs.Syntax.{equal, at_most, falsity, connect, neg, eq_things, relate, atom, forall, implies, and, or, eq_numbers, same, same_thing, same_number}
use Rattle.logic.specs.Syntax.{hyp, known, assume, eqrefl_thing, eqrefl_number, eqsub, inst, from, from_both}
use Rattle.logic.specs.Syntax.{nnpp, eqsymm, and1, and2, orimp, addneg, intro, elimnot, mp, eqtrans, negelim}
use Rattle.logic.specs.Substitution.{instance_of}

-- ---- the rules

-- H ⊢ P ∶ φ: under the hypotheses H, the newest first, the proof P concludes φ. What command k made known is `made k`.
module _ (made : ℕ → Option Formula) where
  infix 10 ◌⊢◌∶◌
  pub data ◌⊢◌∶◌ : List Formula → Proof → Formula → Type 0 where
    by_hyp : {H : List Formula} {i : ℕ} {φ : Formula} → get_elem? H i ≡ some φ → H ⊢ hyp i ∶ φ
    by_known : {H : List Formula} {k : ℕ} {φ : Formula} → made k ≡ some φ → H ⊢ known k ∶ φ
    by_assume : {H : List Formula} {P : Proof} {φ ψ : Formula} → φ ∷ H ⊢ P ∶ ψ → H ⊢ assume φ P ∶ implies φ ψ
    by_mp : {H : List Formula} {P Q : Proof} {φ ψ : Formula} → H ⊢ P ∶ implies φ ψ → H ⊢ Q ∶ φ → H ⊢ from_both mp P Q ∶ ψ
    by_absurd : {H : List Formula} {P : Proof} {φ : Formula} → H ⊢ P ∶ falsity → H ⊢ Proof.absurd P φ ∶ φ
    by_nnpp : {H : List Formula} {P : Proof} {φ : Formula} → H ⊢ P ∶ implies (implies φ falsity) falsity → H ⊢ from nnpp P ∶ φ
    by_eqrefl_thing : {H : List Formula} {t : Thing} → H ⊢ eqrefl_thing t ∶ eq_things t t
    by_eqrefl_number : {H : List Formula} {a : Number} → H ⊢ eqrefl_number a ∶ eq_numbers a a
    by_eqtrans_things : {H : List Formula} {P Q : Proof} {t u v : Thing} → H ⊢ P ∶ eq_things t u → H ⊢ Q ∶ eq_things u v → H ⊢ from_both eqtrans P Q ∶ eq_things t v
    by_eqtrans_numbers : {H : List Formula} {P Q : Proof} {a b c : Number} → H ⊢ P ∶ eq_numbers a b → H ⊢ Q ∶ eq_numbers b c → H ⊢ from_both eqtrans P Q ∶ eq_numbers a c
    by_eqsymm_things : {H : List Formula} {P : Proof} {t u : Thing} → H ⊢ P ∶ eq_things t u → H ⊢ from eqsymm P ∶ eq_things u t
    by_eqsymm_numbers : {H : List Formula} {P : Proof} {a b : Number} → H ⊢ P ∶ eq_numbers a b → H ⊢ from eqsymm P ∶ eq_numbers b a
    by_eqsub : {H : List Formula} {P : Proof} {t u : Thing} {ψ : Formula} → H ⊢ P ∶ eq_things t u → H ⊢ eqsub P ψ ∶ implies (instance_of ψ t) (instance_of ψ u)
    by_and1 : {H : List Formula} {P : Proof} {φ ψ : Formula} → H ⊢ P ∶ and φ ψ → H ⊢ from and1 P ∶ φ
    by_and2 : {H : List Formula} {P : Proof} {φ ψ : Formula} → H ⊢ P ∶ and φ ψ → H ⊢ from and2 P ∶ ψ
    by_orimp : {H : List Formula} {P : Proof} {φ ψ : Formula} → H ⊢ P ∶ or φ ψ → H ⊢ from orimp P ∶ implies (neg φ) ψ
    by_negelim : {H : List Formula} {P Q : Proof} {φ : Formula} → H ⊢ P ∶ neg φ → H ⊢ Q ∶ φ → H ⊢ from_both negelim P Q ∶ falsity
    by_addneg : {H : List Formula} {P : Proof} {φ : Formula} → H ⊢ P ∶ φ → H ⊢ from addneg P ∶ neg (neg φ)
    by_intro : {H : List Formula} {P : Proof} {φ : Formula} → H ⊢ P ∶ implies φ falsity → H ⊢ from intro P ∶ neg φ
    by_elimnot : {H : List Formula} {P : Proof} {φ : Formula} → H ⊢ P ∶ implies (neg φ) falsity → H ⊢ from elimnot P ∶ φ
    by_inst : {H : List Formula} {P : Proof} {t : Thing} {φ : Formula} → H ⊢ P ∶ forall φ → H ⊢ inst t P ∶ instance_of φ t

abbrev pub Concludes : (ℕ → Option Formula) → List Formula → Proof → Formula → Type 0
Concludes made H P φ = ◌⊢◌∶◌ made H P φ

-- ---- shapes

module _ {A B : Type 0} where
  infixl 20 ◌>>=◌
  unfoldable pub ◌>>=◌ : Option A → (A → Option B) → Option B
  none >>= f = none
  some a >>= f = f a

-- the value, where the test passes
unfoldable pub when : {A : Type 0} → Bool → A → Option A
when true a = some a
when false a = none

-- the first and the second formula that a formula is made of
abbrev pub left : Formula → Formula
left falsity = falsity
left (connect c φ ψ) = φ
left (neg φ) = φ
left (eq_things t u) = falsity
left (relate r a b) = falsity
left (atom s l) = falsity
left (forall φ) = φ

abbrev pub right : Formula → Formula
right falsity = falsity
right (connect c φ ψ) = ψ
right (neg φ) = falsity
right (eq_things t u) = falsity
right (relate r a b) = falsity
right (atom s l) = falsity
right (forall φ) = falsity

-- the two sides of an equation
pub data Sides : Type 0 where
  things : Thing → Thing → Sides
  numbers : Number → Number → Sides

abbrev pub sides : Formula → Option Sides
sides falsity = none
sides (connect c φ ψ) = none
sides (neg φ) = none
sides (eq_things t u) = some (things t u)
sides (relate equal a b) = some (numbers a b)
sides (relate at_most a b) = none
sides (atom s l) = none
sides (forall φ) = none

abbrev pub turned_round : Sides → Formula
turned_round (things t u) = eq_things u t
turned_round (numbers a b) = eq_numbers b a

abbrev pub chained : Sides → Sides → Option Formula
chained (things t u) (things u' v) = when (same_thing u u') (eq_things t v)
chained (things t u) (numbers a b) = none
chained (numbers a b) (things t u) = none
chained (numbers a b) (numbers b' c) = when (same_number b b') (eq_numbers a c)

abbrev pub replaced : Formula → Sides → Option Formula
replaced ψ (things t u) = some (implies (instance_of ψ t) (instance_of ψ u))
replaced ψ (numbers a b) = none

-- ---- the rules as a function: what a proof concludes, if anything

-- from the premise χ
abbrev pub conclude_from : OnePremise → Formula → Option Formula
conclude_from nnpp χ = when (same χ (implies (implies (left (left χ)) falsity) falsity)) (left (left χ))
conclude_from eqsymm χ = do
  e ← sides χ
  some (turned_round e)
conclude_from and1 χ = when (same χ (and (left χ) (right χ))) (left χ)
conclude_from and2 χ = when (same χ (and (left χ) (right χ))) (right χ)
conclude_from orimp χ = when (same χ (or (left χ) (right χ))) (implies (neg (left χ)) (right χ))
conclude_from addneg χ = some (neg (neg χ))
conclude_from intro χ = when (same χ (implies (left χ) falsity)) (neg (left χ))
conclude_from elimnot χ = when (same χ (implies (neg (left (left χ))) falsity)) (left (left χ))

-- from the premises χ and ξ
abbrev pub conclude_both : TwoPremises → Formula → Formula → Option Formula
conclude_both mp χ ξ = when (same χ (implies ξ (right χ))) (right χ)
conclude_both eqtrans χ ξ = do
  e ← sides χ
  f ← sides ξ
  chained e f
conclude_both negelim χ ξ = when (same χ (neg ξ)) falsity

module _ (made : ℕ → Option Formula) where
  abbrev pub conclude : List Formula → Proof → Option Formula
  conclude H (hyp i) = get_elem? H i
  conclude H (known k) = made k
  conclude H (assume φ P) = do
    ψ ← conclude (φ ∷ H) P
    some (implies φ ψ)
  conclude H (Proof.absurd P φ) = do
    χ ← conclude H P
    when (same χ falsity) φ
  conclude H (eqrefl_thing t) = some (eq_things t t)
  conclude H (eqrefl_number a) = some (eq_numbers a a)
  conclude H (eqsub P ψ) = do
    χ ← conclude H P
    e ← sides χ
    replaced ψ e
  conclude H (inst t P) = do
    χ ← conclude H P
    when (same χ (forall (left χ))) (instance_of (left χ) t)
  conclude H (from r P) = do
    χ ← conclude H P
    conclude_from r χ
  conclude H (from_both r P Q) = do
    χ ← conclude H P
    ξ ← conclude H Q
    conclude_both r χ ξ
