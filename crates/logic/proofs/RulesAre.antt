-- The function of the rules gives what the rules relate, and nothing else.
use Rattle.std.proofs.Common.{◌≡◌, ℕ, Bool, true, false, List, ◌∷◌, sym, refl, ap, subst}
use mathlib.Core.Bool.{decide_iff}
use mathlib.Core.Option.{Option, none, some, none-ne-some, some-injective}
use Rattle.logic.specs.Syntax.{Thing, Number, Formula, OnePremise, TwoPremises, Proof, same_thing, same_number, same}
use Rattle.logic.specs.Syntax.{eq_things, relate, equal, at_most, eq_numbers}
use Rattle.logic.specs.Syntax.{hyp, known, assume, eqrefl_thing, eqrefl_number, eqsub, inst, from, from_both}
use Rattle.logic.specs.Syntax.{nnpp, eqsymm, and1, and2, orimp, addneg, intro, elimnot, mp, eqtrans, negelim}
use Rattle.logic.specs.Rules.{Concludes, ◌>>=◌, when, Sides, things, numbers, sides, chained, turned_round, replaced, conclude_from, conclude_both, conclude}
use Rattle.logic.specs.Rules.{by_hyp, by_known, by_assume, by_mp, by_absurd, by_nnpp, by_eqrefl_thing, by_eqrefl_number, by_eqtrans_things, by_eqtrans_numbers}
use Rattle.logic.specs.Rules.{by_eqsymm_things, by_eqsymm_numbers, by_eqsub, by_and1, by_and2, by_orimp, by_negelim, by_addneg, by_intro, by_elimnot, by_inst}

-- ---- what a do block gave

module _ {A B : Type 0} where
  pub bound : (o : Option A) (f : A → Option B) (b : B) → (o >>= f) ≡ some b → (a : A) × (o ≡ some a) × (f a ≡ some b)
  unfolding ◌>>=◌
  bound none f b h = absurd (none-ne-some b h)
  bound (some a) f b h = (a, refl, h)

module _ {A : Type 0} where
  pub tested : (b : Bool) (x y : A) → when b x ≡ some y → (b ≡ true) × (x ≡ y)
  unfolding when
  tested true x y h = (refl, some-injective x y h)
  tested false x y h = absurd (none-ne-some y h)

  pub passes : (b : Bool) (x : A) → b ≡ true → when b x ≡ some x
  unfolding when
  passes b x e = rw e

-- ---- sameness

pub same_true : (φ ψ : Formula) → same φ ψ ≡ true → φ ≡ ψ
same_true φ ψ = (decide_iff _).0

pub same_refl : (φ : Formula) → same φ φ ≡ true
same_refl φ = (decide_iff _).1 refl

pub same_thing_true : (t u : Thing) → same_thing t u ≡ true → t ≡ u
same_thing_true t u = (decide_iff _).0

pub same_thing_refl : (t : Thing) → same_thing t t ≡ true
same_thing_refl t = (decide_iff _).1 refl

pub same_number_true : (a b : Number) → same_number a b ≡ true → a ≡ b
same_number_true a b = (decide_iff _).0

pub same_number_refl : (a : Number) → same_number a a ≡ true
same_number_refl a = (decide_iff _).1 refl

pub fits : {A : Type 0} (φ : Formula) (x : A) → when (same φ φ) x ≡ some x
fits φ x = passes (same φ φ) x (same_refl φ)

-- ---- equations

abbrev equation : Sides → Formula
equation (things t u) = eq_things t u
equation (numbers a b) = eq_numbers a b

sided : (χ : Formula) (e : Sides) → sides χ ≡ some e → χ ≡ equation e
sided (eq_things v w) e h = ap equation (some-injective (things v w) e h)
sided (relate equal a b) e h = ap equation (some-injective (numbers a b) e h)
sided (relate at_most a b) e h = absurd (none-ne-some e h)
sided χ e h = absurd (none-ne-some e h)

module _ (made : ℕ → Option Formula) (H : List Formula) where
  -- a premise of the shape that the rule tests for
  premise : (P : Proof) (χ ξ ψ φ : Formula) → Concludes made H P χ → when (same χ ξ) ψ ≡ some φ → Concludes made H P ξ × (ψ ≡ φ)
  premise P χ ξ ψ φ d h = let t = tested _ _ _ h in (subst (Concludes made H P) (same_true _ _ t.0) d, t.1)

  equal_sides : (P : Proof) (χ : Formula) (e : Sides) → Concludes made H P χ → sides χ ≡ some e → Concludes made H P (equation e)
  equal_sides P χ e d h = subst (Concludes made H P) (sided χ e h) d

  by_chain : (P Q : Proof) (e f : Sides) (φ : Formula) → Concludes made H P (equation e) → Concludes made H Q (equation f) → chained e f ≡ some φ → Concludes made H (from_both eqtrans P Q) φ
  by_chain P Q (things t u) (things u' v) φ d e h =
      let w = tested _ _ _ h in
      subst (Concludes made H (from_both eqtrans P Q)) w.1 (by_eqtrans_things d (subst (λ x. Concludes made H Q (eq_things x v)) (sym (same_thing_true u u' w.0)) e))
  by_chain P Q (things t u) (numbers a b) φ d e h = absurd (none-ne-some φ h)
  by_chain P Q (numbers a b) (things t u) φ d e h = absurd (none-ne-some φ h)
  by_chain P Q (numbers a b) (numbers b' c) φ d e h =
      let w = tested _ _ _ h in
      subst (Concludes made H (from_both eqtrans P Q)) w.1 (by_eqtrans_numbers d (subst (λ x. Concludes made H Q (eq_numbers x c)) (sym (same_number_true b b' w.0)) e))

  by_turn : (P : Proof) (e : Sides) → Concludes made H P (equation e) → Concludes made H (from eqsymm P) (turned_round e)
  by_turn P (things t u) d = by_eqsymm_things d
  by_turn P (numbers a b) d = by_eqsymm_numbers d

  by_replacing : (P : Proof) (ψ : Formula) (e : Sides) (φ : Formula) → Concludes made H P (equation e) → replaced ψ e ≡ some φ → Concludes made H (eqsub P ψ) φ
  by_replacing P ψ (things t u) φ d h = subst (Concludes made H (eqsub P ψ)) (some-injective _ _ h) (by_eqsub d)
  by_replacing P ψ (numbers a b) φ d h = absurd (none-ne-some φ h)

  -- ---- the two tables

  concluded_from : (r : OnePremise) (P : Proof) (χ φ : Formula) → Concludes made H P χ → conclude_from r χ ≡ some φ → Concludes made H (from r P) φ
  concluded_from nnpp P χ φ d h = let t = premise P _ _ _ _ d h in subst (Concludes made H (from nnpp P)) t.1 (by_nnpp t.0)
  concluded_from eqsymm P χ φ d h =
      let b = bound _ _ _ h in
      subst (Concludes made H (from eqsymm P)) (some-injective _ _ b.2) (by_turn P _ (equal_sides P _ _ d b.1))
  concluded_from and1 P χ φ d h = let t = premise P _ _ _ _ d h in subst (Concludes made H (from and1 P)) t.1 (by_and1 t.0)
  concluded_from and2 P χ φ d h = let t = premise P _ _ _ _ d h in subst (Concludes made H (from and2 P)) t.1 (by_and2 t.0)
  concluded_from orimp P χ φ d h = let t = premise P _ _ _ _ d h in subst (Concludes made H (from orimp P)) t.1 (by_orimp t.0)
  concluded_from addneg P χ φ d h = subst (Concludes made H (from addneg P)) (some-injective _ _ h) (by_addneg d)
  concluded_from intro P χ φ d h = let t = premise P _ _ _ _ d h in subst (Concludes made H (from intro P)) t.1 (by_intro t.0)
  concluded_from elimnot P χ φ d h = let t = premise P _ _ _ _ d h in subst (Concludes made H (from elimnot P)) t.1 (by_elimnot t.0)

  concluded_both : (r : TwoPremises) (P Q : Proof) (χ ξ φ : Formula) → Concludes made H P χ → Concludes made H Q ξ → conclude_both r χ ξ ≡ some φ → Concludes made H (from_both r P Q) φ
  concluded_both mp P Q χ ξ φ d e h = let t = premise P _ _ _ _ d h in subst (Concludes made H (from_both mp P Q)) t.1 (by_mp t.0 e)
  concluded_both eqtrans P Q χ ξ φ d e h =
      let b = bound _ _ _ h in
      let c = bound _ _ _ b.2 in
      by_chain P Q _ _ φ (equal_sides P _ _ d b.1) (equal_sides Q _ _ e c.1) c.2
  concluded_both negelim P Q χ ξ φ d e h = let t = premise P _ _ _ _ d h in subst (Concludes made H (from_both negelim P Q)) t.1 (by_negelim t.0 e)

module _ (made : ℕ → Option Formula) where
  pub concluded : (H : List Formula) (P : Proof) (φ : Formula) → conclude made H P ≡ some φ → Concludes made H P φ
  concluded H (hyp i) φ h = by_hyp h
  concluded H (known k) φ h = by_known h
  concluded H (assume ψ P) φ h =
      let b = bound _ _ _ h in
      subst (Concludes made H (assume ψ P)) (some-injective _ _ b.2) (by_assume (concluded (ψ ∷ H) P _ b.1))
  concluded H (Proof.absurd P ψ) φ h =
      let b = bound _ _ _ h in
      let t = premise made H P _ _ _ _ (concluded H P _ b.1) b.2 in
      subst (Concludes made H (Proof.absurd P ψ)) t.1 (by_absurd t.0)
  concluded H (eqrefl_thing t) φ h = subst (Concludes made H (eqrefl_thing t)) (some-injective _ _ h) by_eqrefl_thing
  concluded H (eqrefl_number a) φ h = subst (Concludes made H (eqrefl_number a)) (some-injective _ _ h) by_eqrefl_number
  concluded H (eqsub P ψ) φ h =
      let b = bound _ _ _ h in
      let c = bound _ _ _ b.2 in
      by_replacing made H P ψ _ φ (equal_sides made H P _ _ (concluded H P _ b.1) c.1) c.2
  concluded H (inst u P) φ h =
      let b = bound _ _ _ h in
      let t = premise made H P _ _ _ _ (concluded H P _ b.1) b.2 in
      subst (Concludes made H (inst u P)) t.1 (by_inst t.0)
  concluded H (from r P) φ h = let b = bound _ _ _ h in concluded_from made H r P _ φ (concluded H P _ b.1) b.2
  concluded H (from_both r P Q) φ h =
      let b = bound _ _ _ h in
      let c = bound _ _ _ b.2 in
      concluded_both made H r P Q _ _ φ (concluded H P _ b.1) (concluded H Q _ c.1) c.2

  -- ---- and back

  pub conclude_gives : {H : List Formula} {P : Proof} {φ : Formula} → Concludes made H P φ → conclude made H P ≡ some φ
  unfolding ◌>>=◌
  conclude_gives (by_hyp e) = e
  conclude_gives (by_known e) = e
  conclude_gives (by_assume d) = rw (conclude_gives d)
  conclude_gives (by_mp d e) = rw (conclude_gives d, conclude_gives e) (fits _ _)
  conclude_gives (by_absurd d) = rw (conclude_gives d) (fits _ _)
  conclude_gives (by_nnpp d) = rw (conclude_gives d) (fits _ _)
  conclude_gives by_eqrefl_thing = refl
  conclude_gives by_eqrefl_number = refl
  conclude_gives (by_eqtrans_things {u} d e) = rw (conclude_gives d, conclude_gives e) (passes _ _ (same_thing_refl u))
  conclude_gives (by_eqtrans_numbers {b} d e) = rw (conclude_gives d, conclude_gives e) (passes _ _ (same_number_refl b))
  conclude_gives (by_eqsymm_things d) = rw (conclude_gives d)
  conclude_gives (by_eqsymm_numbers d) = rw (conclude_gives d)
  conclude_gives (by_eqsub d) = rw (conclude_gives d)
  conclude_gives (by_and1 d) = rw (conclude_gives d) (fits _ _)
  conclude_gives (by_and2 d) = rw (conclude_gives d) (fits _ _)
  conclude_gives (by_orimp d) = rw (conclude_gives d) (fits _ _)
  conclude_gives (by_negelim d e) = rw (conclude_gives d, conclude_gives e) (fits _ _)
  conclude_gives (by_addneg d) = rw (conclude_gives d)
  conclude_gives (by_intro d) = rw (conclude_gives d) (fits _ _)
  conclude_gives (by_elimnot d) = rw (conclude_gives d) (fits _ _)
  conclude_gives (by_inst d) = rw (conclude_gives d) (fits _ _)
