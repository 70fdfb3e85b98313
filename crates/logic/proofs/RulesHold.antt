-- What a proof concludes holds in every world where what it is drawn from holds.
use Rattle.std.proofs.Common.{ℕ, ◌≤◌, List, [], ◌∷◌, sym, refl, ap, ◌∙◌, zero-le}
use mathlib.Core.Bool.{false≢true}
use mathlib.Core.Option.{Option}
use lib.ListN.{get_elem?}
use Rattle.std.proofs.lemmas.Bool.{and_parts, eqb-true, eq-eqb}
use Rattle.logic.specs.Syntax.{Thing, Formula, Proof, var, apply}
use Rattle.logic.specs.Arithmetic.{Arithmetic}
use Rattle.logic.specs.World.{World, value, truth, Holds}
use Rattle.logic.specs.Rules.{Concludes}
use Rattle.logic.specs.Rules.{by_hyp, by_known, by_assume, by_mp, by_absurd, by_nnpp, by_eqrefl_thing, by_eqrefl_number, by_eqtrans_things, by_eqtrans_numbers}
use Rattle.logic.specs.Rules.{by_eqsymm_things, by_eqsymm_numbers, by_eqsub, by_and1, by_and2, by_orimp, by_negelim, by_addneg, by_intro, by_elimnot, by_inst}
use Rattle.logic.proofs.Hypotheses.{Each, one_more}
use Rattle.logic.proofs.Values.{put_value}
use Rattle.logic.proofs.Connectives.{implies_from, implies_at, not_both, not_not, nn_implies, or_implies, implies_false, not_implies_false, are_same, from_same, every_at}

-- each of the formulas holds
abbrev pub AllHold : {A : Arithmetic} → World A → (ℕ → Option Formula) → Type 0
AllHold W = Each (Holds W)

module _ {A : Arithmetic} (W : World A) where
  pub within : (t : Thing) → value W [] t ≤ W.last
  within (var i) = zero-le
  within (apply s l) = W.thing_within s _

  module _ (made : ℕ → Option Formula) (known_hold : AllHold W made) where
    pub sound : {H : List Formula} {P : Proof} {φ : Formula} → AllHold W (get_elem? H) → Concludes made H P φ → Holds W φ
    sound hs (by_hyp e) = hs _ _ e
    sound hs (by_known e) = known_hold _ _ e
    sound hs (by_assume d) = implies_from _ _ (λ h. sound (one_more (Holds W) _ _ h hs) d)
    sound hs (by_mp d e) = implies_at _ _ (sound hs d) (sound hs e)
    sound hs (by_absurd d) = absurd (false≢true (sound hs d))
    sound hs (by_nnpp d) = nn_implies _ (sound hs d)
    sound hs by_eqrefl_thing = eq-eqb _ _ refl
    sound hs by_eqrefl_number = from_same refl
    sound hs (by_eqtrans_things d e) = eq-eqb _ _ (eqb-true _ _ (sound hs d) ∙ eqb-true _ _ (sound hs e))
    sound hs (by_eqtrans_numbers d e) = from_same (are_same (sound hs d) ∙ are_same (sound hs e))
    sound hs (by_eqsymm_things d) = eq-eqb _ _ (sym (eqb-true _ _ (sound hs d)))
    sound hs (by_eqsymm_numbers d) = from_same (sym (are_same (sound hs d)))
    sound hs (by_eqsub {t} {u} {ψ} d) = implies_from _ _ (λ h. put_value W 0 [] u ψ ∙ ap (λ v. truth W (v ∷ []) ψ) (sym (eqb-true _ _ (sound hs d))) ∙ sym (put_value W 0 [] t ψ) ∙ h)
    sound hs (by_and1 d) = (and_parts _ _ (sound hs d)).0
    sound hs (by_and2 d) = (and_parts _ _ (sound hs d)).1
    sound hs (by_orimp {φ} {ψ} d) = or_implies (truth W [] φ) (truth W [] ψ) (sound hs d)
    sound hs (by_negelim d e) = not_both _ (sound hs d) (sound hs e)
    sound hs (by_addneg d) = not_not _ (sound hs d)
    sound hs (by_intro d) = implies_false _ (sound hs d)
    sound hs (by_elimnot d) = not_implies_false _ (sound hs d)
    sound hs (by_inst {t} {φ} d) = put_value W 0 [] t φ ∙ every_at W.last _ (sound hs d) (value W [] t) (within t)
