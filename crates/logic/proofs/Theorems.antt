-- The theorems, from the lemmas.
use Rattle.std.proofs.Common.{◌≡◌, ℕ, [], sym, refl, ap, ◌∙◌, subst, inl, inr}
use mathlib.Core.Bool.{false≢true}
use mathlib.Core.Option.{some, none-ne-some}
use Rattle.std.proofs.lemmas.Bool.{leb-true, le-leb}
use Rattle.logic.specs.Syntax.{Formula}
use Rattle.logic.specs.Tree.{thing_tree, formula_tree, size}
use Rattle.logic.specs.World.{Holds, reread}
use Rattle.logic.specs.Theorems.{SubstitutionCommutesWithTruth, ConclusionsHold, FactsHold, PlansHoldAfterRereading, RefutedHoldsNowhere, FunctionsAreTheRules, ProofsFitWhereEachPartFits, ClosednessIsKept, ArithmeticsAreLawful, TreesStandForTerms}
use Rattle.logic.proofs.Values.{put_value}
use Rattle.logic.proofs.RulesHold.{sound}
use Rattle.logic.proofs.FactsHold.{fact_holds}
use Rattle.logic.proofs.Skolem.{skolem}
use Rattle.logic.proofs.RulesAre.{concluded, conclude_gives}
use Rattle.logic.proofs.PlansAre.{turned, turn_gives}
use Rattle.logic.proofs.FactsAre.{fact_stated, state_gives}
use Rattle.logic.proofs.PositionsRight.{fits, no_misfit}
use Rattle.logic.proofs.ClosedKept.{concluded_open, turned_open, closed_truth}
use Rattle.logic.proofs.Arithmetics.{whole_lawful, counts_lawful}
use Rattle.logic.proofs.Trees.{tree_injective, put_formula_tree, late_instance, put_tree_size}

pub that_substitution_commutes_with_truth : SubstitutionCommutesWithTruth
that_substitution_commutes_with_truth A W ρ t φ = put_value W 0 ρ t φ

pub that_conclusions_hold : ConclusionsHold
that_conclusions_hold A W made H P φ known_hold hyps_hold d = sound W made known_hold hyps_hold d

pub that_facts_hold : FactsHold
that_facts_hold A L W f φ states ok = fact_holds L W states ok

pub that_plans_hold_after_rereading : PlansHoldAfterRereading
that_plans_hold_after_rereading A arity p φ ψ turns fresh W h =
    let r = skolem A turns fresh.once fresh.new W in
    (reread W r.table r.within, record { last_kept = refl; thing_kept = r.kept; number_kept = λ s l. refl; predicate_kept = λ s l. refl }, r.good [] refl h)

pub that_refuted_holds_nowhere : RefutedHoldsNowhere
that_refuted_holds_nowhere A L arity query r W h =
    let v = that_plans_hold_after_rereading A arity r.plan query r.initial r.turned r.fresh W h in
    let known_hold : ((k : ℕ) (φ : Formula) → r.made k ≡ some φ → Holds v.0 φ) = λ k φ e.
    elim (r.drawn k φ e) [
      | inl is ↦ subst (Holds v.0) (sym is) v.2
      | inr fact ↦ fact_holds L v.0 fact.1 fact.2
    ] in
    false≢true (sound v.0 r.made known_hold (λ i φ e. absurd (none-ne-some φ e)) r.concludes)

pub that_functions_are_the_rules : FunctionsAreTheRules
that_functions_are_the_rules = record {
  proofs = λ made H P φ. (concluded made H P φ, conclude_gives made);
  plans = λ arity n p φ ψ. (turned arity n p φ ψ, turn_gives arity);
  facts = λ A f φ. (fact_stated A f φ, state_gives A);
}

pub that_proofs_fit_where_each_part_fits : ProofsFitWhereEachPartFits
that_proofs_fit_where_each_part_fits made P = (fits made P, λ d. no_misfit made P d.0 d.1)

pub that_closedness_is_kept : ClosednessIsKept
that_closedness_is_kept = record {
  formulas = λ A W ρ σ φ h. closed_truth W ρ σ φ (leb-true _ _ h);
  proofs = λ made P φ closed c d. le-leb _ _ (concluded_open made (λ k ψ e. leb-true _ _ (closed k ψ e)) (λ i ψ e. absurd (none-ne-some ψ e)) d c);
  plans = λ arity p φ ψ d h. le-leb _ _ (turned_open d (leb-true _ _ h));
}

pub that_arithmetics_are_lawful : ArithmeticsAreLawful
that_arithmetics_are_lawful = record { of_whole = whole_lawful; of_counts = counts_lawful }

pub that_trees_stand_for_terms : TreesStandForTerms
that_trees_stand_for_terms = record {
  different = tree_injective;
  substitution = put_formula_tree;
  late = λ t φ. sym (late_instance t φ);
  sizes = λ k t φ. ap size (put_formula_tree k t φ) ∙ put_tree_size k (thing_tree t) (formula_tree φ);
}
