use Rattle.std.proofs.Common.{sym, ap, ◌∙◌, subst}
use Rattle.terms.specs.Outcome.{tree, Did}
use Rattle.rules.specs.Building.{built, chosen}
use Rattle.rules.proofs.Settling.{kept_conclusion, ok_before_map_err}
use Rattle.rules.proofs.conclusions.settle.Goals as goal

pub returns : goal.returns
returns c =
    let made = ok_before_map_err c.build.result c.in_ok-formula.formula _ c.in_ok-formula.ensures.cases c.in_ok-formula.ensures.variant in
    let found = c.in_ok-conclusion.ensures.ok_part in
    kept_conclusion c.args.terms.now _ c.args.at _ _ _ (subst (Did c.args.terms.now c.build.new.terms (built (tree c.args.terms.now) c.in_ok-conclusion.conclusion)) made c.build.ensures) (ap (chosen (tree c.args.terms.now)) found) (sym c.within_limits.ensures ∙ c.if-not-within_limits.false)
