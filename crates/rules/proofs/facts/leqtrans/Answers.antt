use Rattle.std.proofs.Common.{refl, ap, ◌∙◌, ap₂, arith}
use Rattle.logic.specs.Syntax.{leq, implies}
use Rattle.logic.specs.Facts.{leqtrans}
use Rattle.logic.specs.Tree.{number_tree}
use Rattle.terms.specs.Outcome.{tree}
use Rattle.rules.specs.Stating.{leqtrans_tree}
use Rattle.rules.proofs.AnsweredBy.{stated_answer}
use Rattle.rules.proofs.TypedLimits.{number_foralls}
use Rattle.rules.proofs.facts.leqtrans.Goals as goal

pub returns : goal.returns
returns c = λ M x y z e g h.
    let stands = ap₂ (λ s t. leqtrans_tree s t (tree c.args.terms.now c.args.c)) e g ∙ ap (leqtrans_tree (number_tree x) (number_tree y)) h in
    stated_answer M _ (leqtrans x y z) (implies (leq x y) (implies (leq y z) (leq x z))) refl (omega (arith, number_foralls x, number_foralls y, number_foralls z)) _ stands _ _ c.state.ensures
