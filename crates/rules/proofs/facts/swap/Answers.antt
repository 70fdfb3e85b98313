use Rattle.std.proofs.Common.{refl, ap₂, arith}
use Rattle.logic.specs.Syntax.{add, eq_numbers}
use Rattle.logic.specs.Facts.{swap}
use Rattle.rules.specs.Stating.{swap_tree}
use Rattle.rules.proofs.AnsweredBy.{stated_answer}
use Rattle.rules.proofs.TypedLimits.{number_foralls}
use Rattle.rules.proofs.facts.swap.Goals as goal

pub returns : goal.returns
returns c = λ M x y e g. stated_answer M _ (swap x y) (eq_numbers (add x y) (add y x)) refl (omega (arith, number_foralls x, number_foralls y)) _ (ap₂ swap_tree e g) _ _ c.state.ensures
