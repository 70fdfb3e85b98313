use Rattle.std.proofs.Common.{pos, refl, ap, arith}
use Rattle.logic.specs.Syntax.{lit, add, minus, eq_numbers}
use Rattle.logic.specs.Facts.{cancel}
use Rattle.rules.specs.Stating.{cancel_tree}
use Rattle.rules.proofs.AnsweredBy.{stated_answer}
use Rattle.rules.proofs.TypedLimits.{number_foralls}
use Rattle.rules.proofs.facts.cancel.Goals as goal

pub returns : goal.returns
returns c = λ M x e. stated_answer M _ (cancel x) (eq_numbers (add x (minus x)) (lit (pos 0))) refl (omega (arith, number_foralls x)) _ (ap cancel_tree e) _ _ c.state.ensures
