use Rattle.std.proofs.Common.{refl, ap₂, arith}
use Rattle.logic.specs.Syntax.{eq_numbers, leq, implies}
use Rattle.logic.specs.Facts.{eqleq}
use Rattle.rules.specs.Stating.{eqleq_tree}
use Rattle.rules.proofs.AnsweredBy.{stated_answer}
use Rattle.rules.proofs.TypedLimits.{number_foralls}
use Rattle.rules.proofs.facts.eqleq.Goals as goal

pub returns : goal.returns
returns c = λ M x y e g. stated_answer M _ (eqleq x y) (implies (eq_numbers x y) (leq x y)) refl (omega (arith, number_foralls x, number_foralls y)) _ (ap₂ eqleq_tree e g) _ _ c.state.ensures
