use Rattle.std.proofs.Common.{◌≡◌, ap, ◌∙◌, ap₂, arith, w64, to_z, of_z, rules}
use Rattle.logic.specs.Facts.{sum}
use Rattle.logic.specs.Syntax.{lit, add, eq_numbers}
use Rattle.logic.specs.Tree.{number_tree}
use Rattle.terms.specs.Outcome.{tree}
use Rattle.rules.specs.Stating.{sum_tree}
use Rattle.rules.proofs.AnsweredBy.{stopped_answer, stated_answer}
use Rattle.rules.proofs.Literals.{total_small, total_refused, total_states}
use Rattle.rules.proofs.TypedLimits.{number_foralls}
use Rattle.rules.proofs.facts.sum.Goals as goal

pub returns-in_err-n : goal.returns-in_err-n
returns-in_err-n g c = λ x y e f p q.
    let M = g.A.Arithmetic.meaning in
    stopped_answer M _ (sum x y) _ _ c.from_residual.ensures.1 (total_refused M x y e f p q _ c.in_err-n.ensures)

pub keep_small-requires-clause-small : goal.keep_small-requires-clause-small
keep_small-requires-clause-small g c =
    let T = c.args.terms.now in
    let z = total_small g.A.Arithmetic.meaning (tree T c.args.a) (tree T c.args.b) c.in_ok-n.n c.in_ok-n.ensures in
    omega (arith, z.0, z.1)

pub returns : goal.returns
returns g c = λ x y e f p q.
    let M = g.A.Arithmetic.meaning in
    let n = c.in_ok-n.n in
    let z = total_states M x y e f p q n c.in_ok-n.ensures in
    let r : to_z w64 (of_z w64 n) ≡ n = search rules in
    let stands = ap₂ (λ s t. sum_tree s t (to_z w64 (of_z w64 n))) e f ∙ ap (sum_tree (number_tree x) (number_tree y)) r in
    stated_answer M _ (sum x y) (eq_numbers (add x y) (lit n)) z (omega (arith, number_foralls x, number_foralls y)) _ stands _ _ c.keep_small.ensures
