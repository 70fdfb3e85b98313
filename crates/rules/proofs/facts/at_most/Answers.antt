use Rattle.std.proofs.Common.{cond, ap, ◌∙◌, ap₂, arith}
use Rattle.logic.specs.Facts.{atmost, formula}
use Rattle.logic.specs.Syntax.{leq, neg}
use Rattle.logic.specs.Tree as trees
use Rattle.logic.specs.Tree.{binary}
use Rattle.terms.specs.Outcome.{tree}
use Rattle.rules.specs.Stating.{above_tree}
use Rattle.rules.proofs.AnsweredBy.{stopped_answer, stated_answer}
use Rattle.rules.proofs.Literals.{compared_small, compared_refused, compared_states}
use Rattle.rules.proofs.TypedLimits.{number_foralls}
use Rattle.rules.proofs.facts.at_most.Goals as goal

pub returns-in_err-compared : goal.returns-in_err-compared
returns-in_err-compared g c = λ x y e f.
    let M = g.A.Arithmetic.meaning in
    stopped_answer M _ (atmost x y) _ _ c.from_residual.ensures.1 (compared_refused M x y e f _ c.in_err-compared.ensures)

pub keep_small-requires-clause-small : goal.keep_small-requires-clause-small
keep_small-requires-clause-small g c =
    let T = c.args.terms.now in
    let z = compared_small g.A.Arithmetic.meaning (tree T c.args.a) (tree T c.args.b) c.in_ok-compared.field-0 c.in_ok-compared.ensures in
    omega (arith, z.0, z.1)

pub keep_small-requires-else-branch-clause-small : goal.keep_small-requires-else-branch-clause-small
keep_small-requires-else-branch-clause-small g c =
    let T = c.args.terms.now in
    let z = compared_small g.A.Arithmetic.meaning (tree T c.args.a) (tree T c.args.b) c.in_ok-compared.field-0 c.in_ok-compared.ensures in
    omega (arith, z.0, z.1)

pub returns-then-branch : goal.returns-then-branch
returns-then-branch g c = λ x y e f.
    let M = g.A.Arithmetic.meaning in
    let says = compared_states M x y e f c.in_ok-compared.field-0 c.in_ok-compared.ensures ∙ ap (λ b. formula (cond b (leq x y) (neg (leq x y)))) c.if-branch.true in
    stated_answer M _ (atmost x y) (leq x y) says (omega (arith, number_foralls x, number_foralls y)) _ (ap₂ (binary trees.leq) e f) _ _ c.keep_small.ensures

pub returns-else-branch : goal.returns-else-branch
returns-else-branch g c = λ x y e f.
    let M = g.A.Arithmetic.meaning in
    let says = compared_states M x y e f c.in_ok-compared.field-0 c.in_ok-compared.ensures ∙ ap (λ b. formula (cond b (leq x y) (neg (leq x y)))) c.if-branch.false in
    stated_answer M _ (atmost x y) (neg (leq x y)) says (omega (arith, number_foralls x, number_foralls y)) _ (ap₂ above_tree e f) _ _ c.keep_small-else-branch.ensures
