use Rattle.std.proofs.Common.{◌≡◌, sym, ap, ◌∙◌, ap₂, w64, to_z, of_z, rules}
use Rattle.logic.specs.Facts.{pair}
use Rattle.logic.specs.Tree.{formula_tree}
use Rattle.terms.specs.Outcome.{tree}
use Rattle.rules.specs.Stating.{pair_tree}
use Rattle.rules.proofs.AnsweredBy.{stopped_answer, stated_answer}
use Rattle.rules.proofs.Bounds.{pair_refused, pair_states}
use Rattle.rules.proofs.facts.pair.Goals as goal

pub returns-in_err-sum : goal.returns-in_err-sum
returns-in_err-sum g c = λ φ ψ e f p q.
    let M = g.A.Arithmetic.meaning in
    stopped_answer M _ (pair φ ψ) _ _ c.from_residual.ensures.1 (pair_refused M φ ψ e f p q _ c.in_err-sum.ensures.is)

pub returns : goal.returns
returns g c = λ φ ψ e f p q.
    let M = g.A.Arithmetic.meaning in
    let T = c.args.terms.now in
    let s = c.in_ok-sum.sum in
    let z = pair_states M φ ψ e f p q (tree T s.first) (tree T s.second) s.limit c.in_ok-sum.ensures.is in
    let r : to_z w64 (of_z w64 s.limit) ≡ s.limit = search rules in
    let stands =
    ap₂ (λ x y. pair_tree x y (tree T s.first) (tree T s.second) (to_z w64 (of_z w64 s.limit))) e f
    ∙ ap (pair_tree (formula_tree φ) (formula_tree ψ) (tree T s.first) (tree T s.second)) r ∙ sym z.3 in
    stated_answer M _ (pair φ ψ) z.0 z.1 z.2 _ stands _ _ c.state.ensures
