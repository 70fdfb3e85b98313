use Rattle.std.proofs.Common.{refl, ap, arith}
use Rattle.logic.specs.Tree.{size}
use Rattle.terms.specs.Heads.{binary_head}
use Rattle.terms.proofs.Outcomes.{left_broke, still_means, still_within}
use Rattle.rules.proofs.Joining.{right_then_broke, then_two_small, then_two_did}
use Rattle.rules.proofs.draft.TwoDraft.keep.Goals as goal

pub returns-in_err-left : goal.returns-in_err-left
returns-in_err-left g c = left_broke _ _ _ _ refl _ _ _ _ c.in_err-left.ensures c.from_residual.ensures.0

pub keep-requires-2-clause-operands : goal.keep-requires-2-clause-operands
keep-requires-2-clause-operands g c =
    let d = c.in_ok-left.ensures in
    g.met.R.Draft.still_within _ _ _ _ (still_within _ _ _ _ d) (still_means _ _ _ _ d) c.args.self.2 c.requires.operands.1

pub keep-requires-2-clause-small : goal.keep-requires-2-clause-small
keep-requires-2-clause-small g c =
    let same = g.met.R.Draft.still_drawn _ _ _ (still_means _ _ _ _ c.in_ok-left.ensures) c.args.self.2 c.requires.operands.1 in
    omega (arith, ap size same, c.requires.small)

pub returns-in_err-right : goal.returns-in_err-right
returns-in_err-right g c =
    let same = g.met.R.Draft.still_drawn _ _ _ (still_means _ _ _ _ c.in_ok-left.ensures) c.args.self.2 c.requires.operands.1 in
    right_then_broke _ _ same _ _ _ _ _ _ c.in_ok-left.ensures c.in_err-right.ensures c.from_residual-in_err-right.ensures.0

pub binary-requires-clause-small : goal.binary-requires-clause-small
binary-requires-clause-small g c =
    let same = g.met.R.Draft.still_drawn _ _ _ (still_means _ _ _ _ c.in_ok-left.ensures) c.args.self.2 c.requires.operands.1 in
    then_two_small (binary_head c.args.self.0) _ same c.requires.small _ _ _ _ _ c.in_ok-left.ensures c.in_ok-right.ensures

pub returns : goal.returns
returns g c =
    let same = g.met.R.Draft.still_drawn _ _ _ (still_means _ _ _ _ c.in_ok-left.ensures) c.args.self.2 c.requires.operands.1 in
    then_two_did _ _ same _ _ _ _ _ _ _ c.in_ok-left.ensures c.in_ok-right.ensures c.binary.ensures
