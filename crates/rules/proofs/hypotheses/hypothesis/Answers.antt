use Rattle.std.proofs.Common.{◌≡◌, ◌-◌, length, get_or, ap, ◌∙◌, arith}
use mathlib.Core.Option.{some}
use Rattle.rules.specs.Stack.{named}
use Rattle.rules.proofs.Stacks.{hypothesis_at, no_hypothesis}
use Rattle.rules.proofs.hypotheses.hypothesis.Goals as goal

pub returns-in_err-at : goal.returns-in_err-at
returns-in_err-at c = λ f.
    let s = c.args.stack.now in
    ap (named f) c.from_residual.ensures ∙ no_hypothesis f s (length s) c.args.k (omega (arith, c.in_err-at.ensures))

pub returns : goal.returns
returns c = λ f.
    let s = c.args.stack.now in
    let e : c.in_ok-at.at ≡ length s - 1 - c.args.k = omega (arith, c.in_ok-at.ensures) in
    ap (λ j. some (f (get_or s j 0))) e ∙ hypothesis_at f s (length s) c.args.k (omega (arith, c.in_ok-at.ensures))
