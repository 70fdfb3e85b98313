use Rattle.command.specs.Numerals.{none_below, none_minus_zero}
use Rattle.command.proofs.numeral.below_zero.Goals as goal

pub returns-in_err-n : goal.returns-in_err-n
returns-in_err-n c = rw c.from_residual.ensures (none_below c.args.digits.now c.in_err-n.ensures)

pub returns-in-0 : goal.returns-in-0
returns-in-0 c = none_minus_zero c.in_ok-n.n c.args.digits.now c.in-0.is c.in_ok-n.ensures.1
