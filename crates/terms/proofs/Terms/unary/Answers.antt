use Rattle.std.proofs.Common.{arith}
use Rattle.terms.proofs.Reading.{measured_foralls}
use Rattle.terms.proofs.Terms.unary.Goals as goal

pub of_unary-requires : goal.of_unary-requires
of_unary-requires c =
    let m = c.get-operand.ensures.measures in
    record { size = omega (arith, m.size_is, c.get-operand.ensures.small); foralls = measured_foralls _ _ m }
