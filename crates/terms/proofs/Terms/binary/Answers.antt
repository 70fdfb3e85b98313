use Rattle.std.proofs.Common.{arith}
use Rattle.terms.proofs.Reading.{measured_assumptions, made_measures, made_small, made_earlier}
use Rattle.terms.proofs.Terms.binary.Goals as goal

pub of_binary-requires : goal.of_binary-requires
of_binary-requires c =
    let m = c.get-left.ensures.measures in
    let n = c.get-right.ensures.measures in
    record { size = omega (arith, m.size_is, n.size_is, c.requires.small); left = measured_assumptions _ _ m; right = measured_assumptions _ _ n }

pub keep-requires : goal.keep-requires
keep-requires c =
    let m = c.of_binary.ensures.made in
    record {
      earlier = made_earlier _ _ _ m (omega (arith, c.requires.left, c.requires.right));
      measures = made_measures _ _ _ m (c.of_binary.ensures.measures _ _ c.get-left.ensures.measures c.get-right.ensures.measures);
      small = made_small _ _ _ m c.requires.small;
    }
