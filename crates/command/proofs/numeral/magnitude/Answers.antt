use Rattle.std.proofs.Common.{◌≡◌, ℕ, length, subst, arith}
use Rattle.std.proofs.lemmas.Bool.Decides.{nat_tests}
use Rattle.command.specs.Numerals.{Read, one_more, none_beyond, none_empty, none_after_zero, all_read}
use Rattle.command.proofs.numeral.magnitude.Goals as goal

pub returns-then-is_empty : goal.returns-then-is_empty
returns-then-is_empty c = none_empty c.args.digits.now c.args.most (omega arith) (grind (arith, nat_tests))

pub returns-then-has_leading_zero : goal.returns-then-has_leading_zero
returns-then-has_leading_zero c =
    let zero = c.has_leading_zero.ensures.0 c.if-has_leading_zero.true in
    none_after_zero c.args.digits.now c.args.most (omega arith) zero.0 zero.1

pub loop-byte-preserved : goal.loop-byte-preserved
loop-byte-preserved c =
    let e = c.in_ok-value.ensures in
    let i = c.loop-byte.invariant in
    let more = one_more c.args.digits.now c.loop-byte.byte-index c.loop-byte.value c.loop-byte-test.true i.0 e.0 e.1 in
    (rw e.2 more, e.3, i.2, i.3)

pub returns-in_err-value : goal.returns-in_err-value
returns-in_err-value c =
    rw c.from_residual.ensures
    (none_beyond c.args.digits.now c.loop-byte.byte-index c.loop-byte.value c.args.most c.loop-byte-test.true (omega arith) c.loop-byte.invariant.0
    c.in_err-value.ensures)

pub returns : goal.returns
returns c =
    let i = c.loop-byte.invariant in
    let end : c.loop-byte.byte-index ≡ length c.args.digits.now = omega arith in
    let whole : Read c.args.digits.now (length c.args.digits.now) c.loop-byte.value = subst (λ (k : ℕ). Read c.args.digits.now k c.loop-byte.value) end i.0 in
    (i.1, all_read c.args.digits.now c.loop-byte.value c.args.most (omega arith) i.1 whole i.2 i.3)
