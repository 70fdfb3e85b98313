use Rattle.std.proofs.Common.{◌<◌, length, arith}
use Rattle.std.proofs.lemmas.Bool.Decides.{nat_tests}
use Rattle.command.specs.Operands.{none_at_b, none_at_c, none_at_literal, none_with_more}
use Rattle.command.proofs.text.operands_of.Goals as goal

pub returns-in_err-b : goal.returns-in_err-b
returns-in_err-b c = rw c.from_residual-in_err-b.ensures (none_at_b c.args.used c.args.code c.args.line.now (c.in_ok-a.a, c.in_ok-a.after_a) c.in_ok-a.ensures c.in_err-b.ensures)

pub returns-in_err-c : goal.returns-in_err-c
returns-in_err-c c =
    rw c.from_residual-in_err-c.ensures
    (none_at_c c.args.used c.args.code c.args.line.now (c.in_ok-a.a, c.in_ok-a.after_a) c.in_ok-a.ensures (c.in_ok-b.b, c.in_ok-b.after_b) c.in_ok-b.ensures c.in_err-c.ensures)

pub returns-in_err-literal : goal.returns-in_err-literal
returns-in_err-literal c =
    rw c.from_residual-in_err-literal.ensures
    (none_at_literal c.args.used c.args.code c.args.line.now (c.in_ok-a.a, c.in_ok-a.after_a) c.in_ok-a.ensures (c.in_ok-b.b, c.in_ok-b.after_b) c.in_ok-b.ensures (c.in_ok-c.c, c.in_ok-c.after_c) c.in_ok-c.ensures c.in_err-literal.ensures)

pub returns-then-not-is_empty : goal.returns-then-not-is_empty
returns-then-not-is_empty c =
    let some : 0 < length c.in_ok-literal.rest.now = grind (arith, nat_tests) in
    none_with_more c.args.used c.args.code c.args.line.now (c.in_ok-a.a, c.in_ok-a.after_a) c.in_ok-a.ensures (c.in_ok-b.b, c.in_ok-b.after_b) c.in_ok-b.ensures (c.in_ok-c.c, c.in_ok-c.after_c) c.in_ok-c.ensures (c.in_ok-literal.literal, c.in_ok-literal.rest) c.in_ok-literal.ensures some
