use Rattle.command.specs.LedgerLines.{none_without_a, none_without_b, none_without_c, none_if_unfit, numbers_line}
use Rattle.std.proofs.lemmas.Bool.{both_ways}
use Rattle.command.proofs.ledger.number_operands.Goals as goal

pub returns-in_err-a : goal.returns-in_err-a
returns-in_err-a c = rw c.from_residual.ensures (none_without_a c.args.line.now c.requires.0 c.args.used c.args.code c.in_err-a.ensures)

pub returns-in_err-b : goal.returns-in_err-b
returns-in_err-b c = rw c.from_residual-in_err-b.ensures (none_without_b c.args.line.now c.requires.0 c.args.used c.args.code c.in_err-b.ensures)

pub returns-in_err-c : goal.returns-in_err-c
returns-in_err-c c = rw c.from_residual-in_err-c.ensures (none_without_c c.args.line.now c.requires.0 c.args.used c.args.code c.in_err-c.ensures)

pub returns-then-not-unused_are_zero : goal.returns-then-not-unused_are_zero
returns-then-not-unused_are_zero c =
    none_if_unfit c.args.line.now c.requires.0 c.args.used c.args.code c.in_ok-a.a c.in_ok-b.b c.in_ok-c.c c.in_ok-a.ensures c.in_ok-b.ensures c.in_ok-c.ensures
    (λ fits. both_ways c.unused_are_zero.result c.if-not-unused_are_zero.true (c.unused_are_zero.ensures.1 fits))

pub returns : goal.returns
returns c =
    numbers_line c.args.line.now c.requires.0 c.args.used c.args.code c.in_ok-a.a c.in_ok-b.b c.in_ok-c.c c.in_ok-a.ensures c.in_ok-b.ensures c.in_ok-c.ensures c.requires.1
    (c.unused_are_zero.ensures.0 c.if-not-unused_are_zero.false)
