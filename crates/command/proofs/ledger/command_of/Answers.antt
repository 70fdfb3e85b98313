use Rattle.std.proofs.Common.{sym, ◌∙◌}
use Rattle.command.specs.declared.head.Operands.TheVariants.{Literal}
use Rattle.command.specs.LedgerLines.{written_length, none_without_code, none_with_code, line_with_code, line_with_numbers}
use Rattle.command.specs.Words.{coded_names}
use Rattle.command.proofs.ledger.command_of.Goals as goal

pub returns-then-line-ne-LENGTH : goal.returns-then-line-ne-LENGTH
returns-then-line-ne-LENGTH c x w = c.if-line-ne-LENGTH.true (written_length c.args.line.now x w)

pub returns-in_err-code : goal.returns-in_err-code
returns-in_err-code c = rw c.from_residual.ensures (none_without_code c.args.line.now c.if-line-ne-LENGTH.false c.in_err-code.ensures)

pub returns-in_err-head : goal.returns-in_err-head
returns-in_err-head c = rw c.from_residual-in_err-head.ensures (none_with_code c.args.line.now c.if-line-ne-LENGTH.false c.in_ok-code.code c.in_ok-code.ensures.0 c.in_ok-code.ensures.1 c.in_err-head.ensures.value)

pub returns-in-Literal : goal.returns-in-Literal
returns-in-Literal c = line_with_code c.args.line.now c.if-line-ne-LENGTH.false c.in_ok-code.code c.in_ok-code.ensures.0 c.in_ok-code.ensures.1 c.in_ok-head.head ((coded_names c.in_ok-code.code c.in_ok-head.head).0 (sym c.in_ok-head.ensures.value)) Literal (sym c.in-Literal.is ∙ c.operands.ensures) c.literal_operand.result c.literal_operand.ensures

pub returns-in_default : goal.returns-in_default
returns-in_default c =
    line_with_numbers c.args.line.now c.if-line-ne-LENGTH.false c.in_ok-code.code c.in_ok-code.ensures.0 c.in_ok-code.ensures.1 c.in_ok-head.head ((coded_names c.in_ok-code.code c.in_ok-head.head).0 (sym c.in_ok-head.ensures.value)) c.operands.result c.uses.result c.operands.ensures c.uses.ensures c.in_default.not-Literal c.number_operands.result c.number_operands.ensures
