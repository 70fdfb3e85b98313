use Rattle.std.proofs.Common.{ap, ◌∙◌}
use Rattle.command.specs.Heads.{used_by}
use Rattle.command.specs.TextLines.{line_with_head}
use Rattle.command.proofs.text.command_of.Goals as goal

pub returns : goal.returns
returns c =
    line_with_head c.args.line.now (c.in_ok-head.head, c.in_ok-head.operands) c.in_ok-head.ensures c.uses.result c.code.result c.operands_of.result (c.uses.ensures ∙ ap used_by c.operands.ensures) c.code.ensures c.operands_of.ensures
