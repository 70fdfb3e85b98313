use Rattle.std.proofs.Common.{◌≡◌, drop, ℤ, sym, subst, w64, SFits, rules}
use Rattle.std.proofs.lemmas.Int.{to_z-of_z}
use Rattle.std.specs.Fmt.{signed_decimal}
use Rattle.command.specs.declared.head.Operands.TheVariants.{Literal}
use Rattle.command.specs.Heads.{used_by}
use Rattle.command.specs.Written.{Suits, justified}
use Rattle.command.specs.LedgerLines.{none_without_literal, literal_line}
use Rattle.command.proofs.ledger.literal_operand.Goals as goal

pub returns-in_err-literal : goal.returns-in_err-literal
returns-in_err-literal c = rw c.from_residual.ensures (none_without_literal c.args.line.now c.requires c.args.code c.in_err-literal.ensures)

pub returns : goal.returns
returns c =
    let z = c.in_ok-literal.literal in
    let fits : SFits w64 z = search rules in
    subst (λ (y : ℤ). Suits (used_by Literal) c.args.code (record { code = c.args.code; a = 0; b = 0; c = 0; literal = y }) × (justified 24 (signed_decimal y) ≡ drop 4 c.args.line.now)) (sym (to_z-of_z w64 z fits))
    (literal_line c.args.line.now c.requires c.args.code z c.in_ok-literal.ensures)
