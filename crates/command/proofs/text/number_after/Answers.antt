use Rattle.std.proofs.Common.{◌≡◌, ◌∷◌, true, rules}
use Rattle.command.specs.FieldsLemmas.{field_none}
use Rattle.command.proofs.text.number_after.Goals as goal

pub returns-in_err-n : goal.returns-in_err-n
returns-in_err-n g c =
    let n = g.N.Numeral in
    let after = c.in_ok-strip_prefix.field-0.now in
    let blank : c.args.line.now ≡ 32 ∷ after = search rules in
    rw c.from_residual-in_err-n.ensures
    (field_none after c.parted.result.0.now c.parted.result.1.now c.parted.ensures n.written (n.fits true) g.met.N.Numeral.unblank c.args.line.now blank c.in_err-n.ensures)
