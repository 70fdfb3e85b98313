use Rattle.std.proofs.Common.{◌≡◌, List, drop, ap, ◌∙◌, subst, true}
use Rattle.std.proofs.lemmas.List.{take_rest}
use Rattle.command.specs.ColumnsLemmas.{reads_field}
use Rattle.command.specs.Reads.{Reads}
use Rattle.command.proofs.ledger.number_in.Goals as goal

pub returns : goal.returns
returns g c =
    let n = g.N.Numeral in
    let field = c.args.field.now in
    let from = c.blanks_before.result in
    reads_field n.written (n.fits true) g.met.N.Numeral.unblank field c.read.result
    (subst (λ (l : List _). Reads (λ x. n.fits true x × (n.written x ≡ l)) c.read.result) (take_rest field from ∙ ap (λ k. drop k field) c.blanks_before.ensures.0) c.read.ensures)
