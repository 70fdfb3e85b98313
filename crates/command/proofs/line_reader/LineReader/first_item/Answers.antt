use Rattle.std.proofs.Common.{◌≡◌, ◌+◌, ◌-◌, ◌<◌, [], eqb, None, refl, length, take, drop, sym, ap, ◌∙◌, arith, rules}
use borrow.Author.Tests.{tests}
use Rattle.std.proofs.lemmas.List.{length-drop, take_rest}
use Rattle.std.proofs.lemmas.Bool.Decides.{nat_tests}
use Rattle.std.proofs.lemmas.Iterator.{YieldsList-from_slice}
use Rattle.std.proofs.lemmas.Iterator.Search.{position_from_yields_List}
use Rattle.command.proofs.Files.{found_end, found_none, at_last_line, at_line, lines_numbered}
use Rattle.command.proofs.line_reader.LineReader.first_item.Goals as goal

pub returns-in_default : goal.returns-in_default
returns-in_default g c =
    let r = c.args.self.now in
    let s = r.rest.now in
    let at = position_from_yields_List (λ b. eqb b 10) _ _ c.position.result c.position.ensures.ran (YieldsList-from_slice s cc) (λ x b q k. search (rules, tests)) in
    let some : 0 < length s = grind (arith, nat_tests) in
    let none : c.position.result ≡ None = search rules in
    record { numbered = lines_numbered g.F.Form.line r.line s r.few; step = (at_last_line g.F.Form.line r.line s [] some (found_none s (sym none ∙ at)) refl, some) }

pub returns : goal.returns
returns g c =
    let r = c.args.self.now in
    let s = r.rest.now in
    let at = position_from_yields_List (λ b. eqb b 10) _ _ c.position.result c.position.ensures.ran (YieldsList-from_slice s cc) (λ x b q k. search (rules, tests)) in
    let end = c.in-Some.end in
    let found = found_end s end (sym c.in-Some.is ∙ at) in
    let rest = take_rest s (end + 1) in
    record {
      numbered = lines_numbered g.F.Form.line r.line s r.few;
      step = (at_line g.F.Form.line r.line end s (take (length s - (end + 1)) (drop (end + 1) s)) c.read-content.result found.0 found.1 c.read-content.ensures.value rest, omega (arith, found.1, ap length rest, length-drop (end + 1) s));
    }
