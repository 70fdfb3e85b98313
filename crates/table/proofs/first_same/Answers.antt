use Rattle.std.proofs.Common.{rules, sym, ◌∙◌}
use borrow.Author.Tests.{tests}
use Rattle.std.proofs.lemmas.Iterator.{YieldsList-from_slice}
use Rattle.std.proofs.lemmas.Iterator.Search.{position_from_yields_List}
use Rattle.table.proofs.Firsts.{first_is_position}
use Rattle.table.proofs.Aparts.{first_is_the_one}
use Rattle.table.proofs.first_same.Goals as goal

pub returns-clause-first : goal.returns-clause-first
returns-clause-first g c =
    position_from_yields_List (λ x. g.E.PartialEq.eq x c.args.e.now) _ _ c.position.result c.position.ensures.ran (YieldsList-from_slice c.args.entries.now cc) (λ x b q k. search (rules, tests))
    ∙ sym (first_is_position g.E.PartialEq.eq c.args.e.now c.args.entries.now)

pub returns-clause-only : goal.returns-clause-only
returns-clause-only g c = first_is_the_one g.E.PartialEq.eq g.met.E.Eq.laws
