use Rattle.std.proofs.Common.{rules, ◌≡◌, false, sym, subst}
use Rattle.table.specs.Contents.{kept}
use Rattle.table.specs.Sameness.{has, Apart}
use Rattle.table.proofs.Aparts.{apart_append}
use Rattle.table.proofs.Table.keep.Goals as goal

pub returns-clause-apart : goal.returns-clause-apart
returns-clause-apart g c a =
    let same = g.E.PartialEq.eq in
    let new : has same (kept c.args.self.now) c.args.e ≡ false = search rules in
    subst (Apart same) (sym c.in_ok-push.ensures.logged.1) (apart_append same g.met.E.Eq.laws (kept c.args.self.now) c.args.e new a)
