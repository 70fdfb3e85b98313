use Rattle.std.proofs.Common.{sym, subst}
use Rattle.table.specs.Contents.{kept}
use Rattle.table.specs.Sameness.{Apart}
use Rattle.table.proofs.Aparts.{apart_take}
use Rattle.table.proofs.Table.truncate.Goals as goal

pub returns-clause-apart : goal.returns-clause-apart
returns-clause-apart g c a =
    subst (Apart g.E.PartialEq.eq) (sym c.truncate.ensures.logged) (apart_take g.E.PartialEq.eq c.args.n (kept c.args.self.now) a)
