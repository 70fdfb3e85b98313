use Rattle.std.proofs.Common.{rules, Decides, ◌≡◌}
use Rattle.std.proofs.lemmas.Bool.Decides.{same_from_decides}
use Rattle.terms.specs.NodesLemmas.{decides_same}
use Rattle.terms.proofs.records.EntryPartialEq.eq.Goals as goal

pub returns : goal.returns
returns c =
    let r = c.args.self.now.record in
    let s = c.args.other.now.record in
    let d : Decides c.eq.result (r ≡ s) = search rules in
    same_from_decides _ _ d (decides_same r s)
