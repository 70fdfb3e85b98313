use Rattle.std.proofs.Common.{◌≡◌, ◌≤◌, take, drop}
use Rattle.terms.specs.Outcome.{count, entries, made_each, room, trees}
use Rattle.terms.proofs.checked.make_each.Given as goal

abbrev pub invariant-loop-record : goal.invariant-loop-record
invariant-loop-record l =
    (count l.fn.terms ≤ count l.terms) × (take (count l.fn.terms) (entries l.terms) ≡ entries l.fn.terms) × (room l.terms ≡ room l.fn.terms)
    × (made_each (trees l.terms) (drop l.record-index l.records) ≡ made_each (trees l.fn.terms) l.fn.records)
