-- What the commands of a session gave names to.
use Rattle.std.specs.Prelude.{ℕ, ◌-◌, cond, List, Some, None, ◌==◌}
use Rattle.std.proofs.Math.Option.{Option, none, some}
use Rattle.std.specs.List.{slice_get}
use Rattle.std.specs.declared.option.Option as std
use Rattle.terms.specs.declared.records.Kind.{Kind}
use Rattle.terms.specs.declared.records.Kind.TheVariants.{Thing}
use Rattle.rules.specs.declared.names.Named.{Named}
use Rattle.rules.specs.declared.names.Named.TheVariants.{Fact as a_fact}
use Rattle.rules.specs.declared.names.Symbol.{Symbol}

-- the index of the formula made known, if it is one
abbrev pub fact_index : std.Option Named → std.Option ℕ
fact_index (Some (a_fact i)) = Some i
fact_index o = None

-- the index of the formula that command k made known; commands are numbered from 1
abbrev pub fact_at : List Named → ℕ → std.Option ℕ
fact_at names k = cond (k == 0) None (fact_index (slice_get names (k - 1)))

abbrev pub arity_of : Kind → ℕ → std.Option ℕ
arity_of Thing n = Some n
arity_of k n = None

abbrev pub thing_arity : std.Option Symbol → std.Option ℕ
thing_arity None = None
thing_arity (Some y) = arity_of y.kind y.arity

-- how many things the symbol at a place takes, if it is a thing symbol
abbrev pub arity_at : List Symbol → ℕ → std.Option ℕ
arity_at symbols s = thing_arity (slice_get symbols s)

-- the number, if there is one
abbrev pub number_of : std.Option ℕ → Option ℕ
number_of None = none
number_of (Some n) = some n
