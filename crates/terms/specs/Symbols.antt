-- The symbols that a plan names.
use Rattle.std.specs.Prelude.{Bool, true, false, Ok, Err, Result, ◌==◌}
use Rattle.table.specs.declared.Full.{Full}
use Rattle.table.specs.declared.Place.{Place}
use Rattle.table.specs.declared.Place.TheVariants.{Found, Added}
use Rattle.terms.specs.declared.plan_symbols.PlanSymbol.{PlanSymbol}

abbrev pub same_symbol : PlanSymbol → PlanSymbol → Bool
same_symbol s r = s.symbol == r.symbol

abbrev pub is_added : Place → Bool
is_added (Found i) = false
is_added (Added i) = true

-- whether the entry was not kept yet
abbrev pub newly : Result Place Full → Result Bool Full
newly (Ok p) = Ok (is_added p)
newly (Err f) = Err f
