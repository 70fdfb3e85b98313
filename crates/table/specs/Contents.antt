-- A table by what it keeps.
use Rattle.std.specs.Prelude.{ℕ, List}
use Rattle.table.specs.declared.Table.{Table}
use Rattle.table.specs.Logged.{logged, capacity}

-- the entries kept, in the order in which they came
abbrev pub kept : {E : Type 0} → Table E → List E
kept t = logged t.log

-- how many entries it has places for
abbrev pub places : {E : Type 0} → Table E → ℕ
places t = capacity t.log
