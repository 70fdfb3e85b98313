-- A list over lent memory by what it holds.
use Rattle.std.specs.Prelude.{ℕ, List, length, take}
use Rattle.table.specs.declared.log.Log.{Log}

-- the entries, in the order in which they came
abbrev pub logged : {E : Type 0} → Log E → List E
logged t = take t.used t.slots.now

-- how many entries it has places for
abbrev pub capacity : {E : Type 0} → Log E → ℕ
capacity t = length t.slots.now
