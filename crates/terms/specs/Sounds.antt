-- A fact about entries that a table of terms carries: there is at most one proof of it.
use Rattle.std.specs.Prelude.{List, [], ◌∷◌}
use Rattle.std.specs.Coded.{×_prop, Unit-prop}
use Rattle.std.proofs.Props.{props}
use Rattle.table.specs.Sameness.{Apart}
use Rattle.terms.specs.declared.records.Entry.{Entry}
use Rattle.terms.specs.Nodes.{same_entry}
use Rattle.terms.specs.Meaning.{Sound}

pub apart_prop : (es : List Entry) → IsProp (Apart same_entry es)
apart_prop [] = Unit-prop
apart_prop (e ∷ es) = ×_prop (Prim.hlevel props) (apart_prop es)

pub sound_prop : (es : List Entry) → IsProp (Sound es)
sound_prop es = Prim.hlevel (props, apart_prop)
