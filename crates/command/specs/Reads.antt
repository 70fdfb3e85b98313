-- What a function that reads answers: a value that has the property, or nothing where no value has it.
use Rattle.std.specs.Prelude.{Some, None, Option}

abbrev pub Reads : {X : Type 0} → (X → Type 0) → Option X → Type 0
Reads {X} P None = (x : X) → P x → ⊥
Reads P (Some x) = P x
