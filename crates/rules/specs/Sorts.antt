-- The classes of operands that a head takes.
use Rattle.std.specs.Prelude.{Bool, true, false, ◌&&◌, ◌||◌}
use Rattle.logic.specs.Tree.{Unary, Binary}
use Rattle.terms.specs.declared.records.Class.{Class}
use Rattle.terms.specs.declared.records.Class.TheVariants.{Things, Number, Formula, Plan, Proof}
use Rattle.rules.specs.Forms.{is_thing}

abbrev pub is_list : Class → Bool
is_list Things = true
is_list c = false

abbrev pub is_number : Class → Bool
is_number Number = true
is_number c = false

abbrev pub is_formula : Class → Bool
is_formula Formula = true
is_formula c = false

abbrev pub is_plan : Class → Bool
is_plan Plan = true
is_plan c = false

abbrev pub is_proof : Class → Bool
is_proof Proof = true
is_proof c = false

-- `eqrefl` takes a thing or a number term
abbrev pub takes_one : Unary → Class → Bool
takes_one (Unary.application k s) c = is_list c
takes_one Unary.minus c = is_number c
takes_one Unary.neg c = is_formula c
takes_one Unary.forall c = is_formula c
takes_one (Unary.step h) c = is_plan c
takes_one Unary.eqrefl c = is_thing c || is_number c
takes_one (Unary.from r) c = is_proof c

-- `eq` takes two things or two number terms
abbrev pub takes_two : Binary → Class → Class → Bool
takes_two Binary.cons c d = is_thing c && is_list d
takes_two Binary.add c d = is_number c && is_number d
takes_two (Binary.connect k) c d = is_formula c && is_formula d
takes_two Binary.eq c d = is_thing c && is_thing d || is_number c && is_number d
takes_two Binary.leq c d = is_number c && is_number d
takes_two (Binary.fork h) c d = is_plan c && is_plan d
takes_two Binary.assume c d = is_formula c && is_proof d
takes_two Binary.absurd c d = is_proof c && is_formula d
takes_two Binary.eqsub c d = is_proof c && is_formula d
takes_two Binary.inst c d = is_thing c && is_proof d
takes_two (Binary.from_both r) c d = is_proof c && is_proof d
