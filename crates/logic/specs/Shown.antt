-- The worked examples as text: each question, and what the rules answer.
use Rattle.std.specs.Prelude.{ℕ, Bool, true, false, cond, List, [], ◌∷◌, ◌++◌, codes, decimal, ◌==◌}
use Prim.Native.String.{String}
use Rattle.std.proofs.Math.Option.{Option, none, some}
use Rattle.std.specs.Fmt.{signed_decimal}
use Rattle.logic.specs.Syntax.{Thing, Things, Number, Connective, Relation, Formula, OneSided, TwoSided, Plan, OnePremise, TwoPremises, Proof}
use Rattle.logic.specs.Rules.{conclude}
use Rattle.logic.specs.Facts.{Fact, Stated, state}
use Rattle.logic.specs.Plans.{turn, symbols, distinct}
use Rattle.logic.specs.Positions.{misfit_at}
use Rattle.logic.specs.Examples.{Numbers, Question, arithmetic, arity, only, questions}

abbrev one : String → List ℕ → List ℕ
one head a = codes head ++ (codes "(" ++ (a ++ codes ")"))

abbrev two : String → List ℕ → List ℕ → List ℕ
two head a b = codes head ++ (codes "(" ++ (a ++ (codes ", " ++ (b ++ codes ")"))))

-- the names of the examples' symbols
abbrev thing_name : ℕ → List ℕ
thing_name s = cond (s == 1) (codes "f") (cond (s == 2) (codes "g") (codes "d"))

abbrev number_name : ℕ → List ℕ
number_name s = cond (s == 1) (codes "x") (cond (s == 2) (codes "y") (codes "z"))

abbrev predicate_name : ℕ → List ℕ
predicate_name s = cond (s == 5) (codes "q") (cond (s == 6) (codes "r") (codes "p"))

-- a symbol with its arguments, if it has any
abbrev applied : List ℕ → Things → List ℕ → List ℕ
applied name Things.nil arguments = name
applied name (Things.cons t l) arguments = name ++ (codes "(" ++ (arguments ++ codes ")"))

abbrev joined_by_comma : List ℕ → Things → List ℕ → List ℕ
joined_by_comma t Things.nil rest = t
joined_by_comma t (Things.cons u l) rest = t ++ (codes ", " ++ rest)

abbrev mutual
  shown_thing : Thing → List ℕ
  shown_thing (Thing.var i) = codes "v" ++ decimal i
  shown_thing (Thing.apply s l) = applied (thing_name s) l (shown_things l)

  shown_things : Things → List ℕ
  shown_things Things.nil = []
  shown_things (Things.cons t l) = joined_by_comma (shown_thing t) l (shown_things l)

abbrev shown_number : Number → List ℕ
shown_number (Number.lit n) = signed_decimal n
shown_number (Number.add a b) = two "add" (shown_number a) (shown_number b)
shown_number (Number.minus a) = one "minus" (shown_number a)
shown_number (Number.measure s l) = applied (number_name s) l (shown_things l)

abbrev connective_name : Connective → String
connective_name Connective.implication = "implies"
connective_name Connective.conjunction = "and"
connective_name Connective.disjunction = "or"

abbrev relation_name : Relation → String
relation_name Relation.equal = "eq"
relation_name Relation.at_most = "leq"

abbrev shown_formula : Formula → List ℕ
shown_formula Formula.falsity = codes "false"
shown_formula (Formula.connect c φ ψ) = two (connective_name c) (shown_formula φ) (shown_formula ψ)
shown_formula (Formula.neg φ) = one "neg" (shown_formula φ)
shown_formula (Formula.eq_things t u) = two "eq" (shown_thing t) (shown_thing u)
shown_formula (Formula.relate r a b) = two (relation_name r) (shown_number a) (shown_number b)
shown_formula (Formula.atom s l) = applied (predicate_name s) l (shown_things l)
shown_formula (Formula.forall φ) = one "forall" (shown_formula φ)

abbrev shown_step : OneSided → List ℕ → List ℕ
shown_step OneSided.skip p = one "skip" p
shown_step (OneSided.skol s) p = two "skol" (thing_name s) p
shown_step OneSided.recnn p = one "recnn" p

abbrev fork_name : TwoSided → String
fork_name TwoSided.recand = "recand"
fork_name TwoSided.recor = "recor"
fork_name TwoSided.recnor = "recnor"
fork_name TwoSided.recnand = "recnand"

abbrev shown_plan : Plan → List ℕ
shown_plan Plan.id = codes "id"
shown_plan (Plan.step h p) = shown_step h (shown_plan p)
shown_plan (Plan.fork h p q) = two (fork_name h) (shown_plan p) (shown_plan q)

abbrev premise_name : OnePremise → String
premise_name OnePremise.nnpp = "nnpp"
premise_name OnePremise.eqsymm = "eqsymm"
premise_name OnePremise.and1 = "and1"
premise_name OnePremise.and2 = "and2"
premise_name OnePremise.orimp = "orimp"
premise_name OnePremise.addneg = "addneg"
premise_name OnePremise.intro = "intro"
premise_name OnePremise.elimnot = "elimnot"

abbrev premises_name : TwoPremises → String
premises_name TwoPremises.mp = "mp"
premises_name TwoPremises.eqtrans = "eqtrans"
premises_name TwoPremises.negelim = "negelim"

abbrev shown_proof : Proof → List ℕ
shown_proof (Proof.hyp i) = one "hyp" (decimal i)
shown_proof (Proof.known k) = codes "known"
shown_proof (Proof.assume φ P) = two "assume" (shown_formula φ) (shown_proof P)
shown_proof (Proof.absurd P φ) = two "absurd" (shown_proof P) (shown_formula φ)
shown_proof (Proof.eqrefl_thing t) = one "eqrefl" (shown_thing t)
shown_proof (Proof.eqrefl_number a) = one "eqrefl" (shown_number a)
shown_proof (Proof.eqsub P ψ) = two "eqsub" (shown_proof P) (shown_formula ψ)
shown_proof (Proof.inst t P) = two "inst" (shown_thing t) (shown_proof P)
shown_proof (Proof.from r P) = one (premise_name r) (shown_proof P)
shown_proof (Proof.from_both r P Q) = two (premises_name r) (shown_proof P) (shown_proof Q)

abbrev shown_fact : Fact → List ℕ
shown_fact (Fact.sum a b) = two "sum" (shown_number a) (shown_number b)
shown_fact (Fact.atmost a b) = two "atmost" (shown_number a) (shown_number b)
shown_fact (Fact.cancel a) = one "cancel" (shown_number a)
shown_fact (Fact.swap a b) = two "swap" (shown_number a) (shown_number b)
shown_fact (Fact.eqleq a b) = two "eqleq" (shown_number a) (shown_number b)
shown_fact (Fact.leqtrans a b c) = two "leqtrans" (shown_number a) (two "" (shown_number b) (shown_number c))
shown_fact (Fact.pair φ ψ) = two "pair" (shown_formula φ) (shown_formula ψ)

abbrev numbers_name : Numbers → List ℕ
numbers_name Numbers.whole_numbers = codes "whole numbers"
numbers_name Numbers.counting = codes "counts"

-- what the rules give
abbrev given : Option Formula → List ℕ
given none = codes "nothing"
given (some φ) = shown_formula φ

abbrev said : Stated → List ℕ
said Stated.uncarried = codes "nothing, since sums are not carried"
said Stated.misshapen = codes "nothing, since it has not the shape"
said Stated.unadmitted = codes "nothing, since the sum is not admitted"
said (Stated.formula φ) = shown_formula φ

abbrev answer : Bool → String → String → List ℕ
answer true yes_text no_text = codes yes_text
answer false yes_text no_text = codes no_text

abbrev shown_question : Question → List ℕ
shown_question (Question.turned p φ ψ) = shown_plan p ++ (codes " turns " ++ (shown_formula φ ++ (codes " into " ++ given (turn arity 0 p φ))))
shown_question (Question.concluded φ P ψ) = codes "with " ++ (shown_formula φ ++ (codes " known, " ++ (shown_proof P ++ (codes " concludes " ++ given (conclude (only φ) [] P)))))
shown_question (Question.unfit φ P k) = codes "with " ++ (shown_formula φ ++ (codes " known, " ++ (shown_proof P ++ (codes " does not fit at sub-proof " ++ decimal (misfit_at (only φ) P)))))
shown_question (Question.stated n fact ψ) = numbers_name n ++ (codes ": " ++ (shown_fact fact ++ (codes " states " ++ said (state (arithmetic n) fact))))
shown_question (Question.not_carried n fact) = numbers_name n ++ (codes ": " ++ (shown_fact fact ++ (codes " states " ++ said (state (arithmetic n) fact))))
shown_question (Question.no_literal n m) = numbers_name n ++ (codes ": " ++ (signed_decimal m ++ answer ((arithmetic n).admits m) " is a literal" " is no literal"))
shown_question (Question.shared p) = shown_plan p ++ answer (distinct (symbols p)) " has each Skolem symbol once" " has a Skolem symbol twice"

abbrev shown_each : List Question → List ℕ
shown_each [] = []
shown_each (x ∷ xs) = shown_question x ++ (10 ∷ shown_each xs)

-- a line for each example
unfoldable pub shown_examples : List ℕ
shown_examples = shown_each questions
