-- The terms of the logic: things, lists of things, number terms, formulas, plans and proofs.
-- A symbol is named by its number. A variable is a de Bruijn index: it counts the binders between its place and its own.
-- One constructor stands for each shape; heads of the same shape are an argument of it.
use Rattle.std.specs.Prelude.{ℕ, Bool, ℤ}
use Rattle.std.proofs.Math.Decide.{ℕ_discrete}
use Rattle.std.proofs.Math.Bool.{decide}
use Rattle.logic.specs.Integers.{int_discrete}

mutual
  pub data Thing : Type 0 where
    var : ℕ → Thing
    apply : ℕ → Things → Thing
    deriving Discrete as ThingDiscrete

  pub data Things : Type 0 where
    nil : Things
    cons : Thing → Things → Things
    deriving Discrete as ThingsDiscrete

-- `measure s l` applies a number symbol
pub data Number : Type 0 where
  lit : ℤ → Number
  add : Number → Number → Number
  minus : Number → Number
  measure : ℕ → Things → Number
  deriving Discrete as NumberDiscrete

pub data Connective : Type 0 where
  implication conjunction disjunction : Connective
  deriving Discrete as ConnectiveDiscrete

-- between number terms
pub data Relation : Type 0 where
  equal at_most : Relation
  deriving Discrete as RelationDiscrete

-- `atom s l` applies a predicate symbol; `forall` binds index 0
pub data Formula : Type 0 where
  falsity : Formula
  connect : Connective → Formula → Formula → Formula
  neg : Formula → Formula
  eq_things : Thing → Thing → Formula
  relate : Relation → Number → Number → Formula
  atom : ℕ → Things → Formula
  forall : Formula → Formula
  deriving Discrete as FormulaDiscrete

abbrev pub implies : Formula → Formula → Formula
implies φ ψ = connect implication φ ψ

abbrev pub and : Formula → Formula → Formula
and φ ψ = connect conjunction φ ψ

abbrev pub or : Formula → Formula → Formula
or φ ψ = connect disjunction φ ψ

abbrev pub eq_numbers : Number → Number → Formula
eq_numbers a b = relate equal a b

abbrev pub leq : Number → Number → Formula
leq a b = relate at_most a b

-- ---- plans: heads with one sub-plan, `skol` with its Skolem symbol, and heads with two

pub data OneSided : Type 0 where
  skip : OneSided
  skol : ℕ → OneSided
  recnn : OneSided
  deriving Discrete as OneSidedDiscrete

pub data TwoSided : Type 0 where
  recand recor recnor recnand : TwoSided
  deriving Discrete as TwoSidedDiscrete

pub data Plan : Type 0 where
  id : Plan
  step : OneSided → Plan → Plan
  fork : TwoSided → Plan → Plan → Plan

-- ---- proofs: `from` and `from_both` apply a rule of one and of two premises

pub data OnePremise : Type 0 where
  nnpp eqsymm and1 and2 orimp addneg intro elimnot : OnePremise
  deriving Discrete as OnePremiseDiscrete

pub data TwoPremises : Type 0 where
  mp eqtrans negelim : TwoPremises
  deriving Discrete as TwoPremisesDiscrete

pub data Proof : Type 0 where
  hyp : ℕ → Proof
  known : ℕ → Proof
  assume : Formula → Proof → Proof
  absurd : Proof → Formula → Proof
  eqrefl_thing : Thing → Proof
  eqrefl_number : Number → Proof
  eqsub : Proof → Formula → Proof
  inst : Thing → Proof → Proof
  from : OnePremise → Proof → Proof
  from_both : TwoPremises → Proof → Proof → Proof

-- ---- tests for sameness

abbrev thing_discrete : Discrete Thing
thing_discrete = ThingDiscrete ℕ_discrete

abbrev number_discrete : Discrete Number
number_discrete = NumberDiscrete int_discrete ℕ_discrete (ThingsDiscrete ℕ_discrete)

abbrev pub same_thing : Thing → Thing → Bool
same_thing t u = decide (thing_discrete t u)

abbrev pub same_number : Number → Number → Bool
same_number a b = decide (number_discrete a b)

abbrev pub same : Formula → Formula → Bool
same φ ψ = decide (FormulaDiscrete ConnectiveDiscrete thing_discrete RelationDiscrete number_discrete ℕ_discrete (ThingsDiscrete ℕ_discrete) φ ψ)
