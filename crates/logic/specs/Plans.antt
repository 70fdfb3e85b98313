-- Skolemisation plans: what a plan turns a formula into, as a relation and as a function, and when its Skolem symbols are new.
use Rattle.std.specs.Prelude.{◌≡◌, ℕ, zero, suc, ◌+◌, Bool, true, false, not, ◌&&◌, ◌||◌, List, [], ◌∷◌, ◌++◌, ◌==◌}
use Rattle.std.proofs.Math.Option.{Option, none, some}
use Rattle.logic.specs.Syntax.{Things, Connective, Formula, OneSided, TwoSided, Plan}
use Rattle.logic.specs.Syntax.{var, apply, nil, cons, conjunction, disjunction, connect, neg, forall, and, or, same}
use Rattle.logic.specs.Syntax.{id, step, fork, skip, skol, recnn, recand, recor, recnor, recnand}
use Rattle.logic.specs.Substitution.{raise_each, instance_of}
use Rattle.logic.specs.Tree.{formula_tree, stands, thing}
use Rattle.logic.specs.Rules.{when, left, right}

-- the variables of a scope of n binders, the newest first
abbrev pub scope : ℕ → Things
scope zero = nil
scope (suc n) = cons (var 0) (raise_each (scope n))

-- n ⊩ p ∶ φ ⇒ ψ: under a scope of n variables the plan p turns φ into ψ. A thing symbol s takes `arity s` arguments, none if s is no thing symbol.
module _ (arity : ℕ → Option ℕ) where
  infix 10 ◌⊩◌∶◌⇒◌
  pub data ◌⊩◌∶◌⇒◌ : ℕ → Plan → Formula → Formula → Type 0 where
    by_id : {n : ℕ} {φ : Formula} → n ⊩ id ∶ φ ⇒ φ
    by_skip : {n : ℕ} {p : Plan} {φ ψ : Formula} → suc n ⊩ p ∶ φ ⇒ ψ → n ⊩ step skip p ∶ forall φ ⇒ forall ψ
    by_skol : {n s : ℕ} {p : Plan} {φ ψ : Formula} → arity s ≡ some n → n ⊩ p ∶ neg (instance_of φ (apply s (scope n))) ⇒ ψ → n ⊩ step (skol s) p ∶ neg (forall φ) ⇒ ψ
    by_recand : {n : ℕ} {p q : Plan} {φ ψ φ' ψ' : Formula} → n ⊩ p ∶ φ ⇒ φ' → n ⊩ q ∶ ψ ⇒ ψ' → n ⊩ fork recand p q ∶ and φ ψ ⇒ and φ' ψ'
    by_recor : {n : ℕ} {p q : Plan} {φ ψ φ' ψ' : Formula} → n ⊩ p ∶ φ ⇒ φ' → n ⊩ q ∶ ψ ⇒ ψ' → n ⊩ fork recor p q ∶ or φ ψ ⇒ or φ' ψ'
    by_recnor : {n : ℕ} {p q : Plan} {φ ψ φ' ψ' : Formula} → n ⊩ p ∶ neg φ ⇒ φ' → n ⊩ q ∶ neg ψ ⇒ ψ' → n ⊩ fork recnor p q ∶ neg (or φ ψ) ⇒ and φ' ψ'
    by_recnand : {n : ℕ} {p q : Plan} {φ ψ φ' ψ' : Formula} → n ⊩ p ∶ neg φ ⇒ φ' → n ⊩ q ∶ neg ψ ⇒ ψ' → n ⊩ fork recnand p q ∶ neg (and φ ψ) ⇒ or φ' ψ'
    by_recnn : {n : ℕ} {p : Plan} {φ ψ : Formula} → n ⊩ p ∶ φ ⇒ ψ → n ⊩ step recnn p ∶ neg (neg φ) ⇒ ψ

abbrev pub Turns : (ℕ → Option ℕ) → ℕ → Plan → Formula → Formula → Type 0
Turns arity n p φ ψ = ◌⊩◌∶◌⇒◌ arity n p φ ψ

-- ---- the plan as a walk. A plan's positions are counted from 1, heads first, left to right, written out.

pub data Walked : Type 0 where
  -- the first position that does not fit
  misfit : ℕ → Walked
  -- so many positions, all fitting; the formulas that they take or yield; what the plan yields
  yields : ℕ → List Formula → Formula → Walked

-- a position that takes φ, and yields what the head makes of what its sub-plan yields
abbrev pub around : Formula → (Formula → Formula) → Walked → Walked
around φ make (misfit k) = misfit (suc k)
around φ make (yields k met ψ) = yields (suc k) (φ ∷ met ++ (make ψ ∷ [])) (make ψ)

-- the same with two sub-plans
abbrev pub around_both : Formula → (Formula → Formula → Formula) → Walked → Walked → Walked
around_both φ make (misfit k) w = misfit (suc k)
around_both φ make (yields k met ψ) (misfit j) = misfit (suc (k + j))
around_both φ make (yields k met ψ) (yields j met' χ) = yields (suc (k + j)) (φ ∷ met ++ met' ++ (make ψ χ ∷ [])) (make ψ χ)

-- the walk, if the head fits
unfoldable pub if_fits : {A : Type 0} → Option A → (A → Walked) → Walked
if_fits none w = misfit 1
if_fits (some x) w = w x

-- the symbol takes n arguments
abbrev pub takes : Option ℕ → ℕ → Bool
takes none n = false
takes (some m) n = m == n

-- the scope of the sub-plan
abbrev pub inner_scope : OneSided → ℕ → ℕ
inner_scope skip n = suc n
inner_scope (skol s) n = n
inner_scope recnn n = n

-- the formula that the head yields, from its sub-plan's
abbrev pub rebuilt : OneSided → Formula → Formula
rebuilt skip φ = forall φ
rebuilt (skol s) φ = φ
rebuilt recnn φ = φ

abbrev pub rejoined : TwoSided → Connective
rejoined recand = conjunction
rejoined recor = disjunction
rejoined recnor = conjunction
rejoined recnand = disjunction

-- the two formulas that the sub-plans take, if the head fits χ
abbrev pub two_inner : TwoSided → Formula → Option (Formula × Formula)
two_inner recand χ = when (same χ (and (left χ) (right χ))) (left χ, right χ)
two_inner recor χ = when (same χ (or (left χ) (right χ))) (left χ, right χ)
two_inner recnor χ = when (same χ (neg (or (left (left χ)) (right (left χ))))) (neg (left (left χ)), neg (right (left χ)))
two_inner recnand χ = when (same χ (neg (and (left (left χ)) (right (left χ))))) (neg (left (left χ)), neg (right (left χ)))

module _ (arity : ℕ → Option ℕ) where
  -- the formula that the sub-plan takes, if the head fits χ under a scope of n variables
  abbrev pub inner : ℕ → OneSided → Formula → Option Formula
  inner n skip χ = when (same χ (forall (left χ))) (left χ)
  inner n (skol s) χ = when (takes (arity s) n && same χ (neg (forall (left (left χ))))) (neg (instance_of (left (left χ)) (apply s (scope n))))
  inner n recnn χ = when (same χ (neg (neg (left (left χ))))) (left (left χ))

  abbrev pub walk : ℕ → Plan → Formula → Walked
  walk n id χ = yields 1 (χ ∷ []) χ
  walk n (step h p) χ = if_fits (inner n h χ) λ φ. around χ (rebuilt h) (walk (inner_scope h n) p φ)
  walk n (fork h p q) χ = if_fits (two_inner h χ) λ c. around_both χ (connect (rejoined h)) (walk n p c.0) (walk n q c.1)

-- what the walk yields, if anything
abbrev pub result : Walked → Option Formula
result (misfit k) = none
result (yields k met ψ) = some ψ

abbrev pub turn : (ℕ → Option ℕ) → ℕ → Plan → Formula → Option Formula
turn arity n p χ = result (walk arity n p χ)

-- ---- Skolem symbols

abbrev pub own_symbol : OneSided → List ℕ
own_symbol skip = []
own_symbol (skol s) = s ∷ []
own_symbol recnn = []

-- the Skolem symbols of the plan, written out
abbrev pub symbols : Plan → List ℕ
symbols id = []
symbols (step h p) = own_symbol h ++ symbols p
symbols (fork h p q) = symbols p ++ symbols q

abbrev pub member : ℕ → List ℕ → Bool
member s [] = false
member s (r ∷ l) = s == r || member s l

abbrev pub distinct : List ℕ → Bool
distinct [] = true
distinct (s ∷ l) = not (member s l) && distinct l

-- each Skolem symbol stands once in the plan, and not in the formula
pub record Fresh (p : Plan) (φ : Formula) : Type 0 where
  pub once : distinct (symbols p) ≡ true
  pub new : (s : ℕ) → member s (symbols p) ≡ true → stands thing s (formula_tree φ) ≡ false
