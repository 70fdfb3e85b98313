-- What a plan's tree turns a formula's tree into: the position that does not fit, or the formulas that its positions take or yield.
use Rattle.std.specs.Prelude.{ℕ, suc, ◌+◌, List, [], ◌∷◌, ◌++◌}
use Rattle.std.proofs.Math.Option.{Option, none, some}
use Rattle.logic.specs.Syntax as syntax
use Rattle.logic.specs.Tree as trees
use Rattle.logic.specs.Tree.{Tree, leaf, unary, binary, thing_tree, put_tree, parts}
use Rattle.logic.specs.Rules.{◌>>=◌, when}
use Rattle.logic.specs.Plans.{scope, takes, inner_scope, rejoined}
use Rattle.rules.specs.Forms.{Form, conjunction, disjunction, forall, form, negated}

pub data Turned : Type 0 where
  -- the first position that does not fit, counted from 1, heads first
  misfit : ℕ → Turned
  -- so many positions, all fitting; the formulas that they take or yield; what the plan yields
  yields : ℕ → List Tree → Tree → Turned

-- a position that takes χ, and yields what the head makes of what its sub-plan yields
abbrev pub around : Tree → (Tree → Tree) → Turned → Turned
around χ make (misfit k) = misfit (suc k)
around χ make (yields k met ψ) = yields (suc k) (χ ∷ met ++ (make ψ ∷ [])) (make ψ)

-- the same with two sub-plans
abbrev pub around_both : Tree → (Tree → Tree → Tree) → Turned → Turned → Turned
around_both χ make (misfit k) w = misfit (suc k)
around_both χ make (yields k met ψ) (misfit j) = misfit (suc (k + j))
around_both χ make (yields k met ψ) (yields j met' ξ) = yields (suc (k + j)) (χ ∷ met ++ met' ++ (make ψ ξ ∷ [])) (make ψ ξ)

abbrev pub if_some : {A : Type 0} → Option A → (A → Turned) → Turned
if_some none w = misfit 1
if_some (some x) w = w x

-- ---- what a head takes of a shape

abbrev pub body : Form → Option Tree
body (forall t) = some t
body f = none

abbrev pub conjuncts : Form → Option (Tree × Tree)
conjuncts (conjunction t u) = some (t, u)
conjuncts f = none

abbrev pub disjuncts : Form → Option (Tree × Tree)
disjuncts (disjunction t u) = some (t, u)
disjuncts f = none

abbrev pub negations : Tree × Tree → Tree × Tree
negations c = (unary trees.neg c.0, unary trees.neg c.1)

-- the symbol s on the variables of a scope of n binders, the newest first
abbrev pub skolem_tree : ℕ → ℕ → Tree
skolem_tree s n = thing_tree (syntax.apply s (scope n))

-- the two formulas that the sub-plans take, if the head fits χ
abbrev pub taken_both : syntax.TwoSided → Tree → Option (Tree × Tree)
taken_both syntax.recand χ = conjuncts (form χ)
taken_both syntax.recor χ = disjuncts (form χ)
taken_both syntax.recnor χ = negated (form χ) >>= λ a. disjuncts (form a) >>= λ c. some (negations c)
taken_both syntax.recnand χ = negated (form χ) >>= λ a. conjuncts (form a) >>= λ c. some (negations c)

-- what the head yields of what its sub-plan yields
abbrev pub rebuilt : syntax.OneSided → Tree → Tree
rebuilt syntax.skip ψ = unary trees.forall ψ
rebuilt h ψ = ψ

module _ (arity : ℕ → Option ℕ) where
  -- the formula that the sub-plan takes, if the head fits χ under a scope of n variables
  abbrev pub taken : ℕ → syntax.OneSided → Tree → Option Tree
  taken n syntax.skip χ = body (form χ)
  taken n (syntax.skol s) χ = negated (form χ) >>= λ a. body (form a) >>= λ b. when (takes (arity s) n) (unary trees.neg (put_tree 0 (skolem_tree s n) b))
  taken n syntax.recnn χ = negated (form χ) >>= λ a. negated (form a)

  abbrev pub turned : ℕ → Tree → Tree → Turned
  turned n (leaf trees.id) χ = yields 1 (χ ∷ []) χ
  turned n (unary (trees.step h) p) χ = if_some (taken n h χ) λ φ. around χ (rebuilt h) (turned (inner_scope h n) p φ)
  turned n (binary (trees.fork h) p q) χ = if_some (taken_both h χ) λ c. around_both χ (binary (trees.connect (rejoined h))) (turned n p c.0) (turned n q c.1)
  turned n t χ = misfit 1

-- the parts of each tree, one after the other
abbrev pub parts_of_trees : List Tree → List Tree
parts_of_trees [] = []
parts_of_trees (t ∷ l) = parts t ++ parts_of_trees l
