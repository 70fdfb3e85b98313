-- What the walks over trees find, said of the proofs, plans and formulas that the trees are of.
use Rattle.std.specs.Prelude.{ℕ, ◌+◌, List, map, length}
use Rattle.std.proofs.Math.Option.{Option}
use Rattle.logic.specs.Syntax.{Formula, Proof}
use Rattle.logic.specs.Tree.{Tree, formula_tree}
use Rattle.logic.specs.Rules.{conclude}
use Rattle.logic.specs.Positions.{conclusions}
use Rattle.logic.specs.Plans as plans
use Rattle.model.specs.Refusal.{unfounded, Outcome, done, ◌>>=◌, need}
use Rattle.model.specs.Limits.{limits, Room}
use Rattle.model.specs.Session.{settle}
use Rattle.rules.specs.Walk.{Found}
use Rattle.rules.specs.Turning.{Turned, misfit, yields}

-- the conclusions l settled from the position and the terms on, and the last of them, which is o
abbrev pub settled_to : Room → ℕ → List Tree → List (Option Formula) → Option Formula → Outcome Found
settled_to R at ts l o = settle limits R at ts l >>= λ us. need unfounded o >>= λ φ. done (record { next = at + length l; terms = us; formula = formula_tree φ })

-- what a proof's sub-proofs conclude, settled, and what the proof concludes
abbrev pub proof_found : Room → (ℕ → Option Formula) → List Formula → Proof → ℕ → List Tree → Outcome Found
proof_found R made H P at ts = settled_to R at ts (conclusions made H P) (conclude made H P)

-- what a plan's walk yields, with the trees of the formulas
abbrev pub in_trees : plans.Walked → Turned
in_trees (plans.misfit k) = misfit k
in_trees (plans.yields k met ψ) = yields k (map formula_tree met) (formula_tree ψ)
