-- What is proved of the definitions.
use Rattle.std.specs.Prelude.{◌≡◌, ℕ, true, ◌↔◌, List, [], ◌∷◌}
use Rattle.std.proofs.Math.Option.{Option, some}
use Rattle.std.proofs.Math.ListN.{get_elem?}
use Rattle.logic.specs.Syntax.{Thing, Formula, Plan, Proof}
use Rattle.logic.specs.Substitution.{put, instance_of}
use Rattle.logic.specs.Tree.{thing_tree, formula_tree, size, put_tree, put_late, put_size}
use Rattle.logic.specs.Terms.{Term, term_tree}
use Rattle.logic.specs.Arithmetic.{Arithmetic, Lawful}
use Rattle.logic.specs.Arithmetics.{whole, counts}
use Rattle.logic.specs.World.{World, value, truth, Holds, Rereads}
use Rattle.logic.specs.Rules.{Concludes, conclude}
use Rattle.logic.specs.Facts.{Fact, States, admitted, state, formula}
use Rattle.logic.specs.Plans.{Turns, turn, Fresh, symbols, member}
use Rattle.logic.specs.Positions.{misfit_at}
use Rattle.logic.specs.Closed.{closed, closed_proof}
use Rattle.logic.specs.Refutation.{Refutation}

-- φ[t] is true where φ is true of the value of t
abbrev pub SubstitutionCommutesWithTruth : Type 0
SubstitutionCommutesWithTruth =
    (A : Arithmetic) (W : World A) (ρ : List ℕ) (t : Thing) (φ : Formula) → truth W ρ (instance_of φ t) ≡ truth W (value W ρ t ∷ ρ) φ

-- what a proof concludes holds in each world where the known formulas and the hypotheses hold
abbrev pub ConclusionsHold : Type 0
ConclusionsHold =
    (A : Arithmetic) (W : World A) (made : ℕ → Option Formula) (H : List Formula) (P : Proof) (φ : Formula)
    → ((k : ℕ) (ψ : Formula) → made k ≡ some ψ → Holds W ψ)
    → ((i : ℕ) (ψ : Formula) → get_elem? H i ≡ some ψ → Holds W ψ)
    → Concludes made H P φ → Holds W φ

-- what a fact states holds in each world over a lawful arithmetic; `pair` states something only where sums are carried
abbrev pub FactsHold : Type 0
FactsHold = (A : Arithmetic) → Lawful A → (W : World A) (f : Fact) (φ : Formula) → States A f φ → admitted A φ ≡ true → Holds W φ

-- a world where a formula holds can be re-read at just the plan's Skolem symbols so that what the plan turns it into holds
abbrev pub PlansHoldAfterRereading : Type 0
PlansHoldAfterRereading =
    (A : Arithmetic) (arity : ℕ → Option ℕ) (p : Plan) (φ ψ : Formula) → Turns arity 0 p φ ψ → Fresh p φ
    → (W : World A) → Holds W φ → (V : World A) × Rereads (λ s. member s (symbols p)) W V × Holds V ψ

-- what has a refutation holds in no finite world
abbrev pub RefutedHoldsNowhere : Type 0
RefutedHoldsNowhere = (A : Arithmetic) → Lawful A → (arity : ℕ → Option ℕ) (query : Formula) → Refutation A arity query → (W : World A) → Holds W query → ⊥

-- the functions give what the rules relate, and nothing else
pub record FunctionsAreTheRules : Type 0 where
  pub proofs : (made : ℕ → Option Formula) (H : List Formula) (P : Proof) (φ : Formula) → (conclude made H P ≡ some φ) ↔ Concludes made H P φ
  pub plans : (arity : ℕ → Option ℕ) (n : ℕ) (p : Plan) (φ ψ : Formula) → (turn arity n p φ ≡ some ψ) ↔ Turns arity n p φ ψ
  pub facts : (A : Arithmetic) (f : Fact) (φ : Formula) → (state A f ≡ formula φ) ↔ States A f φ

-- a proof concludes something exactly if each of its sub-proofs does, so that no position is named
abbrev pub ProofsFitWhereEachPartFits : Type 0
ProofsFitWhereEachPartFits = (made : ℕ → Option Formula) (P : Proof) → (misfit_at made P ≡ 0) ↔ ((φ : Formula) × Concludes made [] P φ)

-- the truth of a closed formula does not depend on the environment; a closed proof from closed formulas concludes a closed formula, and a plan keeps a formula closed
pub record ClosednessIsKept : Type 0 where
  pub formulas : (A : Arithmetic) (W : World A) (ρ σ : List ℕ) (φ : Formula) → closed (formula_tree φ) ≡ true → truth W ρ φ ≡ truth W σ φ
  pub proofs : (made : ℕ → Option Formula) (P : Proof) (φ : Formula) → ((k : ℕ) (ψ : Formula) → made k ≡ some ψ → closed (formula_tree ψ) ≡ true)
      → closed_proof P ≡ true → Concludes made [] P φ → closed (formula_tree φ) ≡ true
  pub plans : (arity : ℕ → Option ℕ) (p : Plan) (φ ψ : Formula) → Turns arity 0 p φ ψ → closed (formula_tree φ) ≡ true → closed (formula_tree ψ) ≡ true

pub record ArithmeticsAreLawful : Type 0 where
  pub of_whole : Lawful whole
  pub of_counts : Lawful counts

-- different terms have different trees; substitution on trees is substitution on terms, also with the inserted thing raised late; the size of the result
pub record TreesStandForTerms : Type 0 where
  pub different : (t u : Term) → term_tree t ≡ term_tree u → t ≡ u
  pub substitution : (k : ℕ) (t : Thing) (φ : Formula) → formula_tree (put k t φ) ≡ put_tree k (thing_tree t) (formula_tree φ)
  pub late : (t : Thing) (φ : Formula) → formula_tree (instance_of φ t) ≡ put_late 0 (thing_tree t) (formula_tree φ)
  pub sizes : (k : ℕ) (t : Thing) (φ : Formula) → size (formula_tree (put k t φ)) ≡ put_size k (size (thing_tree t)) (formula_tree φ)
