-- Finite worlds, what terms and formulas mean in them, and worlds re-read.
use Rattle.std.specs.Prelude.{◌≡◌, ℕ, zero, suc, ◌≤◌, Bool, true, false, not, ◌&&◌, ◌||◌, List, [], ◌∷◌, ℤ, ◌==◌, slice_index}
use Rattle.std.proofs.Math.Bool.{decide}
use Rattle.logic.specs.Integers.{int_discrete}
use Rattle.logic.specs.Syntax.{Thing, Things, Number, Connective, Relation, Formula}
use Rattle.logic.specs.Syntax.{var, apply, nil, cons, lit, add, minus, measure, implication, conjunction, disjunction, equal, at_most}
use Rattle.logic.specs.Syntax.{falsity, connect, neg, eq_things, relate, atom, forall}
use Rattle.logic.specs.Arithmetic.{Arithmetic}

-- The things are the numbers from 0 to last, so there is one or more. A table has a value for each symbol at each list of arguments.
pub record World (A : Arithmetic) : Type 0 where
  pub last : ℕ
  pub thing : ℕ → List ℕ → ℕ
  pub thing_within : (s : ℕ) (l : List ℕ) → thing s l ≤ last
  pub number : ℕ → List ℕ → ℤ
  pub number_within : (s : ℕ) (l : List ℕ) → A.has (number s l) ≡ true
  pub predicate : ℕ → List ℕ → Bool

-- the test passes at each number from 0 to n
abbrev pub every : ℕ → (ℕ → Bool) → Bool
every zero test = test zero
every (suc n) test = test (suc n) && every n test

abbrev pub connected : Connective → Bool → Bool → Bool
connected implication x y = not x || y
connected conjunction x y = x && y
connected disjunction x y = x || y

abbrev pub related : Arithmetic → Relation → ℤ → ℤ → Bool
related A equal m n = decide (int_discrete m n)
related A at_most m n = A.atmost m n

-- An environment lists the things that the variables stand for, index 0 first; a variable past its end stands for thing 0.
module _ {A : Arithmetic} (W : World A) where
  abbrev mutual
    pub value : List ℕ → Thing → ℕ
    value ρ (var i) = slice_index ρ i
    value ρ (apply s l) = W.thing s (values ρ l)

    pub values : List ℕ → Things → List ℕ
    values ρ nil = []
    values ρ (cons t l) = value ρ t ∷ values ρ l

  abbrev pub amount : List ℕ → Number → ℤ
  amount ρ (lit n) = n
  amount ρ (add a b) = A.sum (amount ρ a) (amount ρ b)
  amount ρ (minus a) = A.negative (amount ρ a)
  amount ρ (measure s l) = W.number s (values ρ l)

  abbrev pub truth : List ℕ → Formula → Bool
  truth ρ falsity = false
  truth ρ (connect c φ ψ) = connected c (truth ρ φ) (truth ρ ψ)
  truth ρ (neg φ) = not (truth ρ φ)
  truth ρ (eq_things t u) = value ρ t == value ρ u
  truth ρ (relate r a b) = related A r (amount ρ a) (amount ρ b)
  truth ρ (atom s l) = W.predicate s (values ρ l)
  truth ρ (forall φ) = every W.last (λ x. truth (x ∷ ρ) φ)

  -- a closed formula holds in the world
  abbrev pub Holds : Formula → Type 0
  Holds φ = truth [] φ ≡ true

  -- the world with another table for the thing symbols
  abbrev pub reread : (table : ℕ → List ℕ → ℕ) → ((s : ℕ) (l : List ℕ) → table s l ≤ W.last) → World A
  reread table within = record {
    last = W.last;
    thing = table;
    thing_within = within;
    number = W.number;
    number_within = W.number_within;
    predicate = W.predicate;
  }

-- V is W with other tables for the thing symbols that `among` says, and nothing else changed
pub record Rereads {A : Arithmetic} (among : ℕ → Bool) (W V : World A) : Type 0 where
  pub last_kept : V.last ≡ W.last
  pub thing_kept : (s : ℕ) → among s ≡ false → (l : List ℕ) → V.thing s l ≡ W.thing s l
  pub number_kept : (s : ℕ) (l : List ℕ) → V.number s l ≡ W.number s l
  pub predicate_kept : (s : ℕ) (l : List ℕ) → V.predicate s l ≡ W.predicate s l
