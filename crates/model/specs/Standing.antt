-- What holds of every state that a session comes to: of the terms, symbols and formulas that its results hold, of the query and of the stage.
use Rattle.command.specs.declared.command.Command.{Command}
use Rattle.std.specs.Prelude.{◌≡◌, ℕ, ◌<◌, Bool, true, false, List, length}
use Rattle.std.proofs.Math.Option.{Option, none, some}
use Rattle.logic.specs.Syntax.{Formula}
use Rattle.logic.specs.Tree.{Tree, formula_tree, parts}
use Rattle.logic.specs.Terms.{Term, tree_term}
use Rattle.logic.specs.Arithmetic.{Arithmetic}
use Rattle.logic.specs.Closed.{closed}
use Rattle.model.specs.Limits.{Limits, Room, within}
use Rattle.model.specs.State.{Start, State, fresh, symbol_at, tree_at, known_at}
use Rattle.model.specs.Tests.{each}
use Rattle.model.specs.Session.{after}
use Rattle.model.specs.Writer.{proper}

abbrev pub is_term : Option Term → Bool
is_term none = false
is_term (some x) = true

-- the tree is of a term
abbrev pub has_term : Tree → Bool
has_term t = is_term (tree_term t)

abbrev pub is_begun : Option Start → Bool
is_begun none = false
is_begun (some b) = true

pub record Standing (A : Arithmetic) (L : Limits) (S : State) : Type 0 where
  -- A term that a command made is of a class. Each of its parts is what its head asks for: the symbol is there, of the head's kind and with
  -- its arguments, the literal is admitted, and what must be closed is. Each part is within the limits.
  pub named_typed : (k : ℕ) (t : Tree) → tree_at S.names k ≡ some t → has_term t ≡ true
  pub named_proper : (k : ℕ) (t : Tree) → tree_at S.names k ≡ some t → proper A S.names.symbols t ≡ true
  pub named_within : (k : ℕ) (t : Tree) → tree_at S.names k ≡ some t → each (within L) (parts t) ≡ true
  -- a result that is a symbol names one that is there
  pub symbols_there : (k s : ℕ) → symbol_at S.names k ≡ some s → s < length S.names.symbols
  pub known_closed : (k : ℕ) (φ : Formula) → known_at S.names k ≡ some φ → closed (formula_tree φ) ≡ true
  pub query_closed : (φ : Formula) → S.query ≡ some φ → closed (formula_tree φ) ≡ true
  pub query_within : (φ : Formula) → S.query ≡ some φ → within L (formula_tree φ) ≡ true
  -- while there is no query nothing is begun, and no `final` was accepted
  pub asking_unbegun : S.query ≡ none → is_begun S.start ≡ false
  pub asking_unclosed : S.query ≡ none → S.closed ≡ false

abbrev pub SessionsStand : Type 0
SessionsStand = (A : Arithmetic) (L : Limits) (R : Room) (cs : List Command) → Standing A L (after A L R fresh cs)
