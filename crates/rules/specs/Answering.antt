-- What the call for a fact answers, and what it does to the table.
use Rattle.std.specs.Prelude.{◌≡◌, ℕ, List, length, take, Result, MatchResult, nat_le}
use Rattle.logic.specs.Arithmetic.{Arithmetic}
use Rattle.logic.specs.Facts as Facts
use Rattle.logic.specs.Facts.{Fact, Stated}
use Rattle.logic.specs.Syntax.{Formula}
use Rattle.logic.specs.Tree.{Tree, formula_tree, parts}
use Rattle.model.specs.Limits.{limits, within}
use Rattle.model.specs.Refusal.{Outcome, done, refused, ◌>>=◌, ◌>>◌, require, oversized, crowded}
use Rattle.model.specs.Session.{stated}
use Rattle.logic.specs.Keeping.{keep_each}
use Rattle.terms.specs.declared.Terms.{Terms}
use Rattle.terms.specs.Outcome.{entries, count, room, most, trees, Keeps}
use Rattle.rules.specs.declared.refusal.Reason.{Reason}
use Rattle.rules.specs.Refusals.{refusal}

-- a formula that is kept with its parts beside the terms ts, in room for n: within the limits first, then within the room
abbrev pub formula_kept : ℕ → List Tree → Formula → Outcome Formula
formula_kept n ts φ = do
  require oversized (within limits (formula_tree φ))
  require crowded (nat_le (length (keep_each ts (parts (formula_tree φ)))) n)
  done φ

-- the formula that the fact states, kept; or the first reason why not
abbrev pub fact_kept : Arithmetic → ℕ → List Tree → Fact → Outcome Formula
fact_kept A n ts f = stated (Facts.state A f) >>= formula_kept n ts

-- the answer is the index of the formula, kept with its parts, or the reason; either way what was kept still stands in front
pub record Answered (A : Arithmetic) (old new : Terms) (f : Fact) (answer : Result ℕ Reason) : Type 0 where
  pub same_room : room new ≡ room old
  pub front : take (count old) (entries new) ≡ entries old
  pub outcome : MatchResult answer (λ i. (φ : Formula) × (fact_kept A (most old) (trees old) f ≡ done φ) × Keeps (entries old) (entries new) (formula_tree φ) i)
      (λ e. fact_kept A (most old) (trees old) f ≡ refused (refusal e) 0)
