-- What a proof's tree concludes, sub-proof by sub-proof, with the terms kept on the way: the first that does not fit, is over a limit
-- or has no space is refused at its position.
use Rattle.std.specs.Prelude.{◌≡◌, ℕ, suc, ◌<◌, List, ◌∷◌, length, take, IfOk, Ok, Err, Result, nat_le}
use Rattle.std.proofs.Math.Option.{Option, none, some}
use Rattle.std.proofs.Math.ListN.{get_elem?}
use Rattle.logic.specs.Syntax as syntax
use Rattle.logic.specs.Tree as trees
use Rattle.logic.specs.Tree.{Tree, leaf, unary, binary, parts}
use Rattle.model.specs.Refusal.{oversized, crowded, unfounded, Outcome, done, refused, ◌>>=◌, ◌>>◌, require_at}
use Rattle.terms.specs.declared.Terms.{Terms}
use Rattle.logic.specs.Keeping.{keep_each}
use Rattle.terms.specs.Outcome as table
use Rattle.rules.specs.declared.conclusions.Concluded.{Concluded}
use Rattle.rules.specs.declared.refusal.Refused.{Refused}
use Rattle.rules.specs.Refusals.{refusal}
use Rattle.rules.specs.Forms.{form, from_one, from_two, absurdity, instantiated, replaced, small}

-- the position after the sub-proof's, the terms with those of the conclusions so far, and what the sub-proof concludes
pub record Found : Type 0 where
  pub next : ℕ
  pub terms : List Tree
  pub formula : Tree

-- the conclusion of the sub-proof at the position, if it has one, with its terms kept; there are places for so many
abbrev pub settled : ℕ → ℕ → List Tree → Option Tree → Outcome Found
settled places at ts none = refused unfounded at
settled places at ts (some c) =
    require_at at oversized (small c)
    >> require_at at crowded (nat_le (length (keep_each ts (parts c))) places)
    >> done (record { next = suc at; terms = keep_each ts (parts c); formula = c })

abbrev pub hypothesis_or_known : (ℕ → Option Tree) → List Tree → trees.Leaf → Option Tree
hypothesis_or_known made H (trees.hyp i) = get_elem? H i
hypothesis_or_known made H (trees.known k) = made k
hypothesis_or_known made H x = none

module _ (places : ℕ) (made : ℕ → Option Tree) where
  -- under the hypotheses H, the newest first, from the position and the terms on
  abbrev pub walk : List Tree → Tree → ℕ → List Tree → Outcome Found
  walk H (leaf x) at ts = settled places at ts (hypothesis_or_known made H x)
  walk H (unary trees.eqrefl t) at ts = settled places at ts (some (binary trees.eq t t))
  walk H (unary (trees.from r) p) at ts = walk H p at ts >>= λ f. settled places f.next f.terms (from_one r f.formula)
  walk H (binary trees.assume t p) at ts = walk (t ∷ H) p at ts >>= λ f. settled places f.next f.terms (some (binary (trees.connect syntax.implication) t f.formula))
  walk H (binary trees.absurd p t) at ts = walk H p at ts >>= λ f. settled places f.next f.terms (absurdity (form f.formula) t)
  walk H (binary trees.eqsub p t) at ts = walk H p at ts >>= λ f. settled places f.next f.terms (replaced (form f.formula) t)
  walk H (binary trees.inst t p) at ts = walk H p at ts >>= λ f. settled places f.next f.terms (instantiated (form f.formula) t)
  walk H (binary (trees.from_both r) p q) at ts =
      walk H p at ts >>= λ f. walk H q f.next f.terms >>= λ g. settled places g.next g.terms (from_two r f.formula g.formula)
  walk H t at ts = refused unfounded at

-- ---- what a call answers

-- the answer, over the table that it leaves
abbrev pub answered : Terms → Result Concluded Refused → Outcome Found
answered T (Ok f) = done (record { next = f.next; terms = table.trees T; formula = table.tree T f.formula })
answered T (Err e) = refused (refusal e.reason) e.position

-- the call answers the outcome; what was kept stands in front; a conclusion's index is in the table
pub record Answers (old new : Terms) (o : Outcome Found) (answer : Result Concluded Refused) : Type 0 where
  pub same_room : table.room new ≡ table.room old
  pub front : take (table.count old) (table.entries new) ≡ table.entries old
  pub outcome : answered new answer ≡ o
  pub within : IfOk answer (λ f. f.formula < table.count new)
