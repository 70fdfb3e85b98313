-- One sub-proof after another: what the calls answer together.
use Rattle.std.proofs.Common.{◌≡◌, ℕ, ◌<◌, ◌≤◌, ◌++◌, length, take, drop, Ok, Err, Result, sym, ap, ◌∙◌, arith, take-append-drop, length-take}
use Rattle.model.specs.Refusal.{Outcome, ◌>>=◌}
use Rattle.terms.specs.declared.Terms.{Terms}
use Rattle.terms.specs.Meaning.{tree_of}
use Rattle.terms.specs.Outcome.{entries, count, trees, tree}
use Rattle.terms.proofs.Meanings.{tree_front}
use Rattle.terms.proofs.Outcomes.{front_then}
use Rattle.rules.specs.declared.conclusions.Concluded.{Concluded}
use Rattle.rules.specs.declared.refusal.Refused.{Refused}
use Rattle.rules.specs.Walk.{Found, Answers}

-- what stands in front makes the table no shorter
pub no_shorter : (old new : Terms) → take (count old) (entries new) ≡ entries old → count old ≤ count new
no_shorter old new e = omega (arith, ap length e, length-take (count old) (entries new))

-- what was there is there after a call, under its index
pub stands_later : (old new : Terms) → take (count old) (entries new) ≡ entries old → (k : ℕ) → k < count old → (tree new k ≡ tree old k) × (k < count new)
stands_later old new e k l =
    let whole : entries new ≡ entries old ++ drop (count old) (entries new) = sym (take-append-drop (count old) (entries new)) ∙ ap (λ es. es ++ drop (count old) (entries new)) e in
    (ap (λ es. tree_of es k) whole ∙ tree_front (entries old) (drop (count old) (entries new)) k l, omega (arith, l, no_shorter old new e))

-- what a concluded sub-proof found, over the table that it left
abbrev pub found : Terms → Concluded → Found
found T f = record { next = f.next; terms = trees T; formula = tree T f.formula }

module _ (t0 t1 t2 : Terms) (o : Outcome Found) (k : Found → Outcome Found) where
  -- a call after another that concluded
  pub answers_then : (f : Concluded) (r : Result Concluded Refused) → Answers t0 t1 o (Ok f) → Answers t1 t2 (k (found t1 f)) r → Answers t0 t2 (o >>= k) r
  answers_then f r a b = record {
    same_room = b.same_room ∙ a.same_room;
    front = front_then t0 t1 t2 (no_shorter t0 t1 a.front) a.front b.front;
    outcome = b.outcome ∙ ap (λ z. z >>= k) a.outcome;
    within = b.within;
  }

  -- a refused sub-proof ends the walk
  pub answers_break : (e : Refused) → Answers t0 t1 o (Err e) → Answers t0 t1 (o >>= k) (Err e)
  answers_break e a = record {
    same_room = a.same_room;
    front = a.front;
    outcome = ap (λ z. z >>= k) a.outcome;
    within = tt;
  }
