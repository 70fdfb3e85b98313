-- What settling a sub-proof's conclusion answers where it is kept.
use Rattle.std.proofs.Common.{◌≡◌, ℕ, suc, ◌+◌, ◌≤◌, true, List, length, Ok, Err, Result, MatchResult, is_ok, sym, ap, ◌∙◌, ap₂, arith}
use mathlib.Core.Option.{Option, some}
use Rattle.std.proofs.lemmas.Bool.{le-leb}
use Rattle.logic.specs.Tree.{Tree, parts}
use Rattle.model.specs.Refusal.{oversized, crowded, done, ◌>>◌, require_at}
use Rattle.table.specs.declared.Full.{Full}
use Rattle.terms.specs.declared.Terms.{Terms}
use Rattle.logic.specs.Keeping.{keep_each}
use Rattle.terms.specs.Outcome.{entries, most, trees, tree, Did}
use Rattle.terms.proofs.Meanings.{trees_length}
use Rattle.terms.proofs.Making.{count_within}
use Rattle.rules.specs.declared.refusal.Refused.{Refused}
use Rattle.rules.specs.Forms.{small}
use Rattle.rules.specs.Walk.{settled, Answers}

module _ (n at : ℕ) (ts : List Tree) where
  pub settled_kept : (o : Option Tree) (x : Tree) → o ≡ some x → small x ≡ true → length (keep_each ts (parts x)) ≤ n
      → settled n at ts o ≡ done (record { next = suc at; terms = keep_each ts (parts x); formula = x })
  settled_kept o x e s l =
      ap (settled n at ts) e
      ∙ ap₂ (λ b d. require_at at oversized b >> require_at at crowded d >> done (record { next = suc at; terms = keep_each ts (parts x); formula = x })) s (le-leb _ _ l)

pub kept_conclusion : (old new : Terms) (at i : ℕ) (o : Option Tree) (x : Tree) → Did old new x (Ok i) → o ≡ some x → small x ≡ true
    → Answers old new (settled (most old) at (trees old) o) (Ok (record { formula = i; next = at + 1 }))
kept_conclusion old new at i o x d e s =
    let k = d.outcome.kept_each in
    let one : at + 1 ≡ suc at = omega arith in
    let l : length (keep_each (trees old) (parts x)) ≤ most old = omega (arith, ap length k, trees_length (entries new), count_within new, d.same_room) in
    record {
      same_room = d.same_room;
      front = d.front;
      outcome = ap (λ m. done (record { next = m; terms = trees new; formula = tree new i })) one ∙ ap₂ (λ ts t. done (record { next = suc at; terms = ts; formula = t })) k d.outcome.means ∙ sym (settled_kept (most old) at (trees old) o x e s l);
      within = d.outcome.within;
    }

-- the value stands where only an error is turned into another
pub ok_before_map_err : (r : Result ℕ Full) (i : ℕ) (Q : Full → Type 0) → MatchResult r (λ j. let ok : ℕ → Result ℕ Refused = Ok in ok i ≡ ok j) Q → true ≡ is_ok r → r ≡ Ok i
ok_before_map_err (Ok j) i Q m e = cc
ok_before_map_err (Err f) i Q m e = absurd cc
