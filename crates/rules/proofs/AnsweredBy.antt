-- The answer of a call for a fact, from what keeping the draft of what it states answered.
use Rattle.std.proofs.Common.{◌≡◌, ℕ, ◌<◌, ◌≤◌, Bool, true, false, ◌&&◌, leb, length, Ok, Err, Result, sym, refl, ap, ◌∙◌, subst, ap₂, arith, IsErrAnd}
use Rattle.std.proofs.lemmas.Bool.{le-leb, lt-leb}
use Rattle.std.proofs.lemmas.List.{take_all}
use Rattle.std.proofs.lemmas.Result.{err_from_is_err_and}
use Rattle.logic.specs.Syntax.{Formula}
use Rattle.logic.specs.Tree.{Tree, formula_tree, size, foralls, parts}
use Rattle.logic.specs.Arithmetic.{Arithmetic}
use Rattle.logic.specs.Facts as Facts
use Rattle.logic.specs.Facts.{Fact}
use Rattle.model.specs.Limits.{limits, within}
use Rattle.model.specs.Refusal.{refused, ◌>>=◌}
use Rattle.model.specs.Session.{stated}
use Rattle.terms.specs.declared.Terms.{Terms}
use Rattle.logic.specs.Keeping.{keep_each}
use Rattle.terms.specs.Meaning.{largest}
use Rattle.terms.specs.Outcome.{entries, count, most, trees}
use Rattle.terms.proofs.Meanings.{trees_length}
use Rattle.terms.proofs.Making.{count_within}
use Rattle.rules.specs.declared.refusal.Reason.{Reason}
use Rattle.rules.specs.Refusals.{refusal}
use Rattle.rules.specs.Answering.{formula_kept, fact_kept, Answered}
use Rattle.rules.specs.Drafts.{Stated}
use Rattle.rules.proofs.TypedLimits.{small_is_within}

-- a formula that has no `forall` is within the limits exactly if its size is
module _ (φ : Formula) (flat : foralls (formula_tree φ) ≡ 0) where
  tested : (b : Bool) → leb (size (formula_tree φ)) largest ≡ b → within limits (formula_tree φ) ≡ (b && true)
  tested b s = sym (small_is_within φ) ∙ ap₂ ◌&&◌ s (le-leb (foralls (formula_tree φ)) 32 (omega (arith, flat)))

  small_within : size (formula_tree φ) ≤ largest → within limits (formula_tree φ) ≡ true
  small_within h = tested true (le-leb _ _ h)

  large_within : largest < size (formula_tree φ) → within limits (formula_tree φ) ≡ false
  large_within h = tested false (lt-leb _ _ h)

-- a refusal that touches nothing
pub refused_answer : (A : Arithmetic) (old : Terms) (f : Fact) (e : Reason) → fact_kept A (most old) (trees old) f ≡ refused (refusal e) 0 → Answered A old old f (Err e)
refused_answer A old f e h = record { same_room = refl; front = take_all (count old) (entries old) (omega arith); outcome = h }

-- the refusal of what the fact states, passed on
pub stopped_answer : (A : Arithmetic) (old : Terms) (f : Fact) → (e : Reason) (r : Result ℕ Reason) → IsErrAnd r (λ d. d ≡ e) → stated (Facts.state A f) ≡ refused (refusal e) 0 → Answered A old old f r
stopped_answer A old f e r i h =
    let b = err_from_is_err_and r i in
    subst (Answered A old old f) (sym (b.1 ∙ ap Err b.2)) (refused_answer A old f e (ap (λ o. o >>= formula_kept (most old) (trees old)) h))

module _ (A : Arithmetic) (old : Terms) (f : Fact) (φ : Formula) (says : Facts.state A f ≡ Facts.formula φ) (flat : foralls (formula_tree φ) ≡ 0) where
  kept_as : fact_kept A (most old) (trees old) f ≡ formula_kept (most old) (trees old) φ
  kept_as = ap (λ s. stated s >>= formula_kept (most old) (trees old)) says

  roomy : length (keep_each (trees old) (parts (formula_tree φ))) ≤ most old → leb (length (keep_each (trees old) (parts (formula_tree φ)))) (most old) ≡ true
  roomy h = le-leb _ _ (h)

  full : most old < length (keep_each (trees old) (parts (formula_tree φ))) → leb (length (keep_each (trees old) (parts (formula_tree φ)))) (most old) ≡ false
  full h = lt-leb _ _ (h)

  by_draft : (new : Terms) (r : Result ℕ Reason) → Stated old new (formula_tree φ) r → Answered A old new f r
  by_draft new (Ok i) d =
      let s = small_within φ flat d.outcome.0 in
      let l = roomy (omega (arith, ap length d.outcome.1.kept_each, trees_length (entries new), count_within new, d.same_room)) in
      record { same_room = d.same_room; front = d.front; outcome = (φ, kept_as ∙ rw (s, l), d.outcome.1) }
  by_draft new (Err Reason.Oversized) d =
      let s = large_within φ flat d.outcome in
      record { same_room = d.same_room; front = d.front; outcome = kept_as ∙ rw s }
  by_draft new (Err Reason.Crowded) d =
      let s = small_within φ flat d.outcome.0 in
      let l = full d.outcome.1 in
      record { same_room = d.same_room; front = d.front; outcome = kept_as ∙ rw (s, l) }
  by_draft new (Err Reason.Unfounded) d = absurd d.outcome
  by_draft new (Err Reason.Unfit) d = absurd d.outcome
  by_draft new (Err Reason.Stale) d = absurd d.outcome
  by_draft new (Err Reason.Unadmitted) d = absurd d.outcome
  by_draft new (Err Reason.Uncarried) d = absurd d.outcome

  -- what keeping the formula's draft answered, as an answer for the fact
  pub stated_answer : (t : Tree) → t ≡ formula_tree φ → (new : Terms) (r : Result ℕ Reason) → Stated old new t r → Answered A old new f r
  stated_answer t e new r d = by_draft new r (subst (λ x. Stated old new x r) e d)
