-- What a proof's sub-proofs conclude is settled if it fits, and refused as unfounded at the first that concludes nothing.
use Rattle.std.proofs.Common.{◌≡◌, ℕ, suc, ◌≤◌, true, false, leb, List, [], ◌∷◌, map, length, sym, refl, ap, ◌∙◌, subst, arith}
use mathlib.Core.Bool.{false≢true}
use mathlib.Core.Option.{Option, none, some}
use Rattle.std.proofs.lemmas.Bool.{and_parts, le-leb, true≢false}
use Rattle.logic.specs.Syntax.{Formula, Proof}
use Rattle.logic.specs.Tree.{Tree, formula_tree, parts}
use Rattle.logic.specs.Rules.{Concludes}
use Rattle.logic.specs.Positions.{conclusions, first_none}
use Rattle.logic.proofs.PositionsRight.{all_some, none_named, none_lacks, fits, no_misfit}
use Rattle.model.specs.Refusal.{oversized, crowded, unfounded, done, refused, require_at}
use Rattle.model.specs.Limits.{Limits, Room, within}
use Rattle.logic.specs.Keeping.{keep_each}
use Rattle.model.specs.Tests.{each}
use Rattle.model.specs.Session.{settle, holds_terms, parts_of_each, each_within}
use Rattle.model.specs.Theorems.{before_misfit}
use Rattle.model.proofs.Outcomes.{passed, done_inj, refused≢done, refused_inj, past_test, passes, then}
use Rattle.logic.proofs.Keepings.{keep_each_append, part_fits}

-- where the proof concludes something each sub-proof does, and the other way round
pub each_concludes : (made : ℕ → Option Formula) (P : Proof) (φ : Formula) → Concludes made [] P φ → all_some (conclusions made [] P) ≡ true
each_concludes made P φ d = none_lacks 0 (conclusions made [] P) (no_misfit made P φ d)

pub concludes_something : (made : ℕ → Option Formula) (P : Proof) → all_some (conclusions made [] P) ≡ true → (φ : Formula) × Concludes made [] P φ
concludes_something made P h = fits made P (none_named 0 (conclusions made [] P) h)

module _ (L : Limits) (R : Room) where
  -- one sub-proof that fits, and then the rest
  settle_one : (at : ℕ) (ts : List Tree) (φ : Formula) (l : List (Option Formula)) → each_within L (before_misfit (some φ ∷ l)) ≡ true
      → length (keep_each ts (parts_of_each (before_misfit (some φ ∷ l)))) ≤ R.terms
      → (settle L R at ts (some φ ∷ l) ≡ settle L R (suc at) (keep_each ts (parts (formula_tree φ))) l)
      × (each_within L (before_misfit l) ≡ true) × (length (keep_each (keep_each ts (parts (formula_tree φ))) (parts_of_each (before_misfit l))) ≤ R.terms)
  settle_one at ts φ l small room =
      let us = keep_each ts (parts (formula_tree φ)) in
      let s = and_parts (within L (formula_tree φ)) (each (within L) (map formula_tree (before_misfit l))) small in
      let here : leb (length us) R.terms ≡ true = le-leb _ _ (part_fits ts (parts (formula_tree φ)) (parts_of_each (before_misfit l)) R.terms room) in (
        then (require_at at oversized (within L (formula_tree φ))) _ tt _ (passes oversized at _ s.0)
            (then (require_at at crowded (holds_terms L R us)) _ tt _ (passes crowded at _ here) refl),
        s.1,
        subst (λ k. length k ≤ R.terms) (keep_each_append ts (parts (formula_tree φ)) (parts_of_each (before_misfit l))) room,
      )

  pub settles : (at : ℕ) (ts : List Tree) (l : List (Option Formula)) → all_some l ≡ true → each_within L (before_misfit l) ≡ true
      → length (keep_each ts (parts_of_each (before_misfit l))) ≤ R.terms → settle L R at ts l ≡ done (keep_each ts (parts_of_each (before_misfit l)))
  settles at ts [] all small room = refl
  settles at ts (none ∷ l) all small room = absurd (false≢true all)
  settles at ts (some φ ∷ l) all small room =
      let o = settle_one at ts φ l small room in
      o.0 ∙ settles (suc at) (keep_each ts (parts (formula_tree φ))) l all o.1 o.2 ∙ ap done (sym (keep_each_append ts (parts (formula_tree φ)) (parts_of_each (before_misfit l))))

  pub settles_not : (at : ℕ) (ts : List Tree) (l : List (Option Formula)) → all_some l ≡ false → each_within L (before_misfit l) ≡ true
      → length (keep_each ts (parts_of_each (before_misfit l))) ≤ R.terms → settle L R (suc at) ts l ≡ refused unfounded (first_none at l)
  settles_not at ts [] lacks small room = absurd (true≢false lacks)
  settles_not at ts (none ∷ l) lacks small room = refl
  settles_not at ts (some φ ∷ l) lacks small room =
      let o = settle_one (suc at) ts φ l small room in
      o.0 ∙ settles_not (suc at) (keep_each ts (parts (formula_tree φ))) l lacks o.1 o.2

  -- ---- what a settling shows

  pub settled : (at : ℕ) (ts us : List Tree) (l : List (Option Formula)) → settle L R at ts l ≡ done us → (all_some l ≡ true) × (us ≡ keep_each ts (parts_of_each (before_misfit l)))
  settled at ts us [] h = (refl, sym (done_inj ts us h))
  settled at ts us (none ∷ l) h = absurd (refused≢done unfounded at us h)
  settled at ts us (some φ ∷ l) h =
      let vs = keep_each ts (parts (formula_tree φ)) in
      let a = passed (require_at at oversized (within L (formula_tree φ))) _ us h in
      let b = passed (require_at at crowded (holds_terms L R vs)) _ us a.2 in
      let r = settled (suc at) vs us l b.2 in
      (r.0, r.1 ∙ sym (keep_each_append ts (parts (formula_tree φ)) (parts_of_each (before_misfit l))))

  pub settle_refused : (at p : ℕ) (ts : List Tree) (l : List (Option Formula)) → settle L R (suc at) ts l ≡ refused unfounded p → (all_some l ≡ false) × (p ≡ first_none at l)
  settle_refused at p ts [] h = absurd (refused≢done unfounded p ts (sym h))
  settle_refused at p ts (none ∷ l) h = (refl, sym (refused_inj unfounded unfounded (suc at) p h).1)
  settle_refused at p ts (some φ ∷ l) h =
      let us = keep_each ts (parts (formula_tree φ)) in
      let a = past_test oversized unfounded (suc at) p (within L (formula_tree φ)) _ (λ e. omega arith) h in
      let b = past_test crowded unfounded (suc at) p (holds_terms L R us) _ (λ e. omega arith) a.2 in
      settle_refused (suc at) p us l b.2
