-- The walk over a closed proof's tree finds what the proof concludes, with the conclusions of its sub-proofs settled one after the other.
use Rattle.std.proofs.Common.{◌≡◌, ℕ, zero, suc, ◌+◌, ◌≤◌, true, List, [], ◌∷◌, ◌++◌, map, length, sym, refl, ap, ◌∙◌, ap₂}
use mathlib.Core.Bool.{and-true}
use mathlib.Core.Option
use mathlib.Core.Option.{Option, some, none-ne-some, some-injective}
use lib.ListN.{get_elem?}
use Rattle.std.proofs.lemmas.List.{map-append}
use Rattle.std.proofs.lemmas.Bool.{leb-true, le-leb, and_parts, and_from}
use Rattle.logic.specs.Syntax.{Formula, TwoPremises, Proof, hyp, known, assume, eqrefl_thing, eqrefl_number, eqsub, inst, from, from_both, implication, implies, falsity, forall, eq_things, eq_numbers, same}
use Rattle.logic.specs.Substitution.{instance_of}
use Rattle.logic.specs.Tree as trees
use Rattle.logic.specs.Tree.{Tree, binary, thing_tree, formula_tree, proof_tree, open_indices}
use Rattle.logic.specs.Closed.{below, closed, closed_proof}
use Rattle.logic.specs.Rules as rules
use Rattle.logic.specs.Rules.{when, left, sides, conclude_from, conclude_both, conclude}
use Rattle.logic.specs.Positions.{subproofs, concluded_by, conclusions}
use Rattle.logic.proofs.RulesAre.{concluded}
use Rattle.logic.proofs.ClosedKept.{concluded_open}
use Rattle.logic.proofs.PositionsRight.{all_some, proof_concludes}
use Rattle.model.specs.Refusal.{unfounded, Outcome, done, ◌>>=◌, need}
use Rattle.model.specs.Limits.{limits, Room}
use Rattle.model.specs.State.{Names, known_at}
use Rattle.model.specs.Session as session
use Rattle.model.specs.Session.{settle}
use Rattle.model.specs.Tests.{each}
use Rattle.rules.specs.Forms.{form, from_one, from_two, absurdity, instantiated, replaced}
use Rattle.rules.specs.Walk.{Found, settled, walk}
use Rattle.rules.specs.Typed.{settled_to, proof_found}
use Rattle.rules.proofs.TypedRules.{from_one_typed, from_two_typed, absurdity_typed}
use Rattle.rules.proofs.TypedInstances.{instantiated_typed, replaced_typed}
use Rattle.rules.proofs.TypedSettling.{then_then, then_alike, settled_last, one_more, two_more}

-- ---- hypotheses

-- a hypothesis by its index
mapped_at : (H : List Formula) (i : ℕ) → get_elem? (map formula_tree H) i ≡ Option.map formula_tree (get_elem? H i)
mapped_at [] i = refl
mapped_at (φ ∷ H) zero = refl
mapped_at (φ ∷ H) (suc i) = mapped_at H i

-- each closed
closed_at : (H : List Formula) → each closed (map formula_tree H) ≡ true → (i : ℕ) (φ : Formula) → get_elem? H i ≡ some φ → open_indices (formula_tree φ) ≤ 0
closed_at [] c i φ e = absurd cc
closed_at (ψ ∷ H) c zero φ e =
    let p = and_parts (closed (formula_tree ψ)) (each closed (map formula_tree H)) c in
    leb-true _ _ (ap (λ x. closed (formula_tree x)) (sym (some-injective ψ φ e)) ∙ p.0)
closed_at (ψ ∷ H) c (suc i) φ e = closed_at H (and_parts (closed (formula_tree ψ)) (each closed (map formula_tree H)) c).1 i φ e

module _ (R : Room) (made : ℕ → Option Formula) (made_closed : (k : ℕ) (φ : Formula) → made k ≡ some φ → closed (formula_tree φ) ≡ true) where
  -- what a closed proof concludes is closed
  closed_conclusion : (H : List Formula) → each closed (map formula_tree H) ≡ true → (P : Proof) → closed_proof P ≡ true → (φ : Formula) → conclude made H P ≡ some φ → closed (formula_tree φ) ≡ true
  closed_conclusion H hs P c φ e = le-leb _ _ (concluded_open made (λ k ψ m. leb-true _ _ (made_closed k ψ m)) (closed_at H hs) (concluded made H P φ e) c)

  -- a proof concludes something exactly if each sub-proof does
  together : (H : List Formula) (P : Proof) → all_some (conclusions made H P) ≡ all_some (conclude made H P ∷ [])
  together H P = proof_concludes made H P ∙ sym (and-true _)

  -- a rule after the sub-proof that it is applied to
  rule_after : (H K : List Formula) (P Q : Proof) (w : Outcome Found) (f : Formula → Option Formula) (rule : Tree → Option Tree) (at : ℕ) (ts : List Tree) → w ≡ proof_found R made K P at ts
      → subproofs H Q ≡ subproofs K P ++ (record { hypotheses = H; proof = Q } ∷ []) → conclude made H Q ≡ rules.◌>>=◌ (conclude made K P) f
      → ((χ : Formula) → conclude made K P ≡ some χ → Option.map formula_tree (f χ) ≡ rule (formula_tree χ))
      → (w >>= λ g. settled R.terms g.next g.terms (rule g.formula)) ≡ proof_found R made H Q at ts
  rule_after H K P Q w f rule at ts ih subs concl typed =
      let l = conclusions made K P in
      let x = rules.◌>>=◌ (conclude made K P) f in
      let e : conclusions made H Q ≡ l ++ (x ∷ []) = ap (map (concluded_by made)) subs ∙ map-append (concluded_by made) (subproofs K P) (record { hypotheses = H; proof = Q } ∷ []) ∙ ap (λ o. l ++ (o ∷ [])) concl in
      ap (λ m. m >>= λ g. settled R.terms g.next g.terms (rule g.formula)) ih
      ∙ one_more R at ts l (conclude made K P) f rule (together K P) typed
      ∙ sym (ap₂ (settled_to R at ts) e concl)

  rule_after_both : (H : List Formula) (P Q : Proof) (r : TwoPremises) (w : Outcome Found) (v : ℕ → List Tree → Outcome Found) (at : ℕ) (ts : List Tree) → w ≡ proof_found R made H P at ts
      → ((n : ℕ) (us : List Tree) → v n us ≡ proof_found R made H Q n us)
      → (w >>= λ g. v g.next g.terms >>= λ h. settled R.terms h.next h.terms (from_two r g.formula h.formula)) ≡ proof_found R made H (from_both r P Q) at ts
  rule_after_both H P Q r w v at ts ih jh =
      let l = conclusions made H P in
      let m = conclusions made H Q in
      let both = from_both r P Q in
      let e : conclusions made H both ≡ l ++ m ++ (conclude made H both ∷ []) =
      map-append (concluded_by made) (subproofs H P ++ subproofs H Q) (record { hypotheses = H; proof = both } ∷ []) ∙ ap (λ k. k ++ (conclude made H both ∷ [])) (map-append (concluded_by made) (subproofs H P) (subproofs H Q)) in
      ap (λ m. m >>= λ g. v g.next g.terms >>= λ h. settled R.terms h.next h.terms (from_two r g.formula h.formula)) ih
      ∙ then_alike (proof_found R made H P at ts) _ _ (λ g. ap (λ m. m >>= λ h. settled R.terms h.next h.terms (from_two r g.formula h.formula)) (jh g.next g.terms))
      ∙ two_more R at ts l m (conclude made H P) (conclude made H Q) (conclude_both r) (from_two r) (together H P) (together H Q) (λ χ ξ a b. from_two_typed r χ ξ)
      ∙ sym (ap (λ k. settled_to R at ts k (conclude made H both)) e)

  pub walk_is_typed : (H : List Formula) → each closed (map formula_tree H) ≡ true → (P : Proof) → closed_proof P ≡ true → (at : ℕ) (ts : List Tree)
      → walk R.terms (λ k. Option.map formula_tree (made k)) (map formula_tree H) (proof_tree P) at ts ≡ proof_found R made H P at ts
  walk_is_typed H hs (hyp i) c at ts = ap (settled R.terms at ts) (mapped_at H i) ∙ settled_last R at ts (get_elem? H i)
  walk_is_typed H hs (known k) c at ts = settled_last R at ts (made k)
  walk_is_typed H hs (assume φ P) c at ts =
      let p = and_parts (closed (formula_tree φ)) (closed_proof P) c in
      rule_after H (φ ∷ H) P (assume φ P) _ (λ ψ. some (implies φ ψ)) (λ x. some (binary (trees.connect implication) (formula_tree φ) x)) at ts
      (walk_is_typed (φ ∷ H) (and_from _ _ p.0 hs) P p.1 at ts) refl refl (λ χ e. refl)
  walk_is_typed H hs (Proof.absurd P φ) c at ts =
      let p = and_parts (closed_proof P) (closed (formula_tree φ)) c in
      rule_after H H P (Proof.absurd P φ) _ (λ χ. when (same χ falsity) φ) (λ x. absurdity (form x) (formula_tree φ)) at ts (walk_is_typed H hs P p.0 at ts) refl refl (λ χ e. absurdity_typed χ φ)
  walk_is_typed H hs (eqrefl_thing t) c at ts = settled_last R at ts (some (eq_things t t))
  walk_is_typed H hs (eqrefl_number a) c at ts = settled_last R at ts (some (eq_numbers a a))
  walk_is_typed H hs (eqsub P ψ) c at ts =
      let p = and_parts (closed_proof P) (below 1 (formula_tree ψ)) c in
      rule_after H H P (eqsub P ψ) _ (λ χ. rules.◌>>=◌ (sides χ) (rules.replaced ψ)) (λ x. replaced (form x) (formula_tree ψ)) at ts (walk_is_typed H hs P p.0 at ts) refl refl
      (λ χ e. replaced_typed χ ψ (closed_conclusion H hs P p.0 χ e))
  walk_is_typed H hs (inst t P) c at ts =
      let p = and_parts (closed (thing_tree t)) (closed_proof P) c in
      rule_after H H P (inst t P) _ (λ χ. when (same χ (forall (left χ))) (instance_of (left χ) t)) (λ x. instantiated (form x) (thing_tree t)) at ts (walk_is_typed H hs P p.1 at ts) refl refl
      (λ χ e. instantiated_typed χ t p.0)
  walk_is_typed H hs (from r P) c at ts = rule_after H H P (from r P) _ (conclude_from r) (from_one r) at ts (walk_is_typed H hs P c at ts) refl refl (λ χ e. from_one_typed r χ)
  walk_is_typed H hs (from_both r P Q) c at ts =
      let p = and_parts (closed_proof P) (closed_proof Q) c in
      rule_after_both H P Q r _ (λ n us. walk R.terms (λ k. Option.map formula_tree (made k)) (map formula_tree H) (proof_tree Q) n us) at ts (walk_is_typed H hs P p.0 at ts) (λ n us. walk_is_typed H hs Q p.1 n us)

-- the walk over the tree of a proof with no hypothesis above it finds what a session concludes from the proof
pub walk_is_concluded : (R : Room) (N : Names) → ((k : ℕ) (φ : Formula) → known_at N k ≡ some φ → closed (formula_tree φ) ≡ true) → (P : Proof) → closed_proof P ≡ true → (at : ℕ) (ts : List Tree)
    → walk R.terms (λ k. Option.map formula_tree (known_at N k)) [] (proof_tree P) at ts
    ≡ (session.concluded limits R N at ts P >>= λ x. done (record { next = at + length (conclusions (known_at N) [] P); terms = x.terms; formula = formula_tree x.formula }))
walk_is_concluded R N made_closed P c at ts =
    let m = settle limits R at ts (conclusions (known_at N) [] P) in
    let o = need unfounded (conclude (known_at N) [] P) in
    walk_is_typed R (known_at N) made_closed [] refl P c at ts
    ∙ sym (then_then m _ _ ∙ then_alike m _ _ (λ us. then_then o _ _))
