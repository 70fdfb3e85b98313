-- Reading a hypothesis, putting one on the stack, and a table that grows.
use Rattle.std.proofs.Common.{◌≡◌, ℕ, zero, suc, ◌-◌, ◌<◌, ◌≤◌, List, ◌∷◌, length, get_or, set, refl, ap, ◌∙◌, ap₂, arith, get_or-set_other, get_or-set_same}
use mathlib.Core.Option.{none, some}
use lib.ListN.{get_elem?}
use Rattle.logic.specs.Tree.{Tree}
use Rattle.rules.specs.Stack.{stacked}

pub hypothesis_at : (f : ℕ → Tree) (s : List ℕ) (h k : ℕ) → k < h → some (f (get_or s (h - 1 - k) 0)) ≡ get_elem? (stacked f s h) k
hypothesis_at f s zero k l = absurd (omega (arith, l))
hypothesis_at f s (suc h) zero l = let e : suc h - 1 - 0 ≡ h = omega arith in ap (λ j. some (f (get_or s j 0))) e
hypothesis_at f s (suc h) (suc k) l =
    let e : suc h - 1 - suc k ≡ h - 1 - k = omega arith in
    ap (λ j. some (f (get_or s j 0))) e ∙ hypothesis_at f s h k (omega (arith, l))

pub no_hypothesis : (f : ℕ → Tree) (s : List ℕ) (h k : ℕ) → h ≤ k → none ≡ get_elem? (stacked f s h) k
no_hypothesis f s zero k l = refl
no_hypothesis f s (suc h) zero l = absurd (omega (arith, l))
no_hypothesis f s (suc h) (suc k) l = no_hypothesis f s h k (omega (arith, l))

-- the same cells below the height, and the same trees at them, give the same hypotheses
pub stacked_alike : (f g : ℕ → Tree) (s r : List ℕ) (h : ℕ) → ((j : ℕ) → j < h → f (get_or s j 0) ≡ g (get_or r j 0)) → stacked f s h ≡ stacked g r h
stacked_alike f g s r zero e = refl
stacked_alike f g s r (suc h) e = ap₂ ◌∷◌ (e h (omega arith)) (stacked_alike f g s r h (λ j l. e j (omega (arith, l))))

-- a hypothesis put on the stack is the newest
pub stacked_push : (f : ℕ → Tree) (s : List ℕ) (h x : ℕ) → h < length s → stacked f (set s h x) (suc h) ≡ f x ∷ stacked f s h
stacked_push f s h x l =
    ap₂ ◌∷◌ (ap f (get_or-set_same s h x 0 l))
    (stacked_alike f f (set s h x) s h (λ j m. ap f (get_or-set_other s h j x 0 (λ e. omega (arith, e, m)))))
