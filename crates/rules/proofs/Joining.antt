-- Two sides of a head, the second read in the table in which the first was kept.
use Rattle.std.proofs.Common.{◌≡◌, ℕ, ◌≤◌, true, is_err, Ok, Err, Result, refl, subst}
use Rattle.logic.specs.Tree.{Tree, Binary, binary, size}
use Rattle.table.specs.declared.Full.{Full}
use Rattle.terms.specs.declared.Terms.{Terms}
use Rattle.terms.specs.Meaning.{largest}
use Rattle.terms.specs.Outcome.{tree, Did}
use Rattle.terms.proofs.Outcomes.{right_broke, two_did, two_small}

module _ (h : Binary) (x : Tree) {y y' : Tree} (e : y' ≡ y) where
  pub right_then_broke : (t0 t1 t2 : Terms) (i : ℕ) (f : Full) (r : Result ℕ Full) → Did t0 t1 x (Ok i) → Did t1 t2 y' (Err f) → is_err r ≡ true → Did t0 t2 (binary h x y) r
  right_then_broke t0 t1 t2 i f r d k b = right_broke h x y _ refl t0 t1 t2 i f r d (subst (λ z. Did t1 t2 z (Err f)) e k) b

  pub then_two_small : size (binary h x y) ≤ largest → (t0 t1 t2 : Terms) (i j : ℕ) → Did t0 t1 x (Ok i) → Did t1 t2 y' (Ok j) → size (binary h (tree t2 i) (tree t2 j)) ≤ largest
  then_two_small s t0 t1 t2 i j d k = two_small h x y _ refl s t0 t1 t2 i j d (subst (λ z. Did t1 t2 z (Ok j)) e k)

  pub then_two_did : (t0 t1 t2 t3 : Terms) (i j : ℕ) (r : Result ℕ Full) → Did t0 t1 x (Ok i) → Did t1 t2 y' (Ok j) → Did t2 t3 (binary h (tree t2 i) (tree t2 j)) r → Did t0 t3 (binary h x y) r
  then_two_did t0 t1 t2 t3 i j r d k m = two_did h x y _ refl t0 t1 t2 t3 i j r d (subst (λ z. Did t1 t2 z (Ok j)) e k) m
