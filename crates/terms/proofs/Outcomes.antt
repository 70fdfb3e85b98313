-- One call that keeps terms after another: "then", the exit of a `?`, a head over one operand and over two.
use Rattle.std.proofs.Common.{◌≡◌, ℕ, suc, max, ◌<◌, ◌≤◌, true, List, [], ◌++◌, length, take, is_err, Ok, Err, Result, sym, refl, ap, ◌∙◌, ap₂, arith, MatchResult}
use Rattle.std.proofs.lemmas.List.{append_assoc, take_all, take-take, get_or_append_left}
use Rattle.logic.specs.Tree.{Tree, Unary, Binary, leaf, unary, binary, nil, parts, size}
use Rattle.table.specs.declared.Full.{Full}
use Rattle.terms.specs.declared.Terms.{Terms}
use Rattle.logic.specs.Keeping.{keep_each}
use Rattle.terms.specs.Meaning.{at, largest}
use Rattle.terms.specs.Outcome.{entries, count, most, trees, tree, Keeps, Did, Tried, Grew}
use Rattle.logic.proofs.Keepings.{keep_each_append, keep_each_more, keep_each_had, keep_one_first, length_keep_each}
use Rattle.terms.proofs.Meanings.{trees_length, has_parts}

-- ---- what grew

pub grew_none : (T : Terms) → Grew T T []
grew_none T = record { same_room = refl; front = take_all (count T) (entries T) (omega arith); kept_each = refl }

pub grew : (old new : Terms) (x : Tree) (i : ℕ) → Did old new x (Ok i) → Grew old new (parts x)
grew old new x i d = record { same_room = d.same_room; front = d.front; kept_each = d.outcome.kept_each }

-- the trees that were there are in front, so the table is no shorter
trees_longer : (old new : Terms) (p : List Tree) → Grew old new p → count old ≤ count new
trees_longer old new p g =
    omega (arith, length_keep_each (trees old) p, ap length g.kept_each, trees_length (entries old), trees_length (entries new))

pub front_then : (t0 t1 t2 : Terms) → count t0 ≤ count t1 → take (count t0) (entries t1) ≡ entries t0 → take (count t1) (entries t2) ≡ entries t1 → take (count t0) (entries t2) ≡ entries t0
front_then t0 t1 t2 l f g = sym (take-take (count t0) (count t1) (entries t2) l) ∙ ap (take (count t0)) g ∙ f

pub grew_then : (t0 t1 t2 : Terms) (p q : List Tree) → Grew t0 t1 p → Grew t1 t2 q → Grew t0 t2 (p ++ q)
grew_then t0 t1 t2 p q g h = record {
  same_room = h.same_room ∙ g.same_room;
  front = front_then t0 t1 t2 (trees_longer t0 t1 p g) g.front h.front;
  kept_each = h.kept_each ∙ ap (λ l. keep_each l q) g.kept_each ∙ sym (keep_each_append (trees t0) p q);
}

-- what was there is there after a call, under its index
pub later : (old new : Terms) (p : List Tree) → Grew old new p → (k : ℕ) → k < count old → (tree new k ≡ tree old k) × (k < count new)
later old new p g k l =
    let m = keep_each_more (trees old) p in (
      ap (λ ts. at ts k) (g.kept_each ∙ m.1) ∙ get_or_append_left (trees old) m.0 (leaf nil) k (omega (arith, trees_length (entries old))),
      omega (arith, trees_longer old new p g),
    )

-- ---- what a call did after others

-- first some of the tree's parts, in their order, and then the tree
pub did_then : (t0 t1 t2 : Terms) (p z : List Tree) (root : Tree) (r : Result ℕ Full) → parts root ≡ p ++ z → Grew t0 t1 p → Did t1 t2 root r → Did t0 t2 root r
did_then t0 t1 t2 p z root r e g d =
    let lists : keep_each (trees t1) (parts root) ≡ keep_each (trees t0) (parts root) =
    ap₂ keep_each g.kept_each e ∙ keep_one_first (trees t0) p z ∙ ap (keep_each (trees t0)) (sym e) in
    record {
      same_room = d.same_room ∙ g.same_room;
      front = front_then t0 t1 t2 (trees_longer t0 t1 p g) g.front d.front;
      outcome = out r lists d.outcome;
    }
  where
    out : (r : Result ℕ Full) → keep_each (trees t1) (parts root) ≡ keep_each (trees t0) (parts root) → MatchResult r (Keeps (entries t1) (entries t2) root) (λ _. most t1 < length (keep_each (trees t1) (parts root))) → MatchResult r (Keeps (entries t0) (entries t2) root) (λ _. most t0 < length (keep_each (trees t0) (parts root)))
    out (Ok i) lists k = record { within = k.within; means = k.means; kept_each = k.kept_each ∙ lists }
    out (Err f) lists k = omega (arith, ap length lists, g.same_room)

-- the exit of a `?`: no room for a part
pub did_break : (t0 t1 t2 : Terms) (p z : List Tree) (x root : Tree) (f : Full) (r : Result ℕ Full) → parts root ≡ p ++ parts x ++ z → Grew t0 t1 p → Did t1 t2 x (Err f) → is_err r ≡ true → Did t0 t2 root r
did_break t0 t1 t2 p z x root f (Ok i) e g d b = absurd (grind arith)
did_break t0 t1 t2 p z x root f (Err h) e g d b =
    let so_far : keep_each (trees t1) (parts x) ≡ keep_each (trees t0) (p ++ parts x) = ap (λ l. keep_each l (parts x)) g.kept_each ∙ sym (keep_each_append (trees t0) p (parts x)) in
    let all : keep_each (trees t0) (parts root) ≡ keep_each (keep_each (trees t0) (p ++ parts x)) z = ap (keep_each (trees t0)) e ∙ keep_each_append (trees t0) (p ++ parts x) z in
    record {
      same_room = d.same_room ∙ g.same_room;
      front = front_then t0 t1 t2 (trees_longer t0 t1 p g) g.front d.front;
      outcome = omega (arith, d.outcome, ap length so_far, ap length all, length_keep_each (keep_each (trees t0) (p ++ parts x)) z, g.same_room);
    }

-- a term that is there is kept already
pub did_stay : (T : Terms) (root : Tree) (i : ℕ) → i < count T → tree T i ≡ root → Did T T root (Ok i)
did_stay T root i l e = record {
  same_room = refl;
  front = take_all (count T) (entries T) (omega arith);
  outcome = record { within = l; means = e; kept_each = sym (ap (λ t. keep_each (trees T) (parts t)) (sym e) ∙ keep_each_had (trees T) (parts (tree T i)) (has_parts (entries T) T.sound i l)) };
}

-- ---- a head over one operand

module _ (h : Unary) (x root : Tree) (e : root ≡ unary h x) where
  pub one_did : (t0 t1 t2 : Terms) (i : ℕ) (r : Result ℕ Full) → Did t0 t1 x (Ok i) → Did t1 t2 (unary h (tree t1 i)) r → Did t0 t2 root r
  one_did t0 t1 t2 i r d k =
      rw e (did_then t0 t1 t2 (parts x) _ (unary h x) r refl (grew t0 t1 x i d) (rw (← d.outcome.means) k))

  pub one_broke : (t0 t1 : Terms) (f : Full) (r : Result ℕ Full) → Did t0 t1 x (Err f) → is_err r ≡ true → Did t0 t1 root r
  one_broke t0 t1 f r d b = rw e (did_break t0 t0 t1 [] _ x (unary h x) f r refl (grew_none t0) d b)

-- ---- a head over two

module _ (h : Binary) (x y root : Tree) (e : root ≡ binary h x y) where
  pub left_broke : (t0 t1 : Terms) (f : Full) (r : Result ℕ Full) → Did t0 t1 x (Err f) → is_err r ≡ true → Did t0 t1 root r
  left_broke t0 t1 f r d b =
      rw e (did_break t0 t0 t1 [] _ x (binary h x y) f r (append_assoc (parts x) (parts y) _) (grew_none t0) d b)

  pub right_broke : (t0 t1 t2 : Terms) (i : ℕ) (f : Full) (r : Result ℕ Full) → Did t0 t1 x (Ok i) → Did t1 t2 y (Err f) → is_err r ≡ true → Did t0 t2 root r
  right_broke t0 t1 t2 i f r d k b =
      rw e (did_break t0 t1 t2 (parts x) _ y (binary h x y) f r refl (grew t0 t1 x i d) k b)

  pub two_did : (t0 t1 t2 t3 : Terms) (i j : ℕ) (r : Result ℕ Full) → Did t0 t1 x (Ok i) → Did t1 t2 y (Ok j) → Did t2 t3 (binary h (tree t2 i) (tree t2 j)) r → Did t0 t3 root r
  two_did t0 t1 t2 t3 i j r d k m =
      let left = (later t1 t2 (parts y) (grew t1 t2 y j k) i d.outcome.within).0 ∙ d.outcome.means in
      let right = k.outcome.means in
      rw e
      (did_then t0 t2 t3 (parts x ++ parts y) _ (binary h x y) r refl (grew_then t0 t1 t2 (parts x) (parts y) (grew t0 t1 x i d) (grew t1 t2 y j k))
      (rw (← left, ← right) m))

-- ---- the head over what was kept is no larger than the tree that is wanted

pub one_small : (h : Unary) (x root : Tree) → root ≡ unary h x → size root ≤ largest → (t0 t1 : Terms) (i : ℕ) → Did t0 t1 x (Ok i) → size (unary h (tree t1 i)) ≤ largest
one_small h x root e s t0 t1 i d = rw d.outcome.means (rw e at s)

pub two_small : (h : Binary) (x y root : Tree) → root ≡ binary h x y → size root ≤ largest → (t0 t1 t2 : Terms) (i j : ℕ) → Did t0 t1 x (Ok i) → Did t1 t2 y (Ok j) → size (binary h (tree t2 i) (tree t2 j)) ≤ largest
two_small h x y root e s t0 t1 t2 i j d k =
    let left = (later t1 t2 (parts y) (grew t1 t2 y j k) i d.outcome.within).0 ∙ d.outcome.means in
    rw (left, k.outcome.means) (rw e at s)

-- an index stays within
pub still_within : (old new : Terms) (x : Tree) (i : ℕ) → Did old new x (Ok i) → (k : ℕ) → k < count old → k < count new
still_within old new x i d k l = (later old new (parts x) (grew old new x i d) k l).1

pub still_means : (old new : Terms) (x : Tree) (i : ℕ) → Did old new x (Ok i) → (k : ℕ) → k < count old → tree new k ≡ tree old k
still_means old new x i d k l = (later old new (parts x) (grew old new x i d) k l).0

-- the second operand of a head over two, read after a call for the first
pub second_means : (old new : Terms) (x : Tree) (k : ℕ) → Did old new x (Ok k) → (i a b : ℕ) → suc (max a b) ≤ i → i < count old → tree new b ≡ tree old b
second_means old new x k d i a b early within = still_means old new x k d b (omega arith)

-- a refusal that touches nothing
pub untouched : {E : Type 0} (T : Terms) (root : Tree) (e : E) → Tried T T root (Err e)
untouched T root e = record { same_room = refl; front = take_all (count T) (entries T) (omega arith); outcome = tt }
