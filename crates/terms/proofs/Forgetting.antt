-- Forgetting terms from an index on, and the parts of a kept term.
use Rattle.std.proofs.Common.{◌≡◌, ℕ, ◌<◌, min, true, ltb, List, [], ◌∷◌, ◌++◌, length, take, drop, is_err, Ok, Err, Result, sym, ap, ◌∙◌, arith}
use Rattle.std.proofs.lemmas.Bool.{lt-ltb, le-ltb}
use Rattle.std.proofs.lemmas.List.{take-append-drop, length-take, get_or-take, ext_get_or}
use Rattle.logic.specs.Tree.{Tree, leaf, nil, parts, operands, unary, binary}
use Rattle.table.specs.declared.Full.{Full}
use Rattle.table.proofs.Aparts.{apart_take}
use Rattle.terms.specs.declared.Terms.{Terms}
use Rattle.terms.specs.declared.records.Entry.{Entry}
use Rattle.terms.specs.Nodes.{same_entry}
use Rattle.logic.specs.Keeping.{has, keep_each, HasEach}
use Rattle.terms.specs.Meaning.{entry, trees_of, tree_of, Sound}
use Rattle.terms.specs.Outcome.{entries, count, most, trees, tree, Did}
use Rattle.terms.specs.Theorems.{KeptOnce, MeaningsLast, RefusedForWantOfRoom}
use Rattle.terms.proofs.Making.{count_within}
use Rattle.terms.proofs.Meanings.{tree_front, tree_node, trees_length, index_once, has_parts}

module _ (es : List Entry) (n : ℕ) where
  len : length (take n es) ≡ min n (length es)
  len = length-take n es

  kept_tree : (k : ℕ) → k < length (take n es) → tree_of (take n es) k ≡ tree_of es k
  kept_tree k h = sym (ap (λ l. tree_of l k) (sym (take-append-drop n es)) ∙ tree_front (take n es) (drop n es) k h)

  kept_entry : (k : ℕ) → k < length (take n es) → entry (take n es) k ≡ entry es k
  kept_entry k h = get_or-take n es k _ (omega (arith, len))

  pub sound_take : Sound es → Sound (take n es)
  sound_take s = record {
    earlier = λ k h. rw (kept_entry k h) (s.earlier k (omega (arith, len)));
    once = apart_take same_entry n es s.once;
    measured = λ k h. rw (kept_tree k h, kept_entry k h) (s.measured k (omega (arith, len)));
    small = λ k h. rw (kept_tree k h) (s.small k (omega (arith, len)));
  }

  pub trees_take : trees_of (take n es) ≡ take n (trees_of es)
  trees_take =
      let a = trees_length (take n es) in
      let b = trees_length es in
      let c = length-take n (trees_of es) in
      ext_get_or (leaf nil) (trees_of (take n es)) (take n (trees_of es)) (omega (arith, len))
      (λ k h. kept_tree k (omega arith) ∙ sym (get_or-take n (trees_of es) k (leaf nil) (omega (arith, len))))

pub forgotten_trees : (old new : List Entry) (n : ℕ) → new ≡ take n old → trees_of new ≡ take n (trees_of old)
forgotten_trees old new n e = ap trees_of e ∙ trees_take old n

-- ---- the theorems

had_both : (l p q : List Tree) → HasEach l (p ++ q) → HasEach l p × HasEach l q
had_both l [] q h = (tt, h)
had_both l (t ∷ p) q h = let r = had_both l p q h.1 in ((h.0, r.0), r.1)

itself_had : (l : List Tree) (t : Tree) → HasEach l (parts t) → has l t ≡ true
itself_had l (leaf x) h = h.0
itself_had l (unary u t) h = (had_both l (parts t) _ h).1.0
itself_had l (binary u t v) h = (had_both l (parts t ++ parts v) _ h).1.0

operands_had : (l : List Tree) (t : Tree) → HasEach l (parts t) → HasEach l (operands t)
operands_had l (leaf x) h = tt
operands_had l (unary u t) h = (itself_had l t (had_both l (parts t) _ h).0, tt)
operands_had l (binary u t v) h =
    let both = had_both l (parts t) (parts v) (had_both l (parts t ++ parts v) _ h).0 in
    (itself_had l t both.0, (itself_had l v both.1, tt))

pub kept_once : KeptOnce
kept_once = record {
  distinct = λ T. index_once (entries T) T.sound;
  complete = λ T. has_parts (entries T) T.sound;
  operands_kept = λ T i h. operands_had (trees T) (tree T i) (has_parts (entries T) T.sound i h);
}

pub meanings_last : MeaningsLast
meanings_last = record { by_record = λ T. tree_node (entries T) T.sound; as_many = trees_length; appended = tree_front }

refused_exactly : (old new : Terms) (root : Tree) (answer : Result ℕ Full) → Did old new root answer → is_err answer ≡ ltb (most old) (length (keep_each (trees old) (parts root)))
refused_exactly old new root (Ok i) d =
    let n = trees_length (entries new) in
    let m = count_within new in
    sym (le-ltb (most old) (length (keep_each (trees old) (parts root))) (omega (arith, ap length d.outcome.kept_each, d.same_room)))
refused_exactly old new root (Err f) d = sym (lt-ltb (most old) (length (keep_each (trees old) (parts root))) d.outcome)

pub refused_for_want_of_room : RefusedForWantOfRoom
refused_for_want_of_room = record { exactly = refused_exactly; most_is_room = λ T few. omega (arith, few); given_back = λ old new root answer d. sym (trees_take (entries new) (count old)) ∙ ap trees_of d.front }
