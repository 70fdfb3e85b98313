-- Keeping the record of a tree whose operands are there.
use Rattle.std.proofs.Common.{◌≡◌, ℕ, suc, ◌+◌, cond, ltb, ◌<◌, ◌≤◌, true, false, List, [], ◌∷◌, ◌++◌, length, take, is_err, Some, Ok, Err, Result, sym, refl, ap, ◌∙◌, inl, inr, arith, MatchResult}
use native.Mathlib.Decide.{dec_lt}
use mathlib.Core.Bool.{false≢true}
use Rattle.std.specs.List.{slice_get}
use Rattle.std.proofs.lemmas.Bool.{cases_Bool, lt-ltb, le-ltb}
use Rattle.std.proofs.lemmas.List.{take_all, take_at, length-take, length_push, get_or_push, get_or_append_left}
use Rattle.std.proofs.lemmas.Option.{slice_get-get_or, slice_get_past}
use Rattle.logic.specs.Tree.{Tree, parts, size}
use Rattle.table.specs.Sameness as table
use Rattle.table.specs.Keeping.{answer, index, keep_in}
use Rattle.table.specs.declared.Place.{Place}
use Rattle.table.specs.declared.Place.TheVariants.{Found, Added}
use Rattle.table.specs.declared.Full.{Full}
use Rattle.table.proofs.Aparts.{apart_append, stands_first}
use Rattle.table.proofs.Aparts as aparts
use Rattle.terms.specs.declared.Terms.{Terms}
use Rattle.terms.specs.declared.records.Record.{Record}
use Rattle.terms.specs.declared.records.Record.TheVariants.{Leaf, Unary, Binary}
use Rattle.terms.specs.declared.records.Entry.{Entry}
use Rattle.terms.specs.Nodes.{node, after, same_entry}
use Rattle.logic.specs.Keeping.{has, keep, keep_each}
use Rattle.terms.specs.Meaning.{entry, trees_after, trees_of, tree_of, largest, Measures, Sound}
use Rattle.terms.specs.Outcome.{entries, count, room, trees, tree, most, Keeps, Did}
use Rattle.terms.specs.NodesLemmas.{node_injective, same_record_true, same_equivalence}
use Rattle.terms.proofs.Keepings.{has_at, at_has}
use Rattle.logic.proofs.Keepings.{has_each_append, keep_last, keep_had, keep_new}
use Rattle.terms.proofs.Meanings.{trees_length, trees_push, tree_front, tree_last, tree_node, index_once, stands_at, has_parts}

-- ---- a record is there if and only if its tree is

pub nth_is : (es : List Entry) (i : ℕ) (x : Entry) → slice_get es i ≡ Some x → (i < length es) × (entry es i ≡ x)
nth_is es i x e =
    elim (dec_lt i (length es)) [
      | yes h ↦ let f = slice_get-get_or es i (entry [] 0) h in (h, cc)
      | no h ↦ let f = slice_get_past es i (omega arith) in cc
    ]

module _ (es : List Entry) (s : Sound es) (e : Entry) (early : after e.record ≤ length es) where
  abbrev root : Tree
  root = node (tree_of es) e.record

  place_of : table.has same_entry es e ≡ true → (table.before same_entry es e < length es) × (tree_of es (table.before same_entry es e) ≡ root)
  place_of h =
      let st = stands_first same_entry es e h in
      let at_it = nth_is es (table.before same_entry es e) st.0 st.1 in
      let same = ap (λ x. x.record) at_it.1 ∙ same_record_true st.0.record e.record st.2 in
      (at_it.0, tree_node es s _ at_it.0 ∙ ap (node (tree_of es)) same)

  has_root : table.has same_entry es e ≡ true → has (trees_of es) root ≡ true
  has_root h = let p = place_of h in has_at (trees_of es) (table.before same_entry es e) root (omega (arith, trees_length es, p.0)) p.1

  no_root : table.has same_entry es e ≡ false → has (trees_of es) root ≡ false
  no_root h = elim (cases_Bool (has (trees_of es) root)) [ inl t ↦ absurd (there t) | inr f ↦ f ]
    where
      there : has (trees_of es) root ≡ true → ⊥
      there t =
          let p = at_has (trees_of es) root t in
          let k = p.0 in
          let within : k < length es = omega (arith, trees_length es, p.1) in
          let low = s.earlier k within in
          let same = node_injective (tree_of es) (entry es k).record e.record (λ a b f g. index_once es s a b (omega arith) (omega arith)) (sym (tree_node es s k within) ∙ p.2) in
          let st = stands_at es e k within same in
          false≢true (sym h ∙ aparts.has_at same_entry es k st.0 e st.1 st.2)

  -- ---- of its tree only the head may be new

  operands_there : (r : Record) → after r ≤ length es → keep_each (trees_of es) (parts (node (tree_of es) r)) ≡ keep (trees_of es) (node (tree_of es) r)
  operands_there (Leaf x) a = refl
  operands_there (Unary u i) a = keep_last (trees_of es) (parts (tree_of es i)) _ (has_parts es s i (omega arith))
  operands_there (Binary u i j) a =
      keep_last (trees_of es) (parts (tree_of es i) ++ parts (tree_of es j)) _
      (has_each_append (trees_of es) (parts (tree_of es i)) (parts (tree_of es j)) (has_parts es s i (omega arith)) (has_parts es s j (omega arith)))

  keeps_found : table.has same_entry es e ≡ true → Keeps es es root (table.before same_entry es e)
  keeps_found h =
      let p = place_of h in
      record { within = p.0; means = p.1; kept_each = sym (operands_there e.record early ∙ keep_had (trees_of es) root (has_root h)) }

  keeps_added : table.has same_entry es e ≡ false → Keeps es (es ++ (e ∷ [])) root (length es)
  keeps_added h = record {
    within = omega (arith, length_push es e);
    means = tree_last es e;
    kept_each = trees_push es e ∙ sym (operands_there e.record early ∙ keep_new (trees_of es) root (no_root h));
  }

  one_more : table.has same_entry es e ≡ false → length (keep_each (trees_of es) (parts root)) ≡ suc (length es)
  one_more h = ap length (operands_there e.record early ∙ keep_new (trees_of es) root (no_root h)) ∙ omega (arith, length_push (trees_of es) root, trees_length es)

  -- ---- the invariant is kept

  module _ (m : Measures root e) (fits : size root ≤ largest) (absent : table.has same_entry es e ≡ false) where
    -- what holds at each place and at the new one
    each_after : (P : ℕ → Tree → Entry → Type 0) → ((k : ℕ) → k < length es → P k (tree_of es k) (entry es k)) → P (length es) root e
        → (k : ℕ) → k < length (es ++ (e ∷ [])) → P k (tree_of (es ++ (e ∷ [])) k) (entry (es ++ (e ∷ [])) k)
    each_after P old new k h =
        elim (dec_lt k (length es)) [
          | yes l ↦ rw (tree_front es (e ∷ []) k l, get_or_append_left es (e ∷ []) (entry [] 0) k l) (old k l)
          | no l ↦ let last : k ≡ length es = omega (arith, length_push es e) in rw (last, tree_last es e, get_or_push es e (entry [] 0) (length es) refl) new
        ]

    sound_added : Sound (es ++ (e ∷ []))
    sound_added = record {
      earlier = each_after (λ k _ x. after x.record ≤ k) s.earlier early;
      once = apart_append same_entry same_equivalence es e absent s.once;
      measured = each_after (λ _ t x. Measures t x) s.measured m;
      small = each_after (λ _ t _. size t ≤ largest) s.small fits;
    }

-- ---- what the container's `keep` does to the terms

module _ (n : ℕ) (l : List Entry) (e : Entry) where
  found_already : table.has same_entry l e ≡ true → (answer same_entry n l e ≡ Ok (Found (table.before same_entry l e))) × (keep_in same_entry n l e ≡ l)
  found_already h = (rw h, rw h)

  added_last : table.has same_entry l e ≡ false → length l < n → (answer same_entry n l e ≡ Ok (Added (length l))) × (keep_in same_entry n l e ≡ l ++ (e ∷ []))
  added_last h left = let t = lt-ltb (length l) n left in (rw (h, t), rw (h, t))

  no_place_left : table.has same_entry l e ≡ false → n ≤ length l → (answer same_entry n l e ≡ Err (record {})) × (keep_in same_entry n l e ≡ l)
  no_place_left h left = let t = le-ltb (length l) n left in (rw (h, t), rw (h, t))

module _ (old new : Terms) (same_room : room new ≡ room old) (root : Tree) (es : List Entry) (is : entries new ≡ es) where
  did_with : (r : Result ℕ Full) → take (count old) es ≡ entries old → MatchResult r (Keeps (entries old) es root) (λ _. most old < length (keep_each (trees old) (parts root))) → Did old new root r
  did_with r front out = record {
    same_room = same_room;
    front = ap (take (count old)) is ∙ front;
    outcome = rw is out;
  }

module _ (old new : Terms) (e : Entry) (early : after e.record ≤ count old) where
  -- the entry was there at the place, or is added there
  pub did_place : (p : Place) (i : ℕ) → i ≡ index p → room new ≡ room old → Ok p ≡ answer same_entry (room old) (entries old) e → entries new ≡ keep_in same_entry (room old) (entries old) e → Did old new (node (tree old) e.record) (Ok i)
  did_place p i place same_room says is =
      let s = old.sound in
      let es = entries old in
      let all = take_all (count old) es (omega arith) in
      elim (cases_Bool (table.has same_entry es e)) [
        | inl h ↦
            let c = found_already (room old) es e h in
            let at : i ≡ table.before same_entry es e = cc in
            did_with old new same_room _ _ (is ∙ c.1) (Ok i) all (rw at (keeps_found es s e early h))
        | inr h ↦ elim (dec_lt (length es) (room old)) [
          | yes l ↦
              let c = added_last (room old) es e h l in
              let at : i ≡ length es = cc in
              did_with old new same_room _ _ (is ∙ c.1) (Ok i) (take_at es (e ∷ []) (count old) refl) (rw at (keeps_added es s e early h))
          | no l ↦ let c = no_place_left (room old) es e h (omega arith) in cc
        ]
      ]

  -- nothing was added, since no more can be kept
  pub did_full : room new ≡ room old → entries new ≡ entries old → table.has same_entry (entries old) e ≡ false → most old ≤ count old → Did old new (node (tree old) e.record) (Err (record {}))
  did_full same_room is h full =
      did_with old new same_room _ _ is (Err (record {})) (take_all (count old) (entries old) (omega arith)) (omega (arith, one_more (entries old) old.sound e early h))

  pub did_refused : (f : Full) (r : Result ℕ Full) → is_err r ≡ true → room new ≡ room old → Err f ≡ answer same_entry (room old) (entries old) e → entries new ≡ keep_in same_entry (room old) (entries old) e → Did old new (node (tree old) e.record) r
  did_refused f (Ok i) refused same_room says is = cc
  did_refused f (Err g) refused same_room says is =
      let es = entries old in
      elim (cases_Bool (table.has same_entry es e)) [
        | inl h ↦ let c = found_already (room old) es e h in cc
        | inr h ↦ elim (dec_lt (length es) (room old)) [
          | yes l ↦ let c = added_last (room old) es e h l in cc
          | no l ↦ did_full same_room (is ∙ (no_place_left (room old) es e h (omega arith)).1) h (omega arith)
        ]
      ]

-- the entry that was searched for and found is kept already
pub did_found : (T : Terms) (e : Entry) (early : after e.record ≤ count T) (i : ℕ) → table.first same_entry (entries T) e ≡ Some i → Did T T (node (tree T) e.record) (Ok i)
did_found T e early i at =
    elim (cases_Bool (table.has same_entry (entries T) e)) [
      | inl h ↦
          let place : i ≡ table.before same_entry (entries T) e = cc in
          did_with T T refl _ _ refl (Ok i) (take_all (count T) (entries T) (omega arith)) (rw place (keeps_found (entries T) T.sound e early h))
      | inr h ↦ cc
    ]

-- what is kept stays sound
pub sound_keep : (n : ℕ) (es : List Entry) (e : Entry) → Sound es → after e.record ≤ length es → Measures (node (tree_of es) e.record) e → size (node (tree_of es) e.record) ≤ largest → Sound (keep_in same_entry n es e)
sound_keep n es e s early m fits =
    elim (cases_Bool (table.has same_entry es e)) [
      | inl h ↦ rw (found_already n es e h).1 s
      | inr h ↦ elim (dec_lt (length es) n) [
        | yes l ↦ rw (added_last n es e h l).1 (sound_added es s e early m fits h)
        | no l ↦ rw (no_place_left n es e h (omega arith)).1 s
      ]
    ]

-- at most one is added
pub few_more : (n : ℕ) (es : List Entry) (e : Entry) → length (keep_in same_entry n es e) ≤ length es + 1
few_more n es e =
    elim (table.has same_entry es e) as (λ b. length (cond b es (cond (ltb (length es) n) (es ++ (e ∷ [])) es)) ≤ length es + 1) [
      | true ↦ omega arith
      | false ↦ elim (ltb (length es) n) as (λ b. length (cond b (es ++ (e ∷ [])) es) ≤ length es + 1) [ true ↦ omega (arith, length_push es e) | false ↦ omega arith ]
    ]

pub count_within : (T : Terms) → count T ≤ most T
count_within T = omega (arith, length-take T.table.log.used T.table.log.slots.now, T.few)

-- ---- an empty table

pub empty_sound : Sound []
empty_sound = record { earlier = λ k h. absurd (omega arith); once = tt; measured = λ k h. absurd (omega arith); small = λ k h. absurd (omega arith) }

pub empty_trees : (es : List Entry) → es ≡ [] → trees_of es ≡ []
unfolding trees_of trees_after
empty_trees es e = ap trees_of e
