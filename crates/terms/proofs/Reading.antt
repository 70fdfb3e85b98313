-- Reading entries, and what makes a term's measures fit.
use Rattle.std.proofs.Common.{◌≡◌, ℕ, suc, ◌+◌, ◌<◌, ◌≤◌, max, Bool, true, false, cond, Some, Option, sym, ap, ◌∙◌, subst, arith}
use Rattle.std.specs.List.{slice_get}
use Rattle.logic.specs.Tree.{Tree, leaf, unary, binary, size, binds, assumes, foralls, assumptions}
use Rattle.terms.specs.declared.Terms.{Terms}
use Rattle.terms.specs.declared.records.Record.{Record}
use Rattle.terms.specs.declared.records.Entry.{Entry}
use Rattle.terms.specs.Nodes.{node, after}
use Rattle.terms.specs.Meaning.{entry, Measures, largest}
use Rattle.terms.specs.Outcome.{entries, count, tree}
use Rattle.terms.proofs.Meanings.{tree_node}
use Rattle.terms.proofs.Making.{nth_is}

-- ---- an entry that was read

module _ (T : Terms) (i : ℕ) (e : Entry) (o : Option Entry) (l : i < count T) (read : o ≡ slice_get (entries T) i) (some : o ≡ Some e) where
  is : entry (entries T) i ≡ e
  is = (nth_is (entries T) i e (sym read ∙ some)).1

  pub read_means : tree T i ≡ node (tree T) e.record
  read_means = tree_node (entries T) T.sound i l ∙ ap (λ x. node (tree T) x.record) is

  pub read_earlier : after e.record ≤ i
  read_earlier = subst (λ x. after x.record ≤ i) is (T.sound.earlier i l)

  pub read_measures : Measures (tree T i) e
  read_measures = subst (Measures (tree T i)) is (T.sound.measured i l)

-- ---- nesting is less than the size

one_more : (b : Bool) (m n : ℕ) → m < n → cond b (suc m) m < suc n
one_more true m n h = omega arith
one_more false m n h = omega arith

pub foralls_below : (t : Tree) → foralls t < size t
foralls_below (leaf x) = omega arith
foralls_below (unary h t) = one_more (binds h) (foralls t) (size t) (foralls_below t)
foralls_below (binary h t u) = omega (arith, foralls_below t, foralls_below u)

pub assumptions_below : (t : Tree) → assumptions t < size t
assumptions_below (leaf x) = omega arith
assumptions_below (unary h t) = omega (arith, assumptions_below t)
assumptions_below (binary h t u) =
    let n = max (assumptions t) (assumptions u) in
    one_more (assumes h) n (size t + size u) (omega (arith, assumptions_below t, assumptions_below u))

pub measured_foralls : (t : Tree) (e : Entry) → Measures t e → e.foralls ≤ e.size
measured_foralls t e m = omega (arith, m.foralls_is, m.size_is, foralls_below t)

pub measured_assumptions : (t : Tree) (e : Entry) → Measures t e → e.assumptions ≤ e.size
measured_assumptions t e m = omega (arith, m.assumptions_is, m.size_is, assumptions_below t)

-- ---- an entry that was made: its tree, by its record

pub made_measures : (f : ℕ → Tree) (r : Record) (e : Entry) → e.record ≡ r → Measures (node f r) e → Measures (node f e.record) e
made_measures f r e made m = subst (λ x. Measures (node f x) e) (sym made) m

pub made_small : (f : ℕ → Tree) (r s : Record) → s ≡ r → size (node f r) ≤ largest → size (node f s) ≤ largest
made_small f r s made h = subst (λ x. size (node f x) ≤ largest) (sym made) h

pub made_earlier : (r s : Record) (n : ℕ) → s ≡ r → after r ≤ n → after s ≤ n
made_earlier r s n made h = subst (λ x. after x ≤ n) (sym made) h
