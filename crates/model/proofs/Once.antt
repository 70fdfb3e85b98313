-- The writer writes no term twice.
use Rattle.command.specs.declared.command.Command.{Command}
use Rattle.std.proofs.Common.{◌≡◌, ℕ, suc, ◌+◌, ◌≤◌, true, false, ◌⊎◌, List, [], ◌∷◌, ◌++◌, length, sym, refl, ap, ◌∙◌, subst, inl, inr, append-nil, le_trans, le_refl, arith}
use mathlib.Core.Option.{none}
use Rattle.std.proofs.lemmas.Bool.{cases_Bool, cond_both, both_ways}
use Rattle.logic.specs.Tree.{Tree, leaf, unary, binary, size, formula_tree, plan_tree, proof_tree}
use Rattle.model.specs.State.{Symbol, Result, symbol, term, fact, nothing, Names, no_names, with_result, with_symbol, the_tree}
use Rattle.logic.specs.Keeping.{has, keep, keep_each}
use Rattle.model.specs.Commands.{plain}
use Rattle.model.specs.Tests.{fact_operands}
use Rattle.model.specs.Written.{Line, named_each}
use Rattle.model.specs.Writer.{StatedFact, Refutation, leaf_command, unary_command, binary_code, stands_in, number_of, line, makes_term, unless, write, write_each, symbol_lines, fact_terms, at_fact, fact_lines}
use Rattle.model.specs.Writer.{at_query, asked, before, at_initial, begun, after_facts, proof_written, at_end, write_out, tree_before, trees_in, RefutationsCanBeWrittenOut}
use Rattle.logic.proofs.Keepings.{keep_each_append, keep_new, last_or_had}
use Rattle.model.proofs.Places.{stands_is_has, trees_last, named_each_append}
use Rattle.model.proofs.Accepting.{that_refutations_are_accepted}
use Rattle.model.proofs.Writing.{named_makes, written}

-- ---- the terms among the results

-- each stands once
abbrev Once : Names → Type 0
Once N = keep_each [] (trees_in N.results) ≡ trees_in N.results

once_term : (N : Names) (t : Tree) → Once N → stands_in N.results t ≡ false → Once (with_result N (term t))
once_term N t o new =
    let l = trees_in N.results in
    let e : trees_in (N.results ++ (term t ∷ [])) ≡ l ++ (t ∷ []) = trees_last N.results (term t) in
    ap (keep_each []) e ∙ keep_each_append [] l (t ∷ []) ∙ ap (λ k. keep k t) o ∙ keep_new l t (sym (stands_is_has N.results t) ∙ new) ∙ sym e

once_other : (N M : Names) (x : Result) → M.results ≡ N.results ++ (x ∷ []) → the_tree x ≡ none → Once N → Once M
once_other N M x adds no_tree o =
    let e : trees_in M.results ≡ trees_in N.results = ap trees_in adds ∙ trees_last N.results x ∙ ap (λ p. trees_in N.results ++ tree_before p []) no_tree ∙ append-nil (trees_in N.results) in
    ap (keep_each []) e ∙ o ∙ sym e

stands_or_last : (l : List Result) (t u : Tree) → stands_in (l ++ (term t ∷ [])) u ≡ true → (stands_in l u ≡ true) ⊎ (u ≡ t)
stands_or_last l t u h =
    elim (last_or_had (trees_in l) t u (ap (λ k. has k u) (sym (trees_last l (term t))) ∙ sym (stands_is_has (l ++ (term t ∷ [])) u) ∙ h)) [
      | inl e ↦ inr e
      | inr e ↦ inl (stands_is_has l u ∙ e)
    ]

-- ---- names that grow by new terms of size at most n, each once

record Grown (N M : Names) (n : ℕ) : Type 0 where
  once : Once M
  small : (u : Tree) → stands_in M.results u ≡ true → (stands_in N.results u ≡ true) ⊎ (size u ≤ n)

same_names : (N : Names) (n : ℕ) → Once N → Grown N N n
same_names N n o = record { once = o; small = λ u h. inl h }

grown_further : (N M K : Names) (m n : ℕ) → m ≤ n → Grown N M m → Grown M K n → Grown N K n
grown_further N M K m n le p q = record {
  once = q.once;
  small = λ u h. elim (q.small u h) [ inl e ↦ elim (p.small u e) [ inl i ↦ inl i | inr j ↦ inr (le_trans j le) ] | inr e ↦ inr e ];
}

-- the head's own line, where the term is new
head_once : (b : ℕ) (N M : Names) (c : Command) (t : Tree) (n : ℕ) → suc n ≤ size t → stands_in N.results t ≡ false → Grown N M n → Grown N (named_each M (line b M c (makes_term c t) ∷ [])) (size t)
head_once b N M c t n larger new g =
    subst (λ K. Grown N K (size t)) (sym (named_makes M c t)) (record {
      once = once_term M t g.once absent;
      small = λ u h. elim (stands_or_last M.results t u h) [
        | inl e ↦ elim (g.small u e) [ inl i ↦ inl i | inr j ↦ inr (omega (arith, j, larger)) ]
        | inr e ↦ inr (subst (λ x. size x ≤ size t) (sym e) (le_refl (size t)))
      ];
    })
  where
    absent : stands_in M.results t ≡ false
    absent =
        elim (cases_Bool (stands_in M.results t)) [
          | inl e ↦ absurd (elim (g.small t e) [ inl i ↦ both_ways _ new i | inr j ↦ omega (arith, j, larger) ])
          | inr e ↦ e
        ]

unless_once : (N : Names) (l : List Line) (t : Tree) → Once N → (stands_in N.results t ≡ false → Grown N (named_each N l) (size t)) → Grown N (named_each N (unless (stands_in N.results t) l)) (size t)
unless_once N l t o g = cond_both (stands_in N.results t) [] l (λ m. Grown N (named_each N m) (size t)) (λ _. same_names N (size t) o) g

write_once : (b : ℕ) (t : Tree) (N : Names) → Once N → Grown N (named_each N (write b N t)) (size t)
write_once b (leaf x) N o = unless_once N _ (leaf x) o (λ new. head_once b N N (leaf_command x) (leaf x) 0 (le_refl 1) new (same_names N 0 o))
write_once b (unary h t) N o =
    let l = write b N t in
    let M = named_each N l in
    let c = unary_command h (number_of M t) in
    unless_once N (l ++ (line b M c (makes_term c (unary h t)) ∷ [])) (unary h t) o (λ new.
    subst (λ K. Grown N K (size (unary h t))) (sym (named_each_append l (line b M c (makes_term c (unary h t)) ∷ []) N))
    (head_once b N M c (unary h t) (size t) (le_refl (size (unary h t))) new (write_once b t N o)))
write_once b (binary h t u) N o =
    let l = write b N t in
    let M = named_each N l in
    let p = write_once b t N o in
    let m = write b M u in
    let K = named_each M m in
    let q = write_once b u M p.once in
    let c = plain (binary_code h) (number_of K t) (number_of K u) in
    let e = line b K c (makes_term c (binary h t u)) in
    unless_once N (l ++ (m ++ (e ∷ []))) (binary h t u) o (λ new.
    subst (λ X. Grown N X (size (binary h t u))) (sym (named_each_append l (m ++ (e ∷ [])) N ∙ named_each_append m (e ∷ []) M))
    (head_once b N K c (binary h t u) (size t + size u) (le_refl (size (binary h t u))) new
    (grown_further N M K (size t) (size t + size u) (omega arith) p (widened M K (size u) (size t + size u) (omega arith) q))))
  where
    widened : (M K : Names) (m n : ℕ) → m ≤ n → Grown M K m → Grown M K n
    widened M K m n le g = record { once = g.once; small = λ v e. elim (g.small v e) [ inl i ↦ inl i | inr j ↦ inr (le_trans j le) ] }

-- ---- the two files

write_each_once : (b : ℕ) (ts : List Tree) (N : Names) → Once N → Once (named_each N (write_each b N ts))
write_each_once b [] N o = o
write_each_once b (t ∷ ts) N o =
    let m = write b N t in
    subst Once (sym (named_each_append m (write_each b (named_each N m) ts) N)) (write_each_once b ts (named_each N m) (write_once b t N o).once)

facts_once : (b : ℕ) (fs : List StatedFact) (N : Names) → Once N → Once (named_each N (fact_lines b N fs))
facts_once b [] N o = o
facts_once b (f ∷ fs) N o =
    let M = at_fact b N f in
    let K = with_result M (fact f.formula) in
    subst Once (sym (named_each_append (fact_terms b N f) _ N)) (facts_once b fs K (once_other M K (fact f.formula) refl refl (write_each_once b (fact_operands f.fact) N o)))

symbols_once : (ss : List Symbol) (N : Names) → Once N → Once (named_each N (symbol_lines N ss))
symbols_once [] N o = o
symbols_once (y ∷ ss) N o = symbols_once ss (with_symbol N y) (once_other N (with_symbol N y) (symbol (length N.symbols)) refl refl o)

all_once : (r : Refutation) → Once (at_end r)
all_once r =
    let l = symbol_lines no_names r.symbols in
    let N0 = named_each no_names l in
    let o1 : Once (at_query r) = subst Once (sym (named_each_append l (write 0 N0 (formula_tree r.query)) no_names)) (write_once 0 (formula_tree r.query) N0 (symbols_once r.symbols no_names refl)).once in
    let o2 : Once (asked r) = once_other (at_query r) (asked r) nothing refl refl o1 in
    let o3 : Once (at_initial r) = (write_once (before r) (plan_tree r.plan) (asked r) o2).once in
    let o4 : Once (begun r) = once_other (at_initial r) (begun r) (fact r.initial) refl refl o3 in
    let o5 : Once (after_facts r) = facts_once (before r) r.facts (begun r) o4 in
    let o6 = (write_once (before r) (proof_tree (proof_written r)) (after_facts r) o5).once in
    subst Once (sym (named_each_append (fact_lines (before r) (begun r) r.facts) (write (before r) (after_facts r) (proof_tree (proof_written r))) (begun r))) o6

pub that_refutations_can_be_written_out : RefutationsCanBeWrittenOut
that_refutations_can_be_written_out A r is =
    let w = written A r is in
    record { written_out = w; terms_once = all_once r; accepted = λ L R fits. that_refutations_are_accepted A L R (write_out r) w fits }
