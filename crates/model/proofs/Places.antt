-- Where results stand, and that lines only add results.
use Rattle.std.proofs.Common.{◌≡◌, ℕ, zero, suc, true, ◌||◌, List, [], ◌∷◌, ◌++◌, length, sym, refl, ap, ◌∙◌, subst, inl, inr}
use mathlib.Core.Bool.{false≢true}
use mathlib.Core.Option.{Option, none, some, none-ne-some}
use lib.ListN.{get_elem?}
use Rattle.std.proofs.lemmas.Bool.{cases_Bool, cond-true, cond-false}
use Rattle.logic.specs.Tree.{Tree}
use Rattle.logic.specs.Rules.{◌>>=◌}
use Rattle.logic.specs.Keeping.{has}
use Rattle.logic.proofs.Trees.{same_tree_true}
use Rattle.logic.proofs.RulesAre.{bound}
use Rattle.logic.proofs.Keepings.{has_front, has_last}
use Rattle.model.specs.State.{Result, symbol, term, fact, Names, result_at, the_tree, tree_at}
use Rattle.model.specs.Written.{Writes, writes_symbol, writes_term, writes_deduction, writes_fact, writes_let, Line, named, named_each}
use Rattle.model.specs.Writer.{is_tree, stands_in, place_in, number_of, tree_before, trees_in}
use Rattle.model.proofs.Names.{Adds}

pub bind_some : {X Y : Type 0} (o : Option X) (f : X → Option Y) (x : X) → o ≡ some x → (o >>= f) ≡ f x
unfolding ◌>>=◌
bind_some o f x e = ap (λ p. p >>= f) e

-- ---- the terms among the results

pub stands_is_has : (l : List Result) (t : Tree) → stands_in l t ≡ has (trees_in l) t
stands_is_has [] t = refl
stands_is_has (x ∷ l) t = ap (λ b. is_tree t (the_tree x) || b) (stands_is_has l t) ∙ one_more (the_tree x)
  where
    one_more : (o : Option Tree) → (is_tree t o || has (trees_in l) t) ≡ has (tree_before o (trees_in l)) t
    one_more none = refl
    one_more (some u) = refl

pub trees_last : (l : List Result) (x : Result) → trees_in (l ++ (x ∷ [])) ≡ trees_in l ++ tree_before (the_tree x) []
trees_last [] x = refl
trees_last (y ∷ l) x = ap (tree_before (the_tree y)) (trees_last l x) ∙ one_more (the_tree y)
  where
    one_more : (o : Option Tree) → tree_before o (trees_in l ++ tree_before (the_tree x) []) ≡ tree_before o (trees_in l) ++ tree_before (the_tree x) []
    one_more none = refl
    one_more (some u) = refl

-- ---- one result more

at_front : {X : Type 0} (l : List X) (x y : X) (i : ℕ) → get_elem? l i ≡ some y → get_elem? (l ++ (x ∷ [])) i ≡ some y
at_front [] x y i h = absurd (none-ne-some y h)
at_front (z ∷ l) x y zero h = h
at_front (z ∷ l) x y (suc i) h = at_front l x y i h

result_more : (N M : Names) (x : Result) → Adds N x M → (k : ℕ) (y : Result) → result_at N k ≡ some y → result_at M k ≡ some y
result_more N M x adds zero y h = absurd (none-ne-some y h)
result_more N M x adds (suc i) y h = ap (λ l. get_elem? l i) adds ∙ at_front N.results x y i h

stands_more : (l : List Result) (x : Result) (t : Tree) → stands_in l t ≡ true → stands_in (l ++ (x ∷ [])) t ≡ true
stands_more l x t h = stands_is_has (l ++ (x ∷ [])) t ∙ ap (λ k. has k t) (trees_last l x) ∙ has_front (trees_in l) (tree_before (the_tree x) []) t (sym (stands_is_has l t) ∙ h)

pub stands_last : (l : List Result) (t : Tree) → stands_in (l ++ (term t ∷ [])) t ≡ true
stands_last l t = stands_is_has (l ++ (term t ∷ [])) t ∙ ap (λ k. has k t) (trees_last l (term t)) ∙ has_last (trees_in l) t

-- ---- lines only add

pub named_adds : (N : Names) (x : Writes) → (y : Result) × Adds N y (named N x)
named_adds N (writes_symbol y) = (symbol (length N.symbols), refl)
named_adds N (writes_term t) = (term t, refl)
named_adds N (writes_deduction t) = (term t, refl)
named_adds N (writes_fact f φ) = (fact φ, refl)
named_adds N (writes_let P φ) = (fact φ, refl)

results_kept : (l : List Line) (N : Names) (k : ℕ) (y : Result) → result_at N k ≡ some y → result_at (named_each N l) k ≡ some y
results_kept [] N k y h = h
results_kept (e ∷ l) N k y h = let a = named_adds N e.writes in results_kept l (named N e.writes) k y (result_more N (named N e.writes) a.0 a.1 k y h)

-- what a view shows it goes on showing where the result is still named
view_still : {Y : Type 0} (view : Result → Option Y) (N M : Names) (k : ℕ) → ((x : Result) → result_at N k ≡ some x → result_at M k ≡ some x) → (y : Y) → (result_at N k >>= view) ≡ some y → (result_at M k >>= view) ≡ some y
view_still view N M k still y h =
    let b = bound (result_at N k) view y h in
    bind_some (result_at M k) view b.0 (still b.0 b.1) ∙ b.2

pub view_kept : {Y : Type 0} (view : Result → Option Y) (l : List Line) (N : Names) (k : ℕ) (y : Y) → (result_at N k >>= view) ≡ some y → (result_at (named_each N l) k >>= view) ≡ some y
view_kept view l N k = view_still view N (named_each N l) k (results_kept l N k)

pub view_more : {Y : Type 0} (view : Result → Option Y) (N M : Names) (x : Result) → Adds N x M → (k : ℕ) (y : Y) → (result_at N k >>= view) ≡ some y → (result_at M k >>= view) ≡ some y
view_more view N M x adds k = view_still view N M k (result_more N M x adds k)

pub stands_kept : (l : List Line) (N : Names) (t : Tree) → stands_in N.results t ≡ true → stands_in (named_each N l).results t ≡ true
stands_kept [] N t h = h
stands_kept (e ∷ l) N t h =
    let a = named_adds N e.writes in
    stands_kept l (named N e.writes) t (subst (λ k. stands_in k t ≡ true) (sym a.1) (stands_more N.results a.0 t h))

pub named_each_append : (l m : List Line) (N : Names) → named_each N (l ++ m) ≡ named_each (named_each N l) m
named_each_append [] m N = refl
named_each_append (e ∷ l) m N = named_each_append l m (named N e.writes)

-- ---- the number of a term that stands among the results

pub is_tree_true : (t : Tree) (o : Option Tree) → is_tree t o ≡ true → o ≡ some t
is_tree_true t none h = absurd (false≢true h)
is_tree_true t (some u) h = ap some (sym (same_tree_true t u h))

at_place : (l : List Result) (t : Tree) → stands_in l t ≡ true → (x : Result) × (get_elem? l (place_in l t) ≡ some x) × (the_tree x ≡ some t)
at_place [] t h = absurd (false≢true h)
at_place (x ∷ l) t h =
    elim (cases_Bool (is_tree t (the_tree x))) [
      | inl e ↦ (x, ap (get_elem? (x ∷ l)) (cond-true (is_tree t (the_tree x)) 0 (suc (place_in l t)) e), is_tree_true t (the_tree x) e)
      | inr f ↦
          let rest = at_place l t (ap (λ b. b || stands_in l t) (sym f) ∙ h) in
          (rest.0, ap (get_elem? (x ∷ l)) (cond-false (is_tree t (the_tree x)) 0 (suc (place_in l t)) f) ∙ rest.1, rest.2)
    ]

pub tree_there : (N : Names) (t : Tree) → stands_in N.results t ≡ true → tree_at N (number_of N t) ≡ some t
tree_there N t h =
    let p = at_place N.results t h in
    bind_some (result_at N (number_of N t)) the_tree p.0 p.1 ∙ p.2
