-- Terms and their trees: the maps are injective, substitution is the same on both, and what substitution does to size, nesting, open indices and symbols.
use Rattle.std.proofs.Common.{◌≡◌, ℕ, zero, suc, pred, ◌+◌, ◌≤◌, max, Bool, true, false, cond, ◌||◌, eqb, ltb, ℤ, sym, refl, ap, ◌∙◌, add-one, arith}
use mathlib.Core.Bool.{decide_iff}
use mathlib.Core.Option.{Option, none, some, some-injective}
use Rattle.std.proofs.lemmas.Bool.{cond_both, cond-true, cond-false, ltb-true, ltb-false, eqb-false, ne_eqb, or_parts, or_from, and_parts, and_from}
use Rattle.logic.specs.Syntax.{Thing, Things, Number, Formula, Plan, Proof, equal, at_most}
use Rattle.logic.specs.Substitution.{raise, raise_each, put_var, put_thing, put_things, put_number, put}
use Rattle.logic.specs.Tree.{Kind, Leaf, Unary, Tree, leaf, unary, binary, same_tree, thing_tree, things_tree, number_tree, formula_tree, plan_tree, proof_tree, size, binds, foralls, variable, above, open_indices, applies, stands, literal_passes, literals_pass}
use Rattle.logic.specs.Tree.{raise_leaf, raise_tree, under, raised_under, put_index, put_tree, put_late, put_size_at, put_size}
use Rattle.logic.specs.Rules.{◌>>=◌}
use Rattle.logic.specs.Plans.{scope}
use Rattle.logic.specs.Terms.{Term, of_thing, of_things, of_number, of_formula, of_plan, of_proof, term_tree, or_else, tree_term}

pub same_tree_true : (t u : Tree) → same_tree t u ≡ true → t ≡ u
same_tree_true t u = (decide_iff _).0

pub same_tree_refl : (t : Tree) → same_tree t t ≡ true
same_tree_refl t = (decide_iff _).1 refl

-- ---- the term is read back from its tree

mutual
  unfolding ◌>>=◌

  thing_back : (t : Thing) → tree_term (thing_tree t) ≡ some (of_thing t)
  thing_back (Thing.var i) = refl
  thing_back (Thing.apply s l) = rw (things_back l)

  things_back : (l : Things) → tree_term (things_tree l) ≡ some (of_things l)
  things_back Things.nil = refl
  things_back (Things.cons t l) = rw (thing_back t, things_back l)

number_back : (a : Number) → tree_term (number_tree a) ≡ some (of_number a)
unfolding ◌>>=◌
number_back (Number.lit n) = refl
number_back (Number.add a b) = rw (number_back a, number_back b)
number_back (Number.minus a) = rw (number_back a)
number_back (Number.measure s l) = rw (things_back l)

formula_back : (φ : Formula) → tree_term (formula_tree φ) ≡ some (of_formula φ)
unfolding ◌>>=◌ or_else
formula_back Formula.falsity = refl
formula_back (Formula.connect c φ ψ) = rw (formula_back φ, formula_back ψ)
formula_back (Formula.neg φ) = rw (formula_back φ)
formula_back (Formula.eq_things t u) = rw (thing_back t, thing_back u)
formula_back (Formula.relate equal a b) = rw (number_back a, number_back b)
formula_back (Formula.relate at_most a b) = rw (number_back a, number_back b)
formula_back (Formula.atom s l) = rw (things_back l)
formula_back (Formula.forall φ) = rw (formula_back φ)

plan_back : (p : Plan) → tree_term (plan_tree p) ≡ some (of_plan p)
unfolding ◌>>=◌
plan_back Plan.id = refl
plan_back (Plan.step h p) = rw (plan_back p)
plan_back (Plan.fork h p q) = rw (plan_back p, plan_back q)

proof_back : (P : Proof) → tree_term (proof_tree P) ≡ some (of_proof P)
unfolding ◌>>=◌ or_else
proof_back (Proof.hyp i) = refl
proof_back (Proof.known k) = refl
proof_back (Proof.assume φ P) = rw (formula_back φ, proof_back P)
proof_back (Proof.absurd P φ) = rw (proof_back P, formula_back φ)
proof_back (Proof.eqrefl_thing t) = rw (thing_back t)
proof_back (Proof.eqrefl_number a) = rw (number_back a)
proof_back (Proof.eqsub P ψ) = rw (proof_back P, formula_back ψ)
proof_back (Proof.inst t P) = rw (thing_back t, proof_back P)
proof_back (Proof.from r P) = rw (proof_back P)
proof_back (Proof.from_both r P Q) = rw (proof_back P, proof_back Q)

pub read_back : (t : Term) → tree_term (term_tree t) ≡ some t
read_back (of_thing t) = thing_back t
read_back (of_things l) = things_back l
read_back (of_number a) = number_back a
read_back (of_formula φ) = formula_back φ
read_back (of_plan p) = plan_back p
read_back (of_proof P) = proof_back P

pub tree_injective : (t u : Term) → term_tree t ≡ term_tree u → t ≡ u
tree_injective t u e = some-injective t u (sym (read_back t) ∙ ap tree_term e ∙ read_back u)

-- ---- raising

mutual
  pub raise_thing_tree : (t : Thing) → thing_tree (raise t) ≡ raise_tree 1 (thing_tree t)
  raise_thing_tree (Thing.var i) = ap (λ n. leaf (Leaf.var n)) (sym (add-one i))
  raise_thing_tree (Thing.apply s l) = cc (raise_things_tree l)

  pub raise_things_tree : (l : Things) → things_tree (raise_each l) ≡ raise_tree 1 (things_tree l)
  raise_things_tree Things.nil = refl
  raise_things_tree (Things.cons t l) = cc (raise_thing_tree t, raise_things_tree l)

raise_leaf_twice : (m n : ℕ) (x : Leaf) → raise_leaf m (raise_leaf n x) ≡ raise_leaf (n + m) x
raise_leaf_twice m n (Leaf.var i) = ap Leaf.var (omega arith)
raise_leaf_twice m n x = refl

pub raise_twice : (m n : ℕ) (t : Tree) → raise_tree m (raise_tree n t) ≡ raise_tree (n + m) t
raise_twice m n (leaf x) = ap leaf (raise_leaf_twice m n x)
raise_twice m n (unary h t) = cc (raise_twice m n t)
raise_twice m n (binary h t u) = cc (raise_twice m n t, raise_twice m n u)

raise_leaf_by_none : (x : Leaf) → raise_leaf 0 x ≡ x
raise_leaf_by_none (Leaf.var i) = ap Leaf.var (omega arith)
raise_leaf_by_none x = refl

pub raise_by_none : (t : Tree) → raise_tree 0 t ≡ t
raise_by_none (leaf x) = ap leaf (raise_leaf_by_none x)
raise_by_none (unary h t) = cc (raise_by_none t)
raise_by_none (binary h t u) = cc (raise_by_none t, raise_by_none u)

-- ---- substitution on terms is substitution on trees

put_var_tree : (k : ℕ) (t : Thing) (i : ℕ) → thing_tree (put_var k t i) ≡ put_tree k (thing_tree t) (leaf (Leaf.var i))
put_var_tree k t i = moved (ltb i k) (eqb i k)
  where
    moved : (x y : Bool) → thing_tree (cond x (Thing.var i) (cond y t (Thing.var (pred i)))) ≡ cond x (leaf (Leaf.var i)) (cond y (thing_tree t) (leaf (Leaf.var (pred i))))
    moved true y = refl
    moved false true = refl
    moved false false = refl

mutual
  pub put_thing_tree : (k : ℕ) (t u : Thing) → thing_tree (put_thing k t u) ≡ put_tree k (thing_tree t) (thing_tree u)
  put_thing_tree k t (Thing.var i) = put_var_tree k t i
  put_thing_tree k t (Thing.apply s l) = cc (put_things_tree k t l)

  put_things_tree : (k : ℕ) (t : Thing) (l : Things) → things_tree (put_things k t l) ≡ put_tree k (thing_tree t) (things_tree l)
  put_things_tree k t Things.nil = refl
  put_things_tree k t (Things.cons u l) = cc (put_thing_tree k t u, put_things_tree k t l)

put_number_tree : (k : ℕ) (t : Thing) (a : Number) → number_tree (put_number k t a) ≡ put_tree k (thing_tree t) (number_tree a)
put_number_tree k t (Number.lit n) = refl
put_number_tree k t (Number.add a b) = cc (put_number_tree k t a, put_number_tree k t b)
put_number_tree k t (Number.minus a) = cc (put_number_tree k t a)
put_number_tree k t (Number.measure s l) = cc (put_things_tree k t l)

pub put_formula_tree : (k : ℕ) (t : Thing) (φ : Formula) → formula_tree (put k t φ) ≡ put_tree k (thing_tree t) (formula_tree φ)
put_formula_tree k t Formula.falsity = refl
put_formula_tree k t (Formula.connect c φ ψ) = cc (put_formula_tree k t φ, put_formula_tree k t ψ)
put_formula_tree k t (Formula.neg φ) = cc (put_formula_tree k t φ)
put_formula_tree k t (Formula.eq_things u v) = cc (put_thing_tree k t u, put_thing_tree k t v)
put_formula_tree k t (Formula.relate r a b) = cc (put_number_tree k t a, put_number_tree k t b)
put_formula_tree k t (Formula.atom s l) = cc (put_things_tree k t l)
put_formula_tree k t (Formula.forall φ) = ap (unary Unary.forall) (put_formula_tree (suc k) (raise t) φ ∙ ap (λ x. put_tree (suc k) x (formula_tree φ)) (raise_thing_tree t))

-- ---- raising late is raising under each binder

raise_under : (b : Bool) (d : ℕ) (t : Tree) → raise_tree (cond b (suc d) d) t ≡ cond b (raise_tree 1 (raise_tree d t)) (raise_tree d t)
raise_under true d t = sym (raise_twice 1 d t ∙ ap (λ n. raise_tree n t) (add-one d))
raise_under false d t = refl

pub put_late_is : (d : ℕ) (t u : Tree) → put_late d t u ≡ put_tree d (raise_tree d t) u
put_late_is d t (leaf x) = refl
put_late_is d t (unary h u) = ap (unary h) (put_late_is (under h d) t u ∙ ap (λ x. put_tree (under h d) x u) (raise_under (binds h) d t))
put_late_is d t (binary h u v) = cc (put_late_is d t u, put_late_is d t v)

pub late_instance : (t : Thing) (φ : Formula) → put_late 0 (thing_tree t) (formula_tree φ) ≡ formula_tree (put 0 t φ)
late_instance t φ = put_late_is 0 (thing_tree t) (formula_tree φ) ∙ ap (λ x. put_tree 0 x (formula_tree φ)) (raise_by_none (thing_tree t)) ∙ sym (put_formula_tree 0 t φ)

-- ---- size

pub raise_size : (n : ℕ) (t : Tree) → size (raise_tree n t) ≡ size t
raise_size n (leaf x) = refl
raise_size n (unary h t) = cc (raise_size n t)
raise_size n (binary h t u) = cc (raise_size n t, raise_size n u)

raised_size : (b : Bool) (t : Tree) → size (cond b (raise_tree 1 t) t) ≡ size t
raised_size true t = raise_size 1 t
raised_size false t = refl

put_index_size : (k : ℕ) (t : Tree) (x : Leaf) (o : Option ℕ) → size (put_index k t x o) ≡ put_size_at k (size t) o
put_index_size k t x none = refl
put_index_size k t x (some i) =
    cond_both (ltb i k) (leaf x) _ (λ u. size u ≡ cond (eqb i k) (size t) 1)
    (λ e. sym (cond-false (eqb i k) (size t) 1 (ne_eqb i k (omega (arith, ltb-true i k e)))))
    (λ _. cond_both (eqb i k) t (leaf (Leaf.var (pred i))) (λ u. size u ≡ cond (eqb i k) (size t) 1)
    (λ f. sym (cond-true (eqb i k) (size t) 1 f))
    (λ f. sym (cond-false (eqb i k) (size t) 1 f)))

pub put_tree_size : (k : ℕ) (t u : Tree) → size (put_tree k t u) ≡ put_size k (size t) u
put_tree_size k t (leaf x) = put_index_size k t x (variable x)
put_tree_size k t (unary h u) = ap suc (put_tree_size (under h k) (raised_under h t) u ∙ ap (λ n. put_size (under h k) n u) (raised_size (binds h) t))
put_tree_size k t (binary h u v) = cc (put_tree_size k t u, put_tree_size k t v)

pub scope_size : (n : ℕ) → size (things_tree (scope n)) ≡ suc (n + n)
scope_size zero = refl
scope_size (suc n) =
    let e : size (things_tree (raise_each (scope n))) ≡ suc (n + n) = ap size (raise_things_tree (scope n)) ∙ raise_size 1 (things_tree (scope n)) ∙ scope_size n in
    ap (λ m. suc (1 + m)) e ∙ omega arith

-- ---- nesting

mutual
  pub thing_foralls : (t : Thing) → foralls (thing_tree t) ≡ 0
  thing_foralls (Thing.var i) = refl
  thing_foralls (Thing.apply s l) = things_foralls l

  things_foralls : (l : Things) → foralls (things_tree l) ≡ 0
  things_foralls Things.nil = refl
  things_foralls (Things.cons t l) = omega (arith, thing_foralls t, things_foralls l)

raise_foralls : (n : ℕ) (t : Tree) → foralls (raise_tree n t) ≡ foralls t
raise_foralls n (leaf x) = refl
raise_foralls n (unary h t) = ap (λ m. cond (binds h) (suc m) m) (raise_foralls n t)
raise_foralls n (binary h t u) = cc (raise_foralls n t, raise_foralls n u)

raised_foralls : (b : Bool) (t : Tree) → foralls (cond b (raise_tree 1 t) t) ≡ foralls t
raised_foralls true t = raise_foralls 1 t
raised_foralls false t = refl

put_index_foralls : (k : ℕ) (t : Tree) (x : Leaf) (o : Option ℕ) → foralls t ≡ 0 → foralls (put_index k t x o) ≡ 0
put_index_foralls k t x none h = refl
put_index_foralls k t x (some i) h =
    cond_both (ltb i k) (leaf x) _ (λ u. foralls u ≡ 0) (λ _. refl) (λ _. cond_both (eqb i k) t (leaf (Leaf.var (pred i))) (λ u. foralls u ≡ 0) (λ _. h) (λ _. refl))

pub put_tree_foralls : (k : ℕ) (t u : Tree) → foralls t ≡ 0 → foralls (put_tree k t u) ≡ foralls u
put_tree_foralls k t (leaf x) e = put_index_foralls k t x (variable x) e
put_tree_foralls k t (unary h u) e = ap (λ m. cond (binds h) (suc m) m) (put_tree_foralls (under h k) (raised_under h t) u (raised_foralls (binds h) t ∙ e))
put_tree_foralls k t (binary h u v) e = cc (put_tree_foralls k t u e, put_tree_foralls k t v e)

-- ---- open indices

raise_leaf_open : (n : ℕ) (x : Leaf) → above (variable (raise_leaf n x)) ≤ above (variable x) + n
raise_leaf_open n (Leaf.var i) = omega arith
raise_leaf_open n x = omega arith

-- bounds of open indices, outside and under a head
pub pred_le : (m n : ℕ) → m ≤ suc n → pred m ≤ n
pred_le m n h = omega arith

pub le_pred : (m n : ℕ) → pred m ≤ n → m ≤ suc n
le_pred m n h = omega arith

pub max_parts : (k m n : ℕ) → max k m ≤ n → (k ≤ n) × (m ≤ n)
max_parts k m n h = (omega arith, omega arith)

pred_plus : (m k n : ℕ) → m ≤ k + n → pred m ≤ pred k + n
pred_plus m k n h = omega arith

under_open : (b : Bool) (m n : ℕ) → m ≤ cond b (suc n) n → cond b (pred m) m ≤ n
under_open true m n h = pred_le m n h
under_open false m n h = h

over_open : (b : Bool) (m n : ℕ) → cond b (pred m) m ≤ n → m ≤ cond b (suc n) n
over_open true m n h = le_pred m n h
over_open false m n h = h

less_one : (b : Bool) (m k n : ℕ) → m ≤ k + n → cond b (pred m) m ≤ cond b (pred k) k + n
less_one true m k n h = pred_plus m k n h
less_one false m k n h = h

pub raise_open : (n : ℕ) (t : Tree) → open_indices (raise_tree n t) ≤ open_indices t + n
raise_open n (leaf x) = raise_leaf_open n x
raise_open n (unary h t) = less_one (binds h) _ (open_indices t) n (raise_open n t)
raise_open n (binary h t u) = omega (arith, raise_open n t, raise_open n u)

raised_open : (b : Bool) (n : ℕ) (t : Tree) → open_indices t ≤ n → open_indices (cond b (raise_tree 1 t) t) ≤ cond b (suc n) n
raised_open true n t h = omega (arith, raise_open 1 t)
raised_open false n t h = h

under_le : (b : Bool) (k n : ℕ) → k ≤ n → cond b (suc k) k ≤ cond b (suc n) n
under_le true k n h = omega arith
under_le false k n h = h

under_suc : (b : Bool) (m n : ℕ) → m ≤ cond b (suc (suc n)) (suc n) → m ≤ suc (cond b (suc n) n)
under_suc true m n h = h
under_suc false m n h = h

leaf_closed : (n : ℕ) (x : Leaf) → variable x ≡ none → open_indices (leaf x) ≤ n
leaf_closed n x e = rw e (omega arith)

leaf_at : (n i : ℕ) (x : Leaf) → variable x ≡ some i → suc i ≤ n → open_indices (leaf x) ≤ n
leaf_at n i x e h = rw e h

put_index_open : (k n : ℕ) (t : Tree) (x : Leaf) (o : Option ℕ) → variable x ≡ o → k ≤ n → open_indices t ≤ n → above o ≤ suc n → open_indices (put_index k t x o) ≤ n
put_index_open k n t x none e le ht h = leaf_closed n x e
put_index_open k n t x (some i) e le ht h =
    cond_both (ltb i k) (leaf x) _ (λ u. open_indices u ≤ n) (λ f. leaf_at n i x e (omega (arith, ltb-true i k f)))
    (λ f. cond_both (eqb i k) t (leaf (Leaf.var (pred i))) (λ u. open_indices u ≤ n) (λ _. ht) (λ g. omega (arith, ltb-false i k f, eqb-false i k g)))

pub put_tree_open : (k n : ℕ) (t u : Tree) → k ≤ n → open_indices t ≤ n → open_indices u ≤ suc n → open_indices (put_tree k t u) ≤ n
put_tree_open k n t (leaf x) le ht h = put_index_open k n t x (variable x) refl le ht h
put_tree_open k n t (unary h u) le ht o =
    under_open (binds h) _ n (put_tree_open (under h k) (under h n) (raised_under h t) u (under_le (binds h) k n le) (raised_open (binds h) n t ht) (under_suc (binds h) _ n (over_open (binds h) _ (suc n) o)))
put_tree_open k n t (binary h u v) le ht o = omega (arith, put_tree_open k n t u le ht (omega arith), put_tree_open k n t v le ht (omega arith))

-- ---- symbols and literals

module _ (k : Kind) (s : ℕ) where
  pub raise_stands : (n : ℕ) (t : Tree) → stands k s (raise_tree n t) ≡ stands k s t
  raise_stands n (leaf x) = refl
  raise_stands n (unary h t) = ap (λ b. applies k s h || b) (raise_stands n t)
  raise_stands n (binary h t u) = cc (raise_stands n t, raise_stands n u)

  raised_stands : (b : Bool) (t : Tree) → stands k s (cond b (raise_tree 1 t) t) ≡ stands k s t
  raised_stands true t = raise_stands 1 t
  raised_stands false t = refl

  put_index_stands : (j : ℕ) (t : Tree) (x : Leaf) (o : Option ℕ) → stands k s t ≡ false → stands k s (put_index j t x o) ≡ false
  put_index_stands j t x none e = refl
  put_index_stands j t x (some i) e =
      cond_both (ltb i j) (leaf x) _ (λ u. stands k s u ≡ false) (λ _. refl) (λ _. cond_both (eqb i j) t (leaf (Leaf.var (pred i))) (λ u. stands k s u ≡ false) (λ _. e) (λ _. refl))

  pub put_tree_stands : (j : ℕ) (t u : Tree) → stands k s t ≡ false → stands k s u ≡ false → stands k s (put_tree j t u) ≡ false
  put_tree_stands j t (leaf x) e f = put_index_stands j t x (variable x) e
  put_tree_stands j t (unary h u) e f =
      let p = or_parts (applies k s h) (stands k s u) f in
      or_from _ _ p.0 (put_tree_stands (under h j) (raised_under h t) u (raised_stands (binds h) t ∙ e) p.1)
  put_tree_stands j t (binary h u v) e f =
      let p = or_parts (stands k s u) (stands k s v) f in
      or_from _ _ (put_tree_stands j t u e p.0) (put_tree_stands j t v e p.1)

module _ (test : ℤ → Bool) where
  raise_leaf_literals : (n : ℕ) (x : Leaf) → literal_passes test (raise_leaf n x) ≡ literal_passes test x
  raise_leaf_literals n (Leaf.var i) = refl
  raise_leaf_literals n x = refl

  raise_literals : (n : ℕ) (t : Tree) → literals_pass test (raise_tree n t) ≡ literals_pass test t
  raise_literals n (leaf x) = raise_leaf_literals n x
  raise_literals n (unary h t) = raise_literals n t
  raise_literals n (binary h t u) = cc (raise_literals n t, raise_literals n u)

  raised_literals : (b : Bool) (t : Tree) → literals_pass test (cond b (raise_tree 1 t) t) ≡ literals_pass test t
  raised_literals true t = raise_literals 1 t
  raised_literals false t = refl

  put_index_literals : (k : ℕ) (t : Tree) (x : Leaf) (o : Option ℕ) → literals_pass test t ≡ true → literal_passes test x ≡ true → literals_pass test (put_index k t x o) ≡ true
  put_index_literals k t x none e f = f
  put_index_literals k t x (some i) e f =
      cond_both (ltb i k) (leaf x) _ (λ u. literals_pass test u ≡ true) (λ _. f)
      (λ _. cond_both (eqb i k) t (leaf (Leaf.var (pred i))) (λ u. literals_pass test u ≡ true) (λ _. e) (λ _. refl))

  pub put_tree_literals : (k : ℕ) (t u : Tree) → literals_pass test t ≡ true → literals_pass test u ≡ true → literals_pass test (put_tree k t u) ≡ true
  put_tree_literals k t (leaf x) e f = put_index_literals k t x (variable x) e f
  put_tree_literals k t (unary h u) e f = put_tree_literals (under h k) (raised_under h t) u (raised_literals (binds h) t ∙ e) f
  put_tree_literals k t (binary h u v) e f =
      let p = and_parts (literals_pass test u) (literals_pass test v) f in
      and_from _ _ (put_tree_literals k t u e p.0) (put_tree_literals k t v e p.1)
