-- Tests that each part of a term passes, and what those tests show of the whole term.
use Rattle.std.proofs.Common.{◌≡◌, ℕ, zero, suc, ◌<◌, Bool, true, false, eqb, List, [], ◌∷◌, ◌++◌, length, sym, refl, ◌∙◌, subst, inl, inr, arith}
use mathlib.Core.Bool.{false≢true}
use mathlib.Core.Option.{Option, none}
use lib.ListN.{get_elem?}
use Rattle.std.proofs.lemmas.Bool.{and_parts, and_from, or_cases, or_left, or_right, eqb-true}
use Rattle.logic.specs.Syntax.{Plan, Proof, OneSided, skip, skol, recnn, id, step, fork, hyp, known, assume, eqrefl_thing, eqrefl_number, eqsub, inst, from, from_both}
use Rattle.logic.specs.Tree.{Kind, Unary, Binary, Tree, leaf, unary, binary, applies, stands, literals_pass, parts, plan_tree, proof_tree, formula_tree, thing_tree, same_kind}
use Rattle.logic.specs.Arithmetic.{Arithmetic}
use Rattle.logic.specs.Plans.{symbols, member, own_symbol}
use Rattle.logic.specs.Closed.{closed_proof}
use Rattle.model.specs.State.{Symbol}
use Rattle.model.specs.Tests.{each, literal_admitted, closed_within}
use Rattle.model.specs.Writer.{is_there, is_of_kind, own_symbol_there}

-- ---- lists

module _ (test : Tree → Bool) where
  each_split : (l m : List Tree) → each test (l ++ m) ≡ true → (each test l ≡ true) × (each test m ≡ true)
  each_split [] m h = (refl, h)
  each_split (t ∷ l) m h =
      let p = and_parts (test t) (each test (l ++ m)) h in
      let q = each_split l m p.1 in
      (and_from _ _ p.0 q.0, q.1)

  each_joined : (l m : List Tree) → each test l ≡ true → each test m ≡ true → each test (l ++ m) ≡ true
  each_joined [] m h i = i
  each_joined (t ∷ l) m h i = let p = and_parts (test t) (each test l) h in and_from _ _ p.0 (each_joined l m p.1 i)

  -- ---- parts

  pub part_of_one : (h : Unary) (t : Tree) → each test (parts (unary h t)) ≡ true → (each test (parts t) ≡ true) × (test (unary h t) ≡ true)
  part_of_one h t e = let p = each_split (parts t) (unary h t ∷ []) e in (p.0, (and_parts (test (unary h t)) true p.1).0)

  pub parts_of_two : (h : Binary) (t u : Tree) → each test (parts (binary h t u)) ≡ true
      → (each test (parts t) ≡ true) × (each test (parts u) ≡ true) × (test (binary h t u) ≡ true)
  parts_of_two h t u e =
      let p = each_split (parts t ++ parts u) (binary h t u ∷ []) e in
      let q = each_split (parts t) (parts u) p.0 in
      (q.0, q.1, (and_parts (test (binary h t u)) true p.1).0)

  -- the term is one of its parts
  pub itself : (t : Tree) → each test (parts t) ≡ true → test t ≡ true
  itself (leaf x) e = (and_parts (test (leaf x)) true e).0
  itself (unary h t) e = (part_of_one h t e).1
  itself (binary h t u) e = (parts_of_two h t u e).2

  pub leaf_passes : (x : _) → test (leaf x) ≡ true → each test (parts (leaf x)) ≡ true
  leaf_passes x e = and_from _ _ e refl

  pub one_passes : (h : Unary) (t : Tree) → each test (parts t) ≡ true → test (unary h t) ≡ true → each test (parts (unary h t)) ≡ true
  one_passes h t e i = each_joined (parts t) (unary h t ∷ []) e (and_from _ _ i refl)

  pub two_pass : (h : Binary) (t u : Tree) → each test (parts t) ≡ true → each test (parts u) ≡ true → test (binary h t u) ≡ true → each test (parts (binary h t u)) ≡ true
  two_pass h t u e f i = each_joined (parts t ++ parts u) (binary h t u ∷ []) (each_joined (parts t) (parts u) e f) (and_from _ _ i refl)

-- a test that follows from another
pub each_so : (test test' : Tree → Bool) → ((t : Tree) → test t ≡ true → test' t ≡ true) → (l : List Tree) → each test l ≡ true → each test' l ≡ true
each_so test test' so [] h = refl
each_so test test' so (t ∷ l) h = let p = and_parts (test t) (each test l) h in and_from _ _ (so t p.0) (each_so test test' so l p.1)

-- ---- literals

pub literals_admitted : (A : Arithmetic) (t : Tree) → each (literal_admitted A) (parts t) ≡ true → literals_pass A.admits t ≡ true
literals_admitted A (leaf x) e = itself (literal_admitted A) (leaf x) e
literals_admitted A (unary h t) e = literals_admitted A t (part_of_one (literal_admitted A) h t e).0
literals_admitted A (binary h t u) e =
    let p = parts_of_two (literal_admitted A) h t u e in
    and_from _ _ (literals_admitted A t p.0) (literals_admitted A u p.1)

-- ---- what must be closed

pub proof_closed : (P : Proof) → each closed_within (parts (proof_tree P)) ≡ true → closed_proof P ≡ true
proof_closed (hyp i) e = refl
proof_closed (known k) e = refl
proof_closed (assume φ P) e = let p = parts_of_two closed_within Binary.assume (formula_tree φ) (proof_tree P) e in and_from _ _ p.2 (proof_closed P p.1)
proof_closed (Proof.absurd P φ) e = let p = parts_of_two closed_within Binary.absurd (proof_tree P) (formula_tree φ) e in and_from _ _ (proof_closed P p.0) p.2
proof_closed (eqrefl_thing t) e = itself closed_within (proof_tree (eqrefl_thing t)) e
proof_closed (eqrefl_number a) e = itself closed_within (proof_tree (eqrefl_number a)) e
proof_closed (eqsub P ψ) e = let p = parts_of_two closed_within Binary.eqsub (proof_tree P) (formula_tree ψ) e in and_from _ _ (proof_closed P p.0) p.2
proof_closed (inst t P) e = let p = parts_of_two closed_within Binary.inst (thing_tree t) (proof_tree P) e in and_from _ _ p.2 (proof_closed P p.1)
proof_closed (from r P) e = proof_closed P (part_of_one closed_within (Unary.from r) (proof_tree P) e).0
proof_closed (from_both r P Q) e =
    let p = parts_of_two closed_within (Binary.from_both r) (proof_tree P) (proof_tree Q) e in
    and_from _ _ (proof_closed P p.0) (proof_closed Q p.1)

-- ---- symbols

-- where a test passes that the lack of a symbol fails
there_within : (test : Option Symbol → Bool) → test none ≡ false → (ss : List Symbol) (s : ℕ) → test (get_elem? ss s) ≡ true → s < length ss
there_within test fails [] s e = absurd (false≢true (sym fails ∙ e))
there_within test fails (y ∷ ss) zero e = omega arith
there_within test fails (y ∷ ss) (suc s) e = let h = there_within test fails ss s e in omega arith

-- a symbol that a term applies is there
applied_within : (ss : List Symbol) (k : Kind) (s : ℕ) (h : Unary) (t : Tree) → own_symbol_there ss (unary h t) ≡ true → applies k s h ≡ true → s < length ss
applied_within ss k s (Unary.application j r) t e a =
    subst (λ x. x < length ss) (cc (eqb-true s r (and_parts (same_kind k j) (eqb s r) a).1)) (there_within (λ o. is_of_kind o j) refl ss r e)
applied_within ss k s Unary.minus t e a = absurd (false≢true a)
applied_within ss k s Unary.neg t e a = absurd (false≢true a)
applied_within ss k s Unary.forall t e a = absurd (false≢true a)
applied_within ss k s (Unary.step h) t e a = absurd (false≢true a)
applied_within ss k s Unary.eqrefl t e a = absurd (false≢true a)
applied_within ss k s (Unary.from r) t e a = absurd (false≢true a)

pub standing_within : (ss : List Symbol) (k : Kind) (s : ℕ) (t : Tree) → each (own_symbol_there ss) (parts t) ≡ true → stands k s t ≡ true → s < length ss
standing_within ss k s (leaf x) e i = absurd (false≢true i)
standing_within ss k s (unary h t) e i =
    let p = part_of_one (own_symbol_there ss) h t e in
    elim (or_cases (applies k s h) (stands k s t) i) [ inl a ↦ applied_within ss k s h t p.1 a | inr j ↦ standing_within ss k s t p.0 j ]
standing_within ss k s (binary h t u) e i =
    let p = parts_of_two (own_symbol_there ss) h t u e in
    elim (or_cases (stands k s t) (stands k s u) i) [ inl j ↦ standing_within ss k s t p.0 j | inr j ↦ standing_within ss k s u p.1 j ]

member_of : (s : ℕ) (l m : List ℕ) (X : Type 0) → (member s l ≡ true → X) → (member s m ≡ true → X) → member s (l ++ m) ≡ true → X
member_of s [] m X f g h = g h
member_of s (r ∷ l) m X f g h =
    elim (or_cases (eqb s r) (member s (l ++ m)) h) [
      | inl e ↦ f (or_left (eqb s r) (member s l) e)
      | inr e ↦ member_of s l m X (λ i. f (or_right (eqb s r) (member s l) i)) g e
    ]

own_within : (ss : List Symbol) (h : OneSided) (t : Tree) (s : ℕ) → own_symbol_there ss (unary (Unary.step h) t) ≡ true → member s (own_symbol h) ≡ true → s < length ss
own_within ss skip t s e m = absurd (false≢true m)
own_within ss (skol r) t s e m =
    elim (or_cases (eqb s r) false m) [ inl i ↦ subst (λ x. x < length ss) (cc (eqb-true s r i)) (there_within is_there refl ss r e) | inr i ↦ absurd (false≢true i) ]
own_within ss recnn t s e m = absurd (false≢true m)

-- the Skolem symbols of a plan are there
pub plan_symbols_within : (ss : List Symbol) (p : Plan) (s : ℕ) → each (own_symbol_there ss) (parts (plan_tree p)) ≡ true → member s (symbols p) ≡ true → s < length ss
plan_symbols_within ss id s e m = absurd (false≢true m)
plan_symbols_within ss (step h p) s e m =
    let q = part_of_one (own_symbol_there ss) (Unary.step h) (plan_tree p) e in
    member_of s (own_symbol h) (symbols p) (s < length ss) (own_within ss h (plan_tree p) s q.1) (plan_symbols_within ss p s q.0) m
plan_symbols_within ss (fork h p q) s e m =
    let r = parts_of_two (own_symbol_there ss) (Binary.fork h) (plan_tree p) (plan_tree q) e in
    member_of s (symbols p) (symbols q) (s < length ss) (plan_symbols_within ss p s r.0) (plan_symbols_within ss q s r.1) m
