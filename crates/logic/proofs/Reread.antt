-- What a term means depends only on the symbols that stand in it; which symbols stand in what a substitution or a plan yields.
use Rattle.std.proofs.Common.{◌≡◌, ℕ, zero, suc, ◌≤◌, Bool, true, false, ◌||◌, eqb, List, [], ◌∷◌, ◌++◌, length, sym, refl, ap, ◌∙◌}
use mathlib.Core.Bool.{or_assoc}
use mathlib.Core.Option.{Option}
use Rattle.std.proofs.lemmas.Bool.{or_left, or_right, or_parts, or_from, eq-eqb}
use Rattle.logic.specs.Syntax.{Thing, Things, Number, Formula, Plan, var, apply, nil, cons, lit, add, minus, measure, falsity, connect, neg, eq_things, relate, atom, forall}
use Rattle.logic.specs.Substitution.{raise, raise_each, put}
use Rattle.logic.specs.Tree.{Kind, thing_tree, things_tree, number_tree, formula_tree, stands}
use Rattle.logic.specs.Arithmetic.{Arithmetic}
use Rattle.logic.specs.World.{World, value, values, amount, truth, reread}
use Rattle.logic.specs.Plans.{Turns, scope, symbols, member}
use Rattle.logic.specs.Plans.{by_id, by_skip, by_skol, by_recand, by_recor, by_recnor, by_recnand, by_recnn}
use Rattle.logic.proofs.Values.{every_same, raised_each}
use Rattle.logic.proofs.Trees.{put_formula_tree, put_tree_stands}

-- the thing symbol s stands in the thing, the list, the number term, the formula
abbrev pub in_thing : ℕ → Thing → Bool
in_thing s t = stands Kind.thing s (thing_tree t)

abbrev pub in_things : ℕ → Things → Bool
in_things s l = stands Kind.thing s (things_tree l)

abbrev pub in_number : ℕ → Number → Bool
in_number s a = stands Kind.thing s (number_tree a)

abbrev pub in_formula : ℕ → Formula → Bool
in_formula s φ = stands Kind.thing s (formula_tree φ)

-- ---- the variables of a scope

pub scope_values : {A : Arithmetic} (W : World A) (ρ : List ℕ) → values W ρ (scope (length ρ)) ≡ ρ
scope_values W [] = refl
scope_values W (x ∷ ρ) = ap {B = List ℕ} (λ l. x ∷ l) (raised_each W x ρ (scope (length ρ)) ∙ scope_values W ρ)

-- ---- a table that agrees on the symbols of a term

module _ {A : Arithmetic} (W : World A) (table : ℕ → List ℕ → ℕ) (within : (s : ℕ) (l : List ℕ) → table s l ≤ W.last) where
  abbrev pub Agrees : (ℕ → Bool) → Type 0
  Agrees on = (s : ℕ) → on s ≡ true → (l : List ℕ) → table s l ≡ W.thing s l

  mutual
    same_value : (ρ : List ℕ) (t : Thing) → Agrees (λ s. in_thing s t) → value (reread W table within) ρ t ≡ value W ρ t
    same_value ρ (var i) agrees = refl
    same_value ρ (apply s l) agrees =
        ap (table s) (same_values ρ l (λ r h. agrees r (or_right _ _ h))) ∙ agrees s (or_left _ _ (eq-eqb s s refl)) _

    same_values : (ρ : List ℕ) (l : Things) → Agrees (λ s. in_things s l) → values (reread W table within) ρ l ≡ values W ρ l
    same_values ρ nil agrees = refl
    same_values ρ (cons t l) agrees = cc (same_value ρ t (λ s h. agrees s (or_left _ _ h)), same_values ρ l (λ s h. agrees s (or_right _ _ h)))

  same_amount : (ρ : List ℕ) (a : Number) → Agrees (λ s. in_number s a) → amount (reread W table within) ρ a ≡ amount W ρ a
  same_amount ρ (lit n) agrees = refl
  same_amount ρ (add a b) agrees = cc (same_amount ρ a (λ s h. agrees s (or_left _ _ h)), same_amount ρ b (λ s h. agrees s (or_right _ _ h)))
  same_amount ρ (minus a) agrees = cc (same_amount ρ a agrees)
  same_amount ρ (measure s l) agrees = ap (W.number s) (same_values ρ l agrees)

  pub same_truth : (ρ : List ℕ) (φ : Formula) → Agrees (λ s. in_formula s φ) → truth (reread W table within) ρ φ ≡ truth W ρ φ
  same_truth ρ falsity agrees = refl
  same_truth ρ (connect c φ ψ) agrees = cc (same_truth ρ φ (λ s h. agrees s (or_left _ _ h)), same_truth ρ ψ (λ s h. agrees s (or_right _ _ h)))
  same_truth ρ (neg φ) agrees = cc (same_truth ρ φ agrees)
  same_truth ρ (eq_things t u) agrees = cc (same_value ρ t (λ s h. agrees s (or_left _ _ h)), same_value ρ u (λ s h. agrees s (or_right _ _ h)))
  same_truth ρ (relate r a b) agrees = cc (same_amount ρ a (λ s h. agrees s (or_left _ _ h)), same_amount ρ b (λ s h. agrees s (or_right _ _ h)))
  same_truth ρ (atom s l) agrees = ap (W.predicate s) (same_values ρ l agrees)
  same_truth ρ (forall φ) agrees = every_same W.last _ _ (λ x. same_truth (x ∷ ρ) φ agrees)

-- ---- where a symbol does not stand

module _ (s : ℕ) where
  mutual
    in_raised : (t : Thing) → in_thing s (raise t) ≡ in_thing s t
    in_raised (var i) = refl
    in_raised (apply r l) = ap (λ b. eqb s r || b) (in_raised_each l)

    in_raised_each : (l : Things) → in_things s (raise_each l) ≡ in_things s l
    in_raised_each nil = refl
    in_raised_each (cons t l) = cc (in_raised t, in_raised_each l)

  pub in_scope : (n : ℕ) → in_things s (scope n) ≡ false
  in_scope zero = refl
  in_scope (suc n) = in_raised_each (scope n) ∙ in_scope n

  pub put_in : (k : ℕ) (t : Thing) (φ : Formula) → in_thing s t ≡ false → in_formula s φ ≡ false → in_formula s (put k t φ) ≡ false
  put_in k t φ ht h = ap (stands Kind.thing s) (put_formula_tree k t φ) ∙ put_tree_stands Kind.thing s k (thing_tree t) (formula_tree φ) ht h

  -- ---- a plan brings in no symbol but its own

  pub member_append : (l m : List ℕ) → member s (l ++ m) ≡ member s l || member s m
  member_append [] m = refl
  member_append (r ∷ l) m = ap (λ b. eqb s r || b) (member_append l m) ∙ sym (or_assoc (eqb s r) (member s l) (member s m))

  pub no_member : (l m : List ℕ) → member s (l ++ m) ≡ false → (member s l ≡ false) × (member s m ≡ false)
  no_member l m h = or_parts (member s l) (member s m) (sym (member_append l m) ∙ h)

  both_sides : (l m : List ℕ) (x y x' y' : Bool) → (member s l ≡ false → x ≡ false → x' ≡ false) → (member s m ≡ false → y ≡ false → y' ≡ false)
      → member s (l ++ m) ≡ false → (x || y) ≡ false → (x' || y') ≡ false
  both_sides l m x y x' y' f g hm h =
      let n = no_member l m hm in
      let p = or_parts x y h in
      or_from x' y' (f n.0 p.0) (g n.1 p.1)

  pub turned_in : {arity : ℕ → Option ℕ} {n : ℕ} {p : Plan} {φ ψ : Formula} → Turns arity n p φ ψ → member s (symbols p) ≡ false → in_formula s φ ≡ false → in_formula s ψ ≡ false
  turned_in by_id hp h = h
  turned_in (by_skip d) hp h = turned_in d hp h
  turned_in (by_skol {n} {s = r} {p} {φ} e d) hp h =
      let q = or_parts (eqb s r) (member s (symbols p)) hp in
      turned_in d q.1 (put_in 0 (apply r (scope n)) φ (or_from _ _ q.0 (in_scope n)) h)
  turned_in (by_recand {p} {q} {φ} {ψ} {φ'} {ψ'} d e) hp h = both_sides (symbols p) (symbols q) (in_formula s φ) (in_formula s ψ) (in_formula s φ') (in_formula s ψ') (turned_in d) (turned_in e) hp h
  turned_in (by_recor {p} {q} {φ} {ψ} {φ'} {ψ'} d e) hp h = both_sides (symbols p) (symbols q) (in_formula s φ) (in_formula s ψ) (in_formula s φ') (in_formula s ψ') (turned_in d) (turned_in e) hp h
  turned_in (by_recnor {p} {q} {φ} {ψ} {φ'} {ψ'} d e) hp h = both_sides (symbols p) (symbols q) (in_formula s φ) (in_formula s ψ) (in_formula s φ') (in_formula s ψ') (turned_in d) (turned_in e) hp h
  turned_in (by_recnand {p} {q} {φ} {ψ} {φ'} {ψ'} d e) hp h = both_sides (symbols p) (symbols q) (in_formula s φ) (in_formula s ψ) (in_formula s φ') (in_formula s ψ') (turned_in d) (turned_in e) hp h
  turned_in (by_recnn d) hp h = turned_in d hp h
