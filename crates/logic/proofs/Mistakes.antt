-- The three ways to believe too much are wrong.
use Rattle.std.proofs.Common.{◌≡◌, ℕ, ◌≤◌, Bool, true, false, not, ◌&&◌, eqb, [], ◌∷◌, refl, inl, inr, zero-le, arith}
use native.Mathlib.Decide.{ℕ_discrete}
use mathlib.Core.Bool.{decide, false≢true}
use Rattle.std.proofs.lemmas.Bool.{cases_Bool, eqb-true, or_cases}
use Rattle.logic.specs.Integers.{int_discrete}
use Rattle.logic.specs.World.{every}
use Rattle.logic.specs.Rules.{◌>>=◌, when}
use Rattle.logic.specs.Plans.{if_fits, member, symbols}
use Rattle.logic.proofs.Connectives.{every_at}
use Rattle.logic.specs.Mistakes.{BoundsOverCountsDoNotAdd, UnraisedSubstitutionIsWrong, SharedSkolemSymbolIsWrong, shared}

pub that_bounds_over_counts_do_not_add : BoundsOverCountsDoNotAdd
that_bounds_over_counts_do_not_add = record { literals = refl; bound_holds = refl; other_holds = refl; sum_fails = refl; not_stated = refl; pair_fails = refl }

-- of two things, no g of one is both
not_both_things : (n : ℕ) (g : ℕ → ℕ) → n ≡ 1 → every n (λ x. every n (λ z. eqb (g z) x)) ≡ false
not_both_things n g e =
    elim (cases_Bool (every n (λ x. every n (λ z. eqb (g z) x)))) [
      | inr no_such ↦ no_such
      | inl all ↦
          let is : (x : ℕ) → x ≤ n → g 0 ≡ x = λ x le. eqb-true (g 0) x (every_at n (λ z. eqb (g z) x) (every_at n (λ x. every n (λ z. eqb (g z) x)) all x le) 0 zero-le) in
          let is_0 = is 0 zero-le in
          let is_1 = is 1 (omega arith) in
          absurd (omega arith)
    ]

pub that_unraised_substitution_is_wrong : UnraisedSubstitutionIsWrong
unfolding decide ℕ_discrete int_discrete ◌>>=◌ when if_fits
that_unraised_substitution_is_wrong = record {
  says_true = refl;
  is_false = refl;
  raised = refl;
  captured = refl;
  query_holds = refl;
  turned = refl;
  captured_fails = λ A V e. not_both_things V.last (λ z. V.thing 1 (z ∷ [])) e;
}

contradiction : (x : Bool) → (not x && not (not x)) ≡ false
contradiction true = refl
contradiction false = refl

only_one : (s : ℕ) → member s (symbols shared) ≡ true → s ≡ 1
only_one s h = elim (or_cases (eqb s 1) _ h) [
  | inl first ↦ eqb-true s 1 first
  | inr later ↦ elim (or_cases (eqb s 1) false later) [ inl second ↦ eqb-true s 1 second | inr none_left ↦ absurd (false≢true none_left) ]
]

pub that_shared_Skolem_symbol_is_wrong : SharedSkolemSymbolIsWrong
unfolding decide ℕ_discrete int_discrete ◌>>=◌ when if_fits
that_shared_Skolem_symbol_is_wrong = record {
  only_one = only_one;
  new = refl;
  query_holds = refl;
  turned = refl;
  result_fails = λ A V. contradiction _;
  twice = refl;
}
