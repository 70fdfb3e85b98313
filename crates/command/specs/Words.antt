-- Every head is found by its code and by its word.
use Rattle.std.specs.Prelude.{◌≡◌, ℕ, Bool, true, ◌&&◌, List, [], ◌∷◌, Some, ◌==◌, refl}
use Rattle.std.proofs.Common.{sym, ap, ◌∙◌, inl, inr}
use Rattle.std.proofs.lemmas.Slice.Eq.{bytes_eq-Decides}
use Rattle.std.proofs.lemmas.Bool.{cases_Bool, eqb-true, and_parts}
use Rattle.std.specs.List.{find}
use Rattle.std.specs.Str.{bytes_eq}
use Rattle.command.specs.declared.head.Head.{Head}
use Rattle.command.specs.declared.head.Head.TheVariants.{Thing}
use Rattle.command.specs.Heads.{code, word, heads, coded, worded, Named}

-- each of these is found by its code
pub coded_code : (h : Head) → coded (code h) ≡ Some h
coded_code Thing = refl
coded_code h = refl

-- ---- what a test shows of all heads

abbrev pub every : (Head → Bool) → List Head → Bool
every test [] = true
every test (h ∷ hs) = test h && every test hs

-- what is found is among them, and it was looked for
found : (test chosen : Head → Bool) (hs : List Head) (h : Head) → every test hs ≡ true → find chosen hs ≡ Some h → (test h ≡ true) × (chosen h ≡ true)
found test chosen [] h all e = cc
found test chosen (g ∷ hs) h all e =
    let p = and_parts (test g) (every test hs) all in
    elim (cases_Bool (chosen g)) [
      | inl t ↦ let here = rw t at e in let same : g ≡ h = cc in (cc, cc)
      | inr f ↦ found test chosen hs h p.1 (rw f at e)
    ]

pub passes : (test : Head → Bool) → every test heads ≡ true → (h : Head) → test h ≡ true
passes test all h = (found test (λ g. code g == code h) heads h all (coded_code h)).0

-- ---- by code

pub coded_names : (n : ℕ) → Named code n (coded n)
coded_names n h = (λ (e : coded n ≡ Some h). eqb-true (code h) n (found (λ _. true) (λ g. code g == n) heads h refl e).1, λ (e : code h ≡ n). ap coded (sym e) ∙ coded_code h)

pub same_code : (g h : Head) → code g ≡ code h → g ≡ h
same_code g h e = let p : Some g ≡ Some h = sym (coded_code g) ∙ ap coded e ∙ coded_code h in cc

-- ---- by word

pub worded_word : (h : Head) → worded (word h) ≡ Some h
unfolding worded
worded_word Thing = refl
worded_word h = refl

pub worded_names : (w : List ℕ) → Named word w (worded w)
unfolding worded
worded_names w h = (λ (e : worded w ≡ Some h). (bytes_eq-Decides (word h) w).0 (found (λ _. true) (λ g. bytes_eq (word g) w) heads h refl e).1, λ (e : word h ≡ w). ap worded (sym e) ∙ worded_word h)

pub same_word : (g h : Head) → word g ≡ word h → g ≡ h
same_word g h e = let p : Some g ≡ Some h = sym (worded_word g) ∙ ap worded e ∙ worded_word h in cc
