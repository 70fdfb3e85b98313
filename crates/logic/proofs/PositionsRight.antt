-- A proof concludes something exactly if each sub-proof does, and then no position is named.
use Rattle.std.proofs.Common.{◌≡◌, ℕ, suc, Bool, true, false, ◌&&◌, List, [], ◌∷◌, ◌++◌, map, sym, refl, ap, ◌∙◌, arith}
use mathlib.Core.Bool.{false≢true, and-true, and_assoc}
use mathlib.Core.Option.{Option, none, some}
use Rattle.std.proofs.lemmas.List.{map-append}
use Rattle.logic.specs.Syntax.{Formula, Proof, hyp, known, assume, eqrefl_thing, eqrefl_number, eqsub, inst, from, from_both}
use Rattle.logic.specs.Rules.{Concludes, ◌>>=◌, conclude}
use Rattle.logic.specs.Positions.{Sub, subproofs, concluded_by, conclusions, first_none, misfit_at}
use Rattle.logic.proofs.RulesAre.{concluded, conclude_gives}

abbrev is_some : Option Formula → Bool
is_some none = false
is_some (some φ) = true

abbrev pub all_some : List (Option Formula) → Bool
all_some [] = true
all_some (o ∷ l) = is_some o && all_some l

-- ---- lists

all_append : (l m : List (Option Formula)) → all_some (l ++ m) ≡ (all_some l && all_some m)
all_append [] m = refl
all_append (o ∷ l) m = ap (λ b. is_some o && b) (all_append l m) ∙ sym (and_assoc (is_some o) (all_some l) (all_some m))

-- ---- the position is 0 exactly if each is some

pub none_named : (n : ℕ) (l : List (Option Formula)) → all_some l ≡ true → first_none n l ≡ 0
none_named n [] h = refl
none_named n (none ∷ l) h = absurd (false≢true h)
none_named n (some φ ∷ l) h = none_named (suc n) l h

pub none_lacks : (n : ℕ) (l : List (Option Formula)) → first_none n l ≡ 0 → all_some l ≡ true
none_lacks n [] h = refl
none_lacks n (none ∷ l) h = absurd (let e : suc n ≡ 0 = h in omega arith)
none_lacks n (some φ ∷ l) h = none_lacks (suc n) l h

-- ---- options

some_after : (o : Option Formula) (f : Formula → Option Formula) → (is_some o && is_some (o >>= f)) ≡ is_some (o >>= f)
unfolding ◌>>=◌
some_after none f = refl
some_after (some x) f = refl

some_after_two : (o r : Option Formula) (f : Formula → Formula → Option Formula) → ((is_some o && is_some r) && is_some (o >>= λ x. r >>= f x)) ≡ is_some (o >>= λ x. r >>= f x)
unfolding ◌>>=◌
some_after_two none r f = refl
some_after_two (some x) none f = refl
some_after_two (some x) (some y) f = refl

-- ---- proofs

module _ (made : ℕ → Option Formula) where
  abbrev work : List Sub → Bool
  work l = all_some (map (concluded_by made) l)

  work_append : (l m : List Sub) → work (l ++ m) ≡ (work l && work m)
  work_append l m = ap all_some (map-append (concluded_by made) l m) ∙ all_append (map (concluded_by made) l) (map (concluded_by made) m)

  after : (l : List Sub) (o : Option Formula) (f : Formula → Option Formula) (s : Sub) → work l ≡ is_some o → concluded_by made s ≡ (o >>= f)
      → work (l ++ (s ∷ [])) ≡ is_some (concluded_by made s)
  after l o f s e w =
      work_append l (s ∷ []) ∙ ap (λ b. b && work (s ∷ [])) e ∙ ap (λ b. is_some o && b) (and-true _ ∙ ap is_some w) ∙ some_after o f ∙ ap is_some (sym w)

  after_two : (l m : List Sub) (o r : Option Formula) (f : Formula → Formula → Option Formula) (s : Sub) → work l ≡ is_some o → work m ≡ is_some r
      → concluded_by made s ≡ (o >>= λ x. r >>= f x) → work (l ++ m ++ (s ∷ [])) ≡ is_some (concluded_by made s)
  after_two l m o r f s e g w =
      work_append (l ++ m) (s ∷ [])
      ∙ ap (λ b. b && work (s ∷ [])) (work_append l m ∙ ap (λ b. b && work m) e ∙ ap (λ b. is_some o && b) g)
      ∙ ap (λ b. (is_some o && is_some r) && b) (and-true _ ∙ ap is_some w) ∙ some_after_two o r f ∙ ap is_some (sym w)

  pub proof_concludes : (H : List Formula) (P : Proof) → all_some (conclusions made H P) ≡ is_some (conclude made H P)
  proof_concludes H (hyp i) = and-true _
  proof_concludes H (known k) = and-true _
  proof_concludes H (assume φ P) = after (subproofs (φ ∷ H) P) _ _ _ (proof_concludes (φ ∷ H) P) refl
  proof_concludes H (Proof.absurd P φ) = after (subproofs H P) _ _ _ (proof_concludes H P) refl
  proof_concludes H (eqrefl_thing t) = refl
  proof_concludes H (eqrefl_number a) = refl
  proof_concludes H (eqsub P ψ) = after (subproofs H P) _ _ _ (proof_concludes H P) refl
  proof_concludes H (inst t P) = after (subproofs H P) _ _ _ (proof_concludes H P) refl
  proof_concludes H (from r P) = after (subproofs H P) _ _ _ (proof_concludes H P) refl
  proof_concludes H (from_both r P Q) = after_two (subproofs H P) (subproofs H Q) _ _ _ _ (proof_concludes H P) (proof_concludes H Q) refl

  -- ---- no position is named exactly if the proof conclude-gives something

  something : (o : Option Formula) → is_some o ≡ true → (φ : Formula) × (o ≡ some φ)
  something none h = absurd (false≢true h)
  something (some φ) h = (φ, refl)

  pub fits : (P : Proof) → misfit_at made P ≡ 0 → (φ : Formula) × Concludes made [] P φ
  fits P e =
      let s = something (conclude made [] P) (sym (proof_concludes [] P) ∙ none_lacks 0 (conclusions made [] P) e) in
      (s.0, concluded made [] P s.0 s.1)

  pub no_misfit : (P : Proof) (φ : Formula) → Concludes made [] P φ → misfit_at made P ≡ 0
  no_misfit P φ d = none_named 0 (conclusions made [] P) (proof_concludes [] P ∙ ap is_some (conclude_gives made d))
