-- A text line is parted at its blanks in one way.
use Rattle.std.specs.Prelude.{◌≡◌, ℕ, suc, ◌+◌, Bool, true, false, cond, not, List, [], ◌∷◌, ◌++◌, take, drop, Some, None, ◌==◌, refl}
use Rattle.std.proofs.Common.{sym, ap, ◌∙◌, arith}
use Rattle.std.specs.List.{position_or_len}
use Rattle.std.proofs.lemmas.List.{take-append-drop}
use Rattle.std.proofs.lemmas.Bool.{eqb-true, eqb-false}
use Rattle.command.specs.declared.head.Head.{Head}
use Rattle.command.specs.Heads.{word, worded}
use Rattle.command.specs.Fields.{Parted, Unblank, Parts, Field, Begins}
use Rattle.command.specs.FirstBytes.{word_lettered}
use Rattle.command.specs.Words.{worded_names}

-- how many bytes stand before the first blank
abbrev run : List ℕ → ℕ
run = position_or_len (λ b. b == 32)

parted_after_run : (l : List ℕ) → Parted (drop (run l) l)
parted_after_run [] = tt
parted_after_run (b ∷ bs) = step (b == 32) (eqb-true b 32) (parted_after_run bs)
  where
    step : (v : Bool) → (v ≡ true → b ≡ 32) → Parted (drop (run bs) bs) → Parted (drop (cond (not v) (1 + run bs) 0) (b ∷ bs))
    step true e rest = e refl
    step false e rest = let more : 1 + run bs ≡ suc (run bs) = omega arith in rw more rest

unblank_run : (l : List ℕ) → Unblank (take (run l) l)
unblank_run [] = tt
unblank_run (b ∷ bs) = step (b == 32) (eqb-false b 32) (unblank_run bs)
  where
    step : (v : Bool) → (v ≡ false → (b ≡ 32 → ⊥)) → Unblank (take (run bs) bs) → Unblank (take (cond (not v) (1 + run bs) 0) (b ∷ bs))
    step true e rest = tt
    step false e rest = let more : 1 + run bs ≡ suc (run bs) = omega arith in rw more (e refl, rest)

pub parts_at : (line : List ℕ) (n : ℕ) (first rest : List ℕ) → n ≡ run line → first ≡ take n line → rest ≡ drop n line → Parts line first rest
parts_at line n first rest here before after =
    rw before (rw after (rw here (sym (take-append-drop (run line) line), unblank_run line, parted_after_run line)))

-- a spelling with no blank, and then a blank or the end, is determined by what it stands in
pub split_same : (u v x y : List ℕ) → Unblank u → Unblank v → Parted x → Parted y → u ++ x ≡ v ++ y → (u ≡ v) × (x ≡ y)
split_same [] [] x y hu hv px py e = (refl, e)
split_same [] (c ∷ v) [] y hu hv px py e = cc
split_same [] (c ∷ v) (b ∷ x) y hu hv px py e = absurd (hv.0 (cc))
split_same (b ∷ u) [] x [] hu hv px py e = cc
split_same (b ∷ u) [] x (c ∷ y) hu hv px py e = absurd (hu.0 (cc))
split_same (b ∷ u) (c ∷ v) x y hu hv px py e =
    let s = split_same u v x y hu.1 hv.1 px py (cc) in
    (let t = s.0 in cc, s.1)

pub word_unblank : (h : Head) → Unblank (word h)
word_unblank h = (word_lettered h).1

-- ---- the first part is read, and what stands after it

module _ (line first rest : List ℕ) (parts : Parts line first rest) where
  pub begins_none : None ≡ worded first → Begins line None
  begins_none none h more p e =
      let s = split_same first (word h) rest more parts.1 (word_unblank h) parts.2 p (sym parts.0 ∙ e) in
      let found : None ≡ Some h = none ∙ (worded_names first h).1 (sym s.0) in
      cc

  module _ {X : Type 0} (write : X → List ℕ) (Fine : X → Type 0) (unblank_written : (x : X) → Fine x → Unblank (write x)) where
    pub field_none : (whole : List ℕ) → whole ≡ 32 ∷ line → ((x : X) → Fine x × (write x ≡ first) → ⊥) → Field write Fine whole None
    field_none whole blank none x more fine p e =
        none x (fine, sym (split_same first (write x) rest more parts.1 (unblank_written x fine) parts.2 p (sym parts.0 ∙ ap (drop 1) (sym blank ∙ e))).0)
