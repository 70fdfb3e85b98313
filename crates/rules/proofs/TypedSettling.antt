-- Conclusions settled one after the other, on formulas and on trees.
use Rattle.std.proofs.Common.{◌≡◌, ℕ, suc, ◌+◌, Bool, true, false, leb, List, [], ◌∷◌, ◌++◌, length, sym, refl, ap, ◌∙◌, ap₂, append_assoc, add-one, arith, length-append}
use mathlib.Core.Option.{Option, none, some, map}
use Rattle.logic.specs.Syntax.{Formula}
use Rattle.logic.specs.Tree.{Tree, formula_tree, parts}
use Rattle.logic.specs.Rules as rules
use Rattle.logic.specs.Keeping.{keep_each}
use Rattle.logic.proofs.PositionsRight.{all_some}
use Rattle.model.specs.Refusal.{oversized, crowded, unfounded, Outcome, done, refused, ◌>>=◌, ◌>>◌, require_at, need}
use Rattle.model.specs.Limits.{limits, Room, within}
use Rattle.model.specs.Session.{settle}
use Rattle.model.proofs.Settling as settling
use Rattle.rules.specs.Walk.{Found, settled}
use Rattle.rules.specs.Typed.{settled_to}
use Rattle.rules.proofs.TypedLimits.{small_is_within}

-- ---- outcomes

pub then_then : {X Y Z : Type 0} (m : Outcome X) (f : X → Outcome Y) (g : Y → Outcome Z) → ((m >>= f) >>= g) ≡ (m >>= λ x. f x >>= g)
then_then (done x) f g = refl
then_then (refused r at) f g = refl

pub then_alike : {X Y : Type 0} (m : Outcome X) (f g : X → Outcome Y) → ((x : X) → f x ≡ g x) → (m >>= f) ≡ (m >>= g)
then_alike (done x) f g e = e x
then_alike (refused r at) f g e = refl

pub then_alike_if_done : {X Y : Type 0} (m : Outcome X) (f g : X → Outcome Y) → ((x : X) → m ≡ done x → f x ≡ g x) → (m >>= f) ≡ (m >>= g)
then_alike_if_done (done x) f g e = e x refl
then_alike_if_done (refused r at) f g e = refl

-- two tests before an outcome stand before what follows it
tests_first : {X Y : Type 0} (at : ℕ) (b c : Bool) (m : Outcome X) (k : X → Outcome Y) (p : Outcome Y) → p ≡ (m >>= k)
    → (require_at at oversized b >> (require_at at crowded c >> p)) ≡ ((require_at at oversized b >> (require_at at crowded c >> m)) >>= k)
tests_first at true true m k p e = e
tests_first at true false m k p e = refl
tests_first at false c m k p e = refl

abbrev found : ℕ → List Tree → Formula → Found
found n us φ = record { next = n; terms = us; formula = formula_tree φ }

-- what is found once all conclusions are settled
abbrev ending : Option Formula → ℕ → List Tree → Outcome Found
ending o n us = need unfounded o >>= λ φ. done (found n us φ)

module _ (R : Room) where
  -- ---- one list of conclusions after another

  pub settle_append : (at : ℕ) (ts : List Tree) (l m : List (Option Formula)) → settle limits R at ts (l ++ m) ≡ (settle limits R at ts l >>= λ us. settle limits R (at + length l) us m)
  settle_append at ts [] m = ap (λ n. settle limits R n ts m) (omega arith)
  settle_append at ts (none ∷ l) m = refl
  settle_append at ts (some φ ∷ l) m =
      tests_first at (within limits (formula_tree φ)) (leb (length (keep_each ts (parts (formula_tree φ)))) R.terms) (settle limits R (suc at) (keep_each ts (parts (formula_tree φ))) l) _ _
      (settle_append (suc at) (keep_each ts (parts (formula_tree φ))) l m
      ∙ then_alike (settle limits R (suc at) (keep_each ts (parts (formula_tree φ))) l) _ _ (λ us. ap (λ n. settle limits R n us m) (omega arith)))

  pub settled_append : (at : ℕ) (ts : List Tree) (l m : List (Option Formula)) (o : Option Formula) → settled_to R at ts (l ++ m) o ≡ (settle limits R at ts l >>= λ us. settled_to R (at + length l) us m o)
  settled_append at ts l m o =
      let e : at + length (l ++ m) ≡ at + length l + length m = omega (arith, length-append l m) in
      ap₂ (λ x n. x >>= ending o n) (settle_append at ts l m) e ∙ then_then (settle limits R at ts l) (λ us. settle limits R (at + length l) us m) (ending o (at + length l + length m))

  -- ---- the conclusion of the proof itself

  last_of : (at : ℕ) (us : List Tree) (φ : Formula) (b c : Bool)
      → (require_at at oversized b >> require_at at crowded c >> done (found (suc at) us φ)) ≡ ((require_at at oversized b >> (require_at at crowded c >> done us)) >>= λ vs. done (found (at + 1) vs φ))
  last_of at us φ true true = ap (λ n. done (found n us φ)) (sym (add-one at))
  last_of at us φ true false = refl
  last_of at us φ false c = refl

  pub settled_last : (at : ℕ) (ts : List Tree) (o : Option Formula) → settled R.terms at ts (map formula_tree o) ≡ settled_to R at ts (o ∷ []) o
  settled_last at ts none = refl
  settled_last at ts (some φ) =
      let us = keep_each ts (parts (formula_tree φ)) in
      let c = leb (length us) R.terms in
      ap (λ b. require_at at oversized b >> require_at at crowded c >> done (found (suc at) us φ)) (small_is_within φ)
      ∙ last_of at us φ (within limits (formula_tree φ)) c

  -- ---- a rule after its premises

  -- the premise of a proof whose sub-proofs are settled is some
  premise : (at : ℕ) (ts us : List Tree) (l : List (Option Formula)) (o : Option Formula) → all_some l ≡ all_some (o ∷ []) → settle limits R at ts l ≡ done us → all_some (o ∷ []) ≡ true
  premise at ts us l o e h = sym e ∙ (settling.settled limits R at ts us l h).0

  -- the rule's conclusion settled, as a formula and as a tree
  abbrev Ruled : ℕ → List Tree → Option Formula → (Formula → Option Formula) → (Tree → Option Tree) → Type 0
  Ruled at us o f rule = (ending o at us >>= λ g. settled R.terms g.next g.terms (rule g.formula)) ≡ settled_to R at us (rules.◌>>=◌ o f ∷ []) (rules.◌>>=◌ o f)

  ruled : (at : ℕ) (us : List Tree) (o : Option Formula) (f : Formula → Option Formula) (rule : Tree → Option Tree) → all_some (o ∷ []) ≡ true
      → ((φ : Formula) → o ≡ some φ → map formula_tree (f φ) ≡ rule (formula_tree φ)) → Ruled at us o f rule
  unfolding rules.◌>>=◌
  ruled at us none f rule h e = absurd cc
  ruled at us (some φ) f rule h e = ap (settled R.terms at us) (sym (e φ refl)) ∙ settled_last at us (f φ)

  pub one_more : (at : ℕ) (ts : List Tree) (l : List (Option Formula)) (o : Option Formula) (f : Formula → Option Formula) (rule : Tree → Option Tree) → all_some l ≡ all_some (o ∷ [])
      → ((φ : Formula) → o ≡ some φ → map formula_tree (f φ) ≡ rule (formula_tree φ))
      → (settled_to R at ts l o >>= λ g. settled R.terms g.next g.terms (rule g.formula)) ≡ settled_to R at ts (l ++ (rules.◌>>=◌ o f ∷ [])) (rules.◌>>=◌ o f)
  one_more at ts l o f rule a e =
      then_then (settle limits R at ts l) (ending o (at + length l)) (λ g. settled R.terms g.next g.terms (rule g.formula))
      ∙ then_alike_if_done (settle limits R at ts l) _ _ (λ us h. ruled (at + length l) us o f rule (premise at ts us l o a h) e)
      ∙ sym (settled_append at ts l (rules.◌>>=◌ o f ∷ []) (rules.◌>>=◌ o f))

  both_ruled : (at : ℕ) (us : List Tree) (m : List (Option Formula)) (o p : Option Formula) (f : Formula → Formula → Option Formula) (rule : Tree → Tree → Option Tree)
      → all_some (o ∷ []) ≡ true → all_some m ≡ all_some (p ∷ [])
      → ((φ ψ : Formula) → o ≡ some φ → p ≡ some ψ → map formula_tree (f φ ψ) ≡ rule (formula_tree φ) (formula_tree ψ))
      → (ending o at us >>= λ g. settled_to R g.next g.terms m p >>= λ h. settled R.terms h.next h.terms (rule g.formula h.formula))
      ≡ settled_to R at us (m ++ (rules.◌>>=◌ o (λ χ. rules.◌>>=◌ p (f χ)) ∷ [])) (rules.◌>>=◌ o (λ χ. rules.◌>>=◌ p (f χ)))
  unfolding rules.◌>>=◌
  both_ruled at us m none p f rule h a e = absurd cc
  both_ruled at us m (some φ) p f rule h a e = one_more at us m p (f φ) (rule (formula_tree φ)) a (λ ψ q. e φ ψ refl q)

  pub two_more : (at : ℕ) (ts : List Tree) (l m : List (Option Formula)) (o p : Option Formula) (f : Formula → Formula → Option Formula) (rule : Tree → Tree → Option Tree)
      → all_some l ≡ all_some (o ∷ []) → all_some m ≡ all_some (p ∷ [])
      → ((φ ψ : Formula) → o ≡ some φ → p ≡ some ψ → map formula_tree (f φ ψ) ≡ rule (formula_tree φ) (formula_tree ψ))
      → (settled_to R at ts l o >>= λ g. settled_to R g.next g.terms m p >>= λ h. settled R.terms h.next h.terms (rule g.formula h.formula))
      ≡ settled_to R at ts (l ++ m ++ (rules.◌>>=◌ o (λ χ. rules.◌>>=◌ p (f χ)) ∷ [])) (rules.◌>>=◌ o (λ χ. rules.◌>>=◌ p (f χ)))
  two_more at ts l m o p f rule a b e =
      let x = rules.◌>>=◌ o (λ χ. rules.◌>>=◌ p (f χ)) in
      then_then (settle limits R at ts l) (ending o (at + length l)) (λ g. settled_to R g.next g.terms m p >>= λ h. settled R.terms h.next h.terms (rule g.formula h.formula))
      ∙ then_alike_if_done (settle limits R at ts l) _ _ (λ us h. both_ruled (at + length l) us m o p f rule (premise at ts us l o a h) b e)
      ∙ sym (settled_append at ts l (m ++ (x ∷ [])) x)
      ∙ ap (λ k. settled_to R at ts k x) (sym (append_assoc l m (x ∷ [])))
