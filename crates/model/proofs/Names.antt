-- What numbers name once a result is added.
use Rattle.std.proofs.Common.{◌≡◌, ℕ, zero, suc, ◌⊎◌, List, [], ◌∷◌, ◌++◌, length, sym, refl, ap, ◌∙◌, inl, inr}
use mathlib.Core.Option.{Option, none, some, none-ne-some}
use lib.ListN.{get_elem?}
use Rattle.logic.specs.Syntax.{Number, Formula, Plan, Proof}
use Rattle.logic.specs.Tree.{number_tree, formula_tree, plan_tree, proof_tree}
use Rattle.logic.specs.Terms.{Term, of_number, of_formula, of_plan, of_proof, term_tree, tree_term, as_number, as_formula, as_plan, as_proof}
use Rattle.logic.specs.Rules.{◌>>=◌}
use Rattle.logic.proofs.RulesAre.{bound}
use Rattle.logic.proofs.TermsBack.{Shows, is_number, is_formula, is_plan, is_proof, tree_of_term}
use Rattle.model.specs.State.{Result, Names, no_names, result_at, tree_at, term_at, number_at, formula_at, plan_at, proof_at}

-- what follows of nothing that is something
pub nothing_of : {X Y : Type 0} (x : X) → none ≡ some x → Y
nothing_of x e = absurd (none-ne-some x e)

at_or_last : {X : Type 0} (l : List X) (x : X) (i : ℕ) → (get_elem? (l ++ (x ∷ [])) i ≡ get_elem? l i) ⊎ (get_elem? (l ++ (x ∷ [])) i ≡ some x)
at_or_last [] x zero = inr refl
at_or_last [] x (suc i) = inl refl
at_or_last (y ∷ l) x zero = inl refl
at_or_last (y ∷ l) x (suc i) = at_or_last l x i

pub at_end : {X : Type 0} (l : List X) (x : X) → get_elem? (l ++ (x ∷ [])) (length l) ≡ some x
at_end [] x = refl
at_end (y ∷ l) x = at_end l x

-- M has the results of N and x after them
abbrev pub Adds : Names → Result → Names → Type 0
Adds N x M = M.results ≡ N.results ++ (x ∷ [])

named_or_last : (N M : Names) (x : Result) → Adds N x M → (k : ℕ) → (result_at M k ≡ result_at N k) ⊎ (result_at M k ≡ some x)
named_or_last N M x e zero = inl refl
named_or_last N M x e (suc i) =
    elim (at_or_last N.results x i) [
      | inl h ↦ inl (ap (λ l. get_elem? l i) e ∙ h)
      | inr h ↦ inr (ap (λ l. get_elem? l i) e ∙ h)
    ]

seen : {Y : Type 0} (view : Result → Option Y) (x : Result) → (some x >>= view) ≡ view x
unfolding ◌>>=◌
seen view x = refl

-- what a view of the results shows after one more, it showed before or shows of the new one
pub before_or_new : {Y : Type 0} (view : Result → Option Y) (N M : Names) (x : Result) → Adds N x M → (k : ℕ) (y : Y)
    → (result_at M k >>= view) ≡ some y → ((result_at N k >>= view) ≡ some y) ⊎ (view x ≡ some y)
before_or_new view N M x adds k y h =
    elim (named_or_last N M x adds k) [
      | inl e ↦ inl (ap (λ o. o >>= view) (sym e) ∙ h)
      | inr e ↦ inr (sym (seen view x) ∙ ap (λ o. o >>= view) (sym e) ∙ h)
    ]

-- the new one is named by the next number
pub newest : {Y : Type 0} (view : Result → Option Y) (N M : Names) (x : Result) → Adds N x M → (result_at M (suc (length N.results)) >>= view) ≡ view x
newest view N M x e = ap (λ o. o >>= view) (ap (λ l. get_elem? l (length N.results)) e ∙ at_end N.results x) ∙ seen view x

-- at first nothing is named
pub none_named : {Y : Type 0} (view : Result → Option Y) (k : ℕ) → (result_at no_names k >>= view) ≡ none
unfolding ◌>>=◌
none_named view zero = refl
none_named view (suc i) = refl

-- ---- the tree of a term that is named

-- a term of a class
pub class_named : {X : Type 0} (class : Term → Option X) (of : X → Term) → Shows class of → (N : Names) (k : ℕ) (x : X) → (term_at N k >>= class) ≡ some x → tree_at N k ≡ some (term_tree (of x))
class_named class of shows N k x h =
    let b = bound (term_at N k) class x h in
    let c = bound (tree_at N k) tree_term b.0 b.1 in
    c.1 ∙ ap some (sym (tree_of_term c.0 b.0 c.2) ∙ ap term_tree (shows b.0 x b.2))

pub number_named : (N : Names) (k : ℕ) (a : Number) → number_at N k ≡ some a → tree_at N k ≡ some (number_tree a)
number_named = class_named as_number of_number is_number

pub formula_named : (N : Names) (k : ℕ) (φ : Formula) → formula_at N k ≡ some φ → tree_at N k ≡ some (formula_tree φ)
formula_named = class_named as_formula of_formula is_formula

pub plan_named : (N : Names) (k : ℕ) (p : Plan) → plan_at N k ≡ some p → tree_at N k ≡ some (plan_tree p)
plan_named = class_named as_plan of_plan is_plan

pub proof_named : (N : Names) (k : ℕ) (P : Proof) → proof_at N k ≡ some P → tree_at N k ≡ some (proof_tree P)
proof_named = class_named as_proof of_proof is_proof
