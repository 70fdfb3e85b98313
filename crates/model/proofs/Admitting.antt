-- The literals of every term that a session's results hold are admitted, and so are those of a fact's formula.
use Rattle.command.specs.declared.command.Command.{Command}
use Rattle.std.proofs.Common.{◌≡◌, ℕ, true, ◌&&◌, List, [], ◌∷◌, sym, refl, subst}
use mathlib.Core.Option.{some, some-injective}
use lib.ListN.{get_elem?}
use Rattle.std.proofs.lemmas.Bool.{and_parts, and_from}
use Rattle.logic.specs.Syntax.{Number, Formula}
use Rattle.logic.specs.Tree.{Tree, leaf, unary, binary, number_tree, literals_pass}
use Rattle.logic.specs.Terms.{tree_term}
use Rattle.logic.specs.Arithmetic.{Arithmetic, Lawful}
use Rattle.logic.specs.Facts.{Fact, States, admitted, sum, atmost, swap, eqleq}
use Rattle.logic.specs.Facts.{by_sum, by_atmost, by_above, by_cancel, by_swap, by_eqleq, by_leqtrans, by_pair}
use Rattle.logic.proofs.RulesAre.{bound}
use Rattle.model.specs.State.{Names, tree_at, symbol_at, known_at, number_at, formula_at}
use Rattle.model.specs.Commands.{Maker, of_number, of_literal, of_nothing, of_known, of_one, of_symbol, of_two, assembled, made}
use Rattle.model.specs.Commands.{FactHead, a_sum, an_atmost, a_cancel, a_swap, an_eqleq, a_leqtrans, a_pair, of_two_numbers, named_fact}
use Rattle.model.specs.Tests.{literal_admitted, fact_operands}
use Rattle.model.proofs.Names.{number_named, formula_named}

-- what a command makes is what it assembled
pub assembled_made : (m : Maker) (N : Names) (c : Command) (t : Tree) → made m N c ≡ some t → assembled m N c ≡ some t
assembled_made m N c t h =
    let b = bound (assembled m N c) _ t h in
    let d = bound (tree_term b.0) _ t b.2 in
    subst (λ u. assembled m N c ≡ some u) (some-injective _ _ d.2) b.1

-- What a command assembles has a property that holds of leaves, and of heads over operands that the results name.
module _ (N : Names) (P : Tree → Type 0) (leaves : (x : _) → P (leaf x)) (ones : (h : _) (k : ℕ) (t : Tree) → tree_at N k ≡ some t → P (unary h t))
    (twos : (h : _) (j k : ℕ) (t u : Tree) → tree_at N j ≡ some t → tree_at N k ≡ some u → P (binary h t u)) where
  pub assembled_has : (m : Maker) (c : Command) (t : Tree) → assembled m N c ≡ some t → P t
  assembled_has (of_number f) c t h = subst P (some-injective _ _ h) (leaves _)
  assembled_has (of_literal f) c t h = subst P (some-injective _ _ h) (leaves _)
  assembled_has (of_nothing x) c t h = subst P (some-injective _ _ h) (leaves _)
  assembled_has of_known c t h = let b = bound (known_at N c.a) _ t h in subst P (some-injective _ _ b.2) (leaves _)
  assembled_has (of_one g) c t h = let b = bound (tree_at N c.a) _ t h in subst P (some-injective _ _ b.2) (ones g c.a b.0 b.1)
  assembled_has (of_symbol f) c t h =
      let s = bound (symbol_at N c.a) _ t h in
      let y = bound (get_elem? N.symbols s.0) _ t s.2 in
      let b = bound (tree_at N c.b) _ t y.2 in
      subst P (some-injective _ _ b.2) (ones (f y.0.kind s.0) c.b b.0 b.1)
  assembled_has (of_two g) c t h =
      let b = bound (tree_at N c.a) _ t h in
      let d = bound (tree_at N c.b) _ t b.2 in
      subst P (some-injective _ _ d.2) (twos g c.a c.b b.0 d.0 b.1 d.1)

module _ (A : Arithmetic) where
  abbrev pub Passes : Tree → Type 0
  Passes t = literals_pass A.admits t ≡ true

  abbrev pub AllAdmitted : Names → Type 0
  AllAdmitted N = (k : ℕ) (t : Tree) → tree_at N k ≡ some t → Passes t

  pub made_admitted : (N : Names) → AllAdmitted N → (m : Maker) (c : Command) (t : Tree) → made m N c ≡ some t → literal_admitted A t ≡ true → Passes t
  made_admitted N ok m c t h =
      assembled_has N (λ u. literal_admitted A u ≡ true → Passes u) (λ x e. e) (λ g k u e _. ok k u e) (λ g j k u v e f _. and_from _ _ (ok j u e) (ok k v f)) m c t (assembled_made m N c t h)

  -- ---- facts

  abbrev EachPasses : List Tree → Type 0
  EachPasses [] = Unit {0}
  EachPasses (t ∷ l) = Passes t × EachPasses l

  abbrev FactAdmitted : Fact → Type 0
  FactAdmitted f = EachPasses (fact_operands f)

  module _ (N : Names) (ok : AllAdmitted N) (c : Command) where
    numbers_admitted : (f : Number → Number → Fact) (x : Fact) → ((a b : Number) → fact_operands (f a b) ≡ number_tree a ∷ number_tree b ∷ []) → of_two_numbers f N c ≡ some x → FactAdmitted x
    numbers_admitted f x operands h =
        let a = bound (number_at N c.a) _ x h in
        let b = bound (number_at N c.b) _ x a.2 in
        subst FactAdmitted (some-injective _ _ b.2) (subst EachPasses (sym (operands a.0 b.0))
        (ok _ _ (number_named N _ _ a.1), (ok _ _ (number_named N _ _ b.1), tt)))

    pub fact_admitted : (g : FactHead) (x : Fact) → named_fact g N c ≡ some x → FactAdmitted x
    fact_admitted a_sum x h = numbers_admitted sum x (λ a b. refl) h
    fact_admitted an_atmost x h = numbers_admitted atmost x (λ a b. refl) h
    fact_admitted a_cancel x h =
        let a = bound (number_at N c.a) _ x h in
        subst FactAdmitted (some-injective _ _ a.2) (ok _ _ (number_named N _ _ a.1), tt)
    fact_admitted a_swap x h = numbers_admitted swap x (λ a b. refl) h
    fact_admitted an_eqleq x h = numbers_admitted eqleq x (λ a b. refl) h
    fact_admitted a_leqtrans x h =
        let a = bound (number_at N c.a) _ x h in
        let b = bound (number_at N c.b) _ x a.2 in
        let d = bound (number_at N c.c) _ x b.2 in
        subst FactAdmitted (some-injective _ _ d.2)
        (ok _ _ (number_named N _ _ a.1), (ok _ _ (number_named N _ _ b.1), (ok _ _ (number_named N _ _ d.1), tt)))
    fact_admitted a_pair x h =
        let a = bound (formula_at N c.a) _ x h in
        let b = bound (formula_at N c.b) _ x a.2 in
        subst FactAdmitted (some-injective _ _ b.2) (ok _ _ (formula_named N _ _ a.1), (ok _ _ (formula_named N _ _ b.1), tt))

  -- what a fact states has admitted literals, if its operands have
  pub stated_admitted : Lawful A → (f : Fact) (φ : Formula) → States A f φ → FactAdmitted f → admitted A φ ≡ true
  stated_admitted law f φ (by_sum ok) h = and_from _ _ (and_from _ _ h.0 h.1.0) ok
  stated_admitted law f φ (by_atmost e) h = and_from _ _ h.0 h.1.0
  stated_admitted law f φ (by_above e) h = and_from _ _ h.0 h.1.0
  stated_admitted law f φ by_cancel h = and_from _ _ (and_from _ _ h.0 h.0) law.admits_zero
  stated_admitted law f φ by_swap h = and_from _ _ (and_from _ _ h.0 h.1.0) (and_from _ _ h.1.0 h.0)
  stated_admitted law f φ by_eqleq h = and_from _ _ (and_from _ _ h.0 h.1.0) (and_from _ _ h.0 h.1.0)
  stated_admitted law f φ by_leqtrans h = and_from _ _ (and_from _ _ h.0 h.1.0) (and_from _ _ (and_from _ _ h.1.0 h.1.1.0) (and_from _ _ h.0 h.1.1.0))
  stated_admitted law f φ (by_pair {a} {b} {c} {m} {n} carries ok) h =
      let passes = λ (x : Number). literals_pass A.admits (number_tree x) in
      let ab = and_parts (passes a && passes b) (A.admits m) h.0 in
      let ac = and_parts (passes a && passes c) (A.admits n) h.1.0 in
      and_from _ _ h.0 (and_from _ _ h.1.0 (and_from _ _ (and_from _ _ (and_parts (passes a) (passes b) ab.0).1 (and_parts (passes a) (passes c) ac.0).1) ok))
