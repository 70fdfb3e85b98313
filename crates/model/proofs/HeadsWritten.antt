-- The command that writes a term makes it, where its operands are named.
use Rattle.command.specs.declared.command.Command.{Command}
use Rattle.std.proofs.Common.{◌≡◌, ℕ, suc, true, ◌&&◌, List, [], ◌∷◌, sym, refl, ap, ◌∙◌, subst}
use mathlib.Core.Bool.{false≢true}
use mathlib.Core.Option.{Option, none, some}
use lib.ListN.{get_elem?}
use Rattle.std.proofs.lemmas.Bool.{and_parts}
use Rattle.logic.specs.Syntax.{Number, Formula, Plan, Proof}
use Rattle.logic.specs.Syntax.{implication, conjunction, disjunction, skip, skol, recnn, recand, recor, recnor, recnand}
use Rattle.logic.specs.Syntax.{nnpp, eqsymm, and1, and2, orimp, addneg, intro, elimnot, mp, eqtrans, negelim}
use Rattle.logic.specs.Tree.{Kind, thing, number, predicate, same_kind, Leaf, Unary, Binary, Tree, leaf, unary, binary, number_tree, formula_tree, plan_tree, proof_tree}
use Rattle.logic.specs.Terms.{Term, of_number, of_formula, of_plan, of_proof, tree_term, as_number, as_formula, as_plan, as_proof}
use Rattle.logic.specs.Arithmetic.{Arithmetic}
use Rattle.logic.specs.Rules.{◌>>=◌}
use Rattle.logic.specs.Facts.{Fact, States, sum, atmost, cancel, swap, eqleq, leqtrans, pair}
use Rattle.logic.proofs.Trees.{read_back}
use Rattle.model.specs.State.{Symbol, Names, symbol_at, tree_at, known_at, term_at, number_at, formula_at, plan_at, proof_at}
use Rattle.model.specs.Commands as Commands
use Rattle.model.specs.Commands.{Maker, of_literal, of_nothing, of_known, of_one, of_symbol, of_two, assembled, plain}
use Rattle.model.specs.Tests.{full, literal_admitted, closed_within, fact_operands, closed_fact}
use Rattle.model.specs.Written.{Makes, Rightly, writes_fact}
use Rattle.model.specs.Writer.{only_symbols, is_of_kind, is_there, symbol_there, passes_by_head, leaf_command, unary_command, binary_code, stands_in, number_of, makes_term, fact_command}
use Rattle.model.proofs.Places.{bind_some, tree_there}
use Rattle.model.proofs.SymbolsNamed.{full_by_symbols}

-- what the names have to give: the symbols, by the numbers from 1 on, and what is known
pub record Grounds (ss : List Symbol) (knows : ℕ → Option Formula) (N : Names) : Type 0 where
  pub symbols_are : N.symbols ≡ ss
  pub symbols_named : (s : ℕ) (y : Symbol) → get_elem? ss s ≡ some y → symbol_at N (suc s) ≡ some s
  pub known_named : (k : ℕ) (φ : Formula) → knows k ≡ some φ → known_at N k ≡ some φ

-- a leaf that names a known formula names one that is known
abbrev pub KnownLeaf : (ℕ → Option Formula) → Leaf → Type 0
KnownLeaf knows (Leaf.var i) = Unit {0}
KnownLeaf knows Leaf.nil = Unit {0}
KnownLeaf knows (Leaf.lit n) = Unit {0}
KnownLeaf knows Leaf.falsity = Unit {0}
KnownLeaf knows Leaf.id = Unit {0}
KnownLeaf knows (Leaf.hyp i) = Unit {0}
KnownLeaf knows (Leaf.known k) = (φ : Formula) × (knows k ≡ some φ)

kinds_same : (j k : Kind) → same_kind j k ≡ true → j ≡ k
kinds_same thing thing h = refl
kinds_same number number h = refl
kinds_same predicate predicate h = refl
kinds_same j k h = absurd (false≢true h)

of_kind : (o : Option Symbol) (k : Kind) → is_of_kind o k ≡ true → (y : Symbol) × (o ≡ some y) × (y.kind ≡ k)
of_kind none k h = absurd (false≢true h)
of_kind (some y) k h = (y, refl, kinds_same y.kind k h)

there : (o : Option Symbol) → is_there o ≡ true → (y : Symbol) × (o ≡ some y)
there none h = absurd (false≢true h)
there (some y) h = (y, refl)

module _ (A : Arithmetic) (ss : List Symbol) (knows : ℕ → Option Formula) (N : Names) (g : Grounds ss knows N) where
  -- a head that assembles the term writes it
  makes_it : (m : Maker) (c : Command) (t : Tree) (x : Term) → assembled m N c ≡ some t → tree_term t ≡ some x → passes_by_head A ss t ≡ true → Makes A N c m t
  makes_it m c t x e typed h =
      let closes = and_parts (_ && literal_admitted A t) (closed_within t) h in
      let literal = and_parts _ (literal_admitted A t) closes.0 in
      let arguments = and_parts _ (full (only_symbols ss) t) literal.0 in
      record {
        makes = bind_some (assembled m N c) _ t e ∙ bind_some (tree_term t) _ x typed;
        has_arguments = full_by_symbols N t ∙ ap (λ l. full (only_symbols l) t) g.symbols_are ∙ arguments.1;
        admits_literal = literal.1;
        closes = closes.1;
      }

  pub leaf_right : (x : Leaf) → KnownLeaf knows x → passes_by_head A ss (leaf x) ≡ true → Rightly A N (leaf_command x) (makes_term (leaf_command x) (leaf x))
  leaf_right (Leaf.var i) k h = (Commands.of_number Leaf.var, refl, makes_it _ _ _ _ refl refl h)
  leaf_right Leaf.nil k h = (of_nothing Leaf.nil, refl, makes_it _ _ _ _ refl refl h)
  leaf_right (Leaf.lit n) k h = (of_literal Leaf.lit, refl, makes_it _ _ _ _ refl refl h)
  leaf_right Leaf.falsity k h = (of_nothing Leaf.falsity, refl, makes_it _ _ _ _ refl refl h)
  leaf_right Leaf.id k h = (of_nothing Leaf.id, refl, makes_it _ _ _ _ refl refl h)
  leaf_right (Leaf.hyp i) k h = (Commands.of_number Leaf.hyp, refl, makes_it _ _ _ _ refl refl h)
  leaf_right (Leaf.known i) k h = (of_known, refl, makes_it of_known (plain 41 i 0) (leaf (Leaf.known i)) _ (bind_some (known_at N i) _ k.0 (g.known_named i k.0 k.1)) refl h)

  module _ (n : ℕ) (t : Tree) (x : Term) (named : tree_at N n ≡ some t) where
    one_made : (h : Unary) (code : ℕ) → tree_term (unary h t) ≡ some x → passes_by_head A ss (unary h t) ≡ true → Makes A N (plain code n 0) (of_one h) (unary h t)
    one_made h code typed ok = makes_it (of_one h) (plain code n 0) (unary h t) x (bind_some (tree_at N n) _ t named) typed ok

    symbol_made : (f : Kind → ℕ → Unary) (code s : ℕ) (y : Symbol) → get_elem? ss s ≡ some y → tree_term (unary (f y.kind s) t) ≡ some x → passes_by_head A ss (unary (f y.kind s) t) ≡ true
        → Makes A N (plain code (suc s) n) (of_symbol f) (unary (f y.kind s) t)
    symbol_made f code s y found typed ok =
        makes_it (of_symbol f) (plain code (suc s) n) (unary (f y.kind s) t) x
        (bind_some (symbol_at N (suc s)) _ s (g.symbols_named s y found)
        ∙ bind_some (get_elem? N.symbols s) _ y (ap (λ l. get_elem? l s) g.symbols_are ∙ found)
        ∙ bind_some (tree_at N n) _ t named)
        typed ok

    own_symbol : (h : Unary) → passes_by_head A ss (unary h t) ≡ true → symbol_there ss h ≡ true
    own_symbol h ok = (and_parts (symbol_there ss h) _ (and_parts _ (literal_admitted A (unary h t)) (and_parts (_ && literal_admitted A (unary h t)) (closed_within (unary h t)) ok).0).0).0

    pub unary_right : (h : Unary) → tree_term (unary h t) ≡ some x → passes_by_head A ss (unary h t) ≡ true → Rightly A N (unary_command h n) (makes_term (unary_command h n) (unary h t))
    unary_right (Unary.application k s) typed ok =
        let y = of_kind (get_elem? ss s) k (own_symbol (Unary.application k s) ok) in (
          of_symbol Unary.application,
          refl,
          subst (λ j. Makes A N (plain 13 (suc s) n) (of_symbol Unary.application) (unary (Unary.application j s) t)) y.2
              (symbol_made Unary.application 13 s y.0 y.1
              (subst (λ j. tree_term (unary (Unary.application j s) t) ≡ some x) (sym y.2) typed)
              (subst (λ j. passes_by_head A ss (unary (Unary.application j s) t) ≡ true) (sym y.2) ok)),
        )
    unary_right Unary.minus typed ok = (of_one Unary.minus, refl, one_made Unary.minus 16 typed ok)
    unary_right Unary.neg typed ok = (of_one Unary.neg, refl, one_made Unary.neg 24 typed ok)
    unary_right Unary.forall typed ok = (of_one Unary.forall, refl, one_made Unary.forall 27 typed ok)
    unary_right (Unary.step skip) typed ok = (of_one (Unary.step skip), refl, one_made (Unary.step skip) 31 typed ok)
    unary_right (Unary.step (skol s)) typed ok =
        let y = there (get_elem? ss s) (own_symbol (Unary.step (skol s)) ok) in
        (of_symbol (λ k r. Unary.step (skol r)), refl, symbol_made (λ k r. Unary.step (skol r)) 32 s y.0 y.1 typed ok)
    unary_right (Unary.step recnn) typed ok = (of_one (Unary.step recnn), refl, one_made (Unary.step recnn) 37 typed ok)
    unary_right Unary.eqrefl typed ok = (of_one Unary.eqrefl, refl, one_made Unary.eqrefl 46 typed ok)
    unary_right (Unary.from nnpp) typed ok = (of_one (Unary.from nnpp), refl, one_made (Unary.from nnpp) 45 typed ok)
    unary_right (Unary.from eqsymm) typed ok = (of_one (Unary.from eqsymm), refl, one_made (Unary.from eqsymm) 48 typed ok)
    unary_right (Unary.from and1) typed ok = (of_one (Unary.from and1), refl, one_made (Unary.from and1) 50 typed ok)
    unary_right (Unary.from and2) typed ok = (of_one (Unary.from and2), refl, one_made (Unary.from and2) 51 typed ok)
    unary_right (Unary.from orimp) typed ok = (of_one (Unary.from orimp), refl, one_made (Unary.from orimp) 52 typed ok)
    unary_right (Unary.from addneg) typed ok = (of_one (Unary.from addneg), refl, one_made (Unary.from addneg) 54 typed ok)
    unary_right (Unary.from intro) typed ok = (of_one (Unary.from intro), refl, one_made (Unary.from intro) 55 typed ok)
    unary_right (Unary.from elimnot) typed ok = (of_one (Unary.from elimnot), refl, one_made (Unary.from elimnot) 56 typed ok)

  module _ (j k : ℕ) (t u : Tree) (x : Term) (first : tree_at N j ≡ some t) (second : tree_at N k ≡ some u) where
    two_made : (h : Binary) (code : ℕ) → tree_term (binary h t u) ≡ some x → passes_by_head A ss (binary h t u) ≡ true → Makes A N (plain code j k) (of_two h) (binary h t u)
    two_made h code typed ok = makes_it (of_two h) (plain code j k) (binary h t u) x (bind_some (tree_at N j) _ t first ∙ bind_some (tree_at N k) _ u second) typed ok

    pub binary_right : (h : Binary) → tree_term (binary h t u) ≡ some x → passes_by_head A ss (binary h t u) ≡ true
        → Rightly A N (plain (binary_code h) j k) (makes_term (plain (binary_code h) j k) (binary h t u))
    binary_right Binary.cons typed ok = (of_two Binary.cons, refl, two_made Binary.cons 12 typed ok)
    binary_right Binary.add typed ok = (of_two Binary.add, refl, two_made Binary.add 15 typed ok)
    binary_right (Binary.connect implication) typed ok = (of_two (Binary.connect implication), refl, two_made (Binary.connect implication) 21 typed ok)
    binary_right (Binary.connect conjunction) typed ok = (of_two (Binary.connect conjunction), refl, two_made (Binary.connect conjunction) 22 typed ok)
    binary_right (Binary.connect disjunction) typed ok = (of_two (Binary.connect disjunction), refl, two_made (Binary.connect disjunction) 23 typed ok)
    binary_right Binary.eq typed ok = (of_two Binary.eq, refl, two_made Binary.eq 25 typed ok)
    binary_right Binary.leq typed ok = (of_two Binary.leq, refl, two_made Binary.leq 26 typed ok)
    binary_right (Binary.fork recand) typed ok = (of_two (Binary.fork recand), refl, two_made (Binary.fork recand) 33 typed ok)
    binary_right (Binary.fork recor) typed ok = (of_two (Binary.fork recor), refl, two_made (Binary.fork recor) 34 typed ok)
    binary_right (Binary.fork recnor) typed ok = (of_two (Binary.fork recnor), refl, two_made (Binary.fork recnor) 35 typed ok)
    binary_right (Binary.fork recnand) typed ok = (of_two (Binary.fork recnand), refl, two_made (Binary.fork recnand) 36 typed ok)
    binary_right Binary.assume typed ok = (of_two Binary.assume, refl, two_made Binary.assume 42 typed ok)
    binary_right Binary.absurd typed ok = (of_two Binary.absurd, refl, two_made Binary.absurd 44 typed ok)
    binary_right Binary.eqsub typed ok = (of_two Binary.eqsub, refl, two_made Binary.eqsub 49 typed ok)
    binary_right Binary.inst typed ok = (of_two Binary.inst, refl, two_made Binary.inst 57 typed ok)
    binary_right (Binary.from_both mp) typed ok = (of_two (Binary.from_both mp), refl, two_made (Binary.from_both mp) 43 typed ok)
    binary_right (Binary.from_both eqtrans) typed ok = (of_two (Binary.from_both eqtrans), refl, two_made (Binary.from_both eqtrans) 47 typed ok)
    binary_right (Binary.from_both negelim) typed ok = (of_two (Binary.from_both negelim), refl, two_made (Binary.from_both negelim) 53 typed ok)

-- ---- facts

-- a term that stands among the results, read by its number
read_there : {X : Type 0} (view : Term → Option X) (N : Names) (t : Tree) (y : Term) (x : X) → stands_in N.results t ≡ true → tree_term t ≡ some y → view y ≡ some x → (term_at N (number_of N t) >>= view) ≡ some x
read_there view N t y x h typed is = bind_some (term_at N (number_of N t)) view y (bind_some (tree_at N (number_of N t)) tree_term t (tree_there N t h) ∙ typed) ∙ is

pub number_there : (N : Names) (a : Number) → stands_in N.results (number_tree a) ≡ true → number_at N (number_of N (number_tree a)) ≡ some a
number_there N a h = read_there as_number N (number_tree a) (of_number a) a h (read_back (of_number a)) refl

pub formula_there : (N : Names) (φ : Formula) → stands_in N.results (formula_tree φ) ≡ true → formula_at N (number_of N (formula_tree φ)) ≡ some φ
formula_there N φ h = read_there as_formula N (formula_tree φ) (of_formula φ) φ h (read_back (of_formula φ)) refl

pub plan_there : (N : Names) (p : Plan) → stands_in N.results (plan_tree p) ≡ true → plan_at N (number_of N (plan_tree p)) ≡ some p
plan_there N p h = read_there as_plan N (plan_tree p) (of_plan p) p h (read_back (of_plan p)) refl

pub proof_there : (N : Names) (P : Proof) → stands_in N.results (proof_tree P) ≡ true → proof_at N (number_of N (proof_tree P)) ≡ some P
proof_there N P h = read_there as_proof N (proof_tree P) (of_proof P) P h (read_back (of_proof P)) refl

abbrev pub AllStand : Names → List Tree → Type 0
AllStand N [] = Unit {0}
AllStand N (t ∷ l) = (stands_in N.results t ≡ true) × AllStand N l

module _ (A : Arithmetic) (N : Names) where
  two_numbers : (a b : Number) (f : Number → Number → Fact) (code : ℕ) → AllStand N (number_tree a ∷ number_tree b ∷ [])
      → Commands.of_two_numbers f N (plain code (number_of N (number_tree a)) (number_of N (number_tree b))) ≡ some (f a b)
  two_numbers a b f code s = bind_some _ _ a (number_there N a s.0) ∙ bind_some _ _ b (number_there N b s.1.0)

  pub fact_right : (f : Fact) (φ : Formula) → AllStand N (fact_operands f) → closed_fact f ≡ true → States A f φ → Rightly A N (fact_command N f) (writes_fact f φ)
  fact_right (sum a b) φ s shut d = (Commands.a_sum, refl, two_numbers a b sum 60 s, shut, d)
  fact_right (atmost a b) φ s shut d = (Commands.an_atmost, refl, two_numbers a b atmost 61 s, shut, d)
  fact_right (cancel a) φ s shut d = (Commands.a_cancel, refl, bind_some _ _ a (number_there N a s.0), shut, d)
  fact_right (swap a b) φ s shut d = (Commands.a_swap, refl, two_numbers a b swap 63 s, shut, d)
  fact_right (eqleq a b) φ s shut d = (Commands.an_eqleq, refl, two_numbers a b eqleq 64 s, shut, d)
  fact_right (leqtrans a b c) φ s shut d =
      (Commands.a_leqtrans, refl, bind_some _ _ a (number_there N a s.0) ∙ bind_some _ _ b (number_there N b s.1.0) ∙ bind_some _ _ c (number_there N c s.1.1.0), shut, d)
  fact_right (pair φ ψ) χ s shut d = (Commands.a_pair, refl, bind_some _ _ φ (formula_there N φ s.0) ∙ bind_some _ _ ψ (formula_there N ψ s.1.0), shut, d)
