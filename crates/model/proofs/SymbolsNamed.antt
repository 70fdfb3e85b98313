-- A term that a command makes names only symbols that are there, and what is there stays there.
use Rattle.command.specs.declared.command.Command.{Command}
use Rattle.command.specs.declared.head.Head.{Head}
use Rattle.command.specs.Heads.{coded}
use Rattle.std.specs.declared.option.Option as Rust
use Rattle.std.proofs.Common.{◌≡◌, ℕ, zero, suc, Bool, true, false, ◌&&◌, List, [], ◌∷◌, ◌++◌, Some, None, sym, refl, ap, ◌∙◌, subst}
use mathlib.Core.Bool.{false≢true}
use mathlib.Core.Option.{Option, none, some, none-ne-some, some-injective}
use lib.ListN.{get_elem?}
use Rattle.std.proofs.lemmas.Bool.{and_parts, and_from}
use Rattle.logic.specs.Syntax.{OneSided, skip, skol, recnn}
use Rattle.logic.specs.Tree.{Kind, thing, number, predicate, same_kind, Unary, Tree, leaf, unary, binary, parts}
use Rattle.logic.specs.Arithmetic.{Arithmetic}
use Rattle.logic.proofs.RulesAre.{bound}
use Rattle.model.specs.State.{Symbol, Names, symbol_at, tree_at, known_at}
use Rattle.model.specs.Commands.{Maker, of_number, of_literal, of_nothing, of_known, of_one, of_symbol, of_two, assembled}
use Rattle.model.specs.Commands.{Action, a_symbol, a_term, a_deduction, a_fact, a_query, an_initial, a_let, a_same, a_shows, a_final, action, acting, action_of}
use Rattle.model.specs.Tests.{count, asks, counted, full, literal_admitted, closed_within}
use Rattle.model.specs.Writer.{only_symbols, is_of_kind, is_there, plan_symbol_there, symbol_there, own_symbol_there, passes_by_head, proper}
use Rattle.model.proofs.Parts.{each_so}

-- ---- a head that takes no symbol names none, and one that takes a symbol names that one

abbrev pub NamesGiven : Maker → Type 0
NamesGiven (of_number f) = Unit {0}
NamesGiven (of_literal f) = Unit {0}
NamesGiven (of_nothing x) = Unit {0}
NamesGiven of_known = Unit {0}
NamesGiven (of_one h) = (ss : List Symbol) → symbol_there ss h ≡ true
NamesGiven (of_symbol f) = (ss : List Symbol) (s : ℕ) (y : Symbol) → get_elem? ss s ≡ some y → symbol_there ss (f y.kind s) ≡ true
NamesGiven (of_two h) = Unit {0}

abbrev pub MakesGiven : Action → Type 0
MakesGiven (a_symbol k) = Unit {0}
MakesGiven (a_term m) = NamesGiven m
MakesGiven (a_deduction m) = NamesGiven m
MakesGiven (a_fact g) = Unit {0}
MakesGiven a_query = Unit {0}
MakesGiven an_initial = Unit {0}
MakesGiven a_let = Unit {0}
MakesGiven a_same = Unit {0}
MakesGiven a_shows = Unit {0}
MakesGiven a_final = Unit {0}

same_kind_refl : (k : Kind) → same_kind k k ≡ true
same_kind_refl thing = refl
same_kind_refl number = refl
same_kind_refl predicate = refl

of_its_kind : (ss : List Symbol) (s : ℕ) (y : Symbol) → get_elem? ss s ≡ some y → is_of_kind (get_elem? ss s) y.kind ≡ true
of_its_kind ss s y e = ap (λ o. is_of_kind o y.kind) e ∙ same_kind_refl y.kind

head_names_given : (h : Head) → MakesGiven (action h)
head_names_given Head.Thing = tt
head_names_given Head.Number = tt
head_names_given Head.Pred = tt
head_names_given Head.Var = tt
head_names_given Head.Nil = tt
head_names_given Head.Cons = tt
head_names_given Head.App = λ ss s y e. of_its_kind ss s y e
head_names_given Head.Lit = tt
head_names_given Head.Add = tt
head_names_given Head.Minus = λ ss. refl
head_names_given Head.False = tt
head_names_given Head.Implies = tt
head_names_given Head.And = tt
head_names_given Head.Or = tt
head_names_given Head.Neg = λ ss. refl
head_names_given Head.Eq = tt
head_names_given Head.Leq = tt
head_names_given Head.Forall = λ ss. refl
head_names_given Head.Id = tt
head_names_given Head.Skip = λ ss. refl
head_names_given Head.Skol = λ ss s y e. ap is_there e
head_names_given Head.Recand = tt
head_names_given Head.Recor = tt
head_names_given Head.Recnor = tt
head_names_given Head.Recnand = tt
head_names_given Head.Recnn = λ ss. refl
head_names_given Head.Hyp = tt
head_names_given Head.Known = tt
head_names_given Head.Assume = tt
head_names_given Head.Mp = tt
head_names_given Head.Absurd = tt
head_names_given Head.Nnpp = λ ss. refl
head_names_given Head.Eqrefl = λ ss. refl
head_names_given Head.Eqtrans = tt
head_names_given Head.Eqsymm = λ ss. refl
head_names_given Head.Eqsub = tt
head_names_given Head.And1 = λ ss. refl
head_names_given Head.And2 = λ ss. refl
head_names_given Head.Orimp = λ ss. refl
head_names_given Head.Negelim = tt
head_names_given Head.Addneg = λ ss. refl
head_names_given Head.Intro = λ ss. refl
head_names_given Head.Elimnot = λ ss. refl
head_names_given Head.Inst = tt
head_names_given Head.Sum = tt
head_names_given Head.Atmost = tt
head_names_given Head.Cancel = tt
head_names_given Head.Swap = tt
head_names_given Head.Eqleq = tt
head_names_given Head.Leqtrans = tt
head_names_given Head.Pair = tt
head_names_given Head.Query = tt
head_names_given Head.Initial = tt
head_names_given Head.Let = tt
head_names_given Head.Same = tt
head_names_given Head.Shows = tt
head_names_given Head.Final = tt

given_by : (o : Rust.Option Head) (a : Action) → acting o ≡ some a → MakesGiven a
given_by None a e = absurd (none-ne-some a e)
given_by (Some h) a e = subst MakesGiven (some-injective _ _ e) (head_names_given h)

pub action_names_given : (code : ℕ) (a : Action) → action_of code ≡ some a → MakesGiven a
action_names_given code a e = given_by (coded code) a e

-- what a command makes names a symbol that is there
pub assembled_symbol : (N : Names) (m : Maker) → NamesGiven m → (c : Command) (t : Tree) → assembled m N c ≡ some t → own_symbol_there N.symbols t ≡ true
assembled_symbol N (of_number f) given c t h = ap (own_symbol_there N.symbols) (sym (some-injective _ _ h))
assembled_symbol N (of_literal f) given c t h = ap (own_symbol_there N.symbols) (sym (some-injective _ _ h))
assembled_symbol N (of_nothing x) given c t h = ap (own_symbol_there N.symbols) (sym (some-injective _ _ h))
assembled_symbol N of_known given c t h = let b = bound (known_at N c.a) _ t h in ap (own_symbol_there N.symbols) (sym (some-injective _ _ b.2))
assembled_symbol N (of_one g) given c t h =
    let b = bound (tree_at N c.a) _ t h in
    subst (λ u. own_symbol_there N.symbols u ≡ true) (some-injective _ _ b.2) (given N.symbols)
assembled_symbol N (of_symbol f) given c t h =
    let s = bound (symbol_at N c.a) _ t h in
    let y = bound (get_elem? N.symbols s.0) _ t s.2 in
    let b = bound (tree_at N c.b) _ t y.2 in
    subst (λ u. own_symbol_there N.symbols u ≡ true) (some-injective _ _ b.2) (given N.symbols s.0 y.0 y.1)
assembled_symbol N (of_two g) given c t h =
    let b = bound (tree_at N c.a) _ t h in
    let d = bound (tree_at N c.b) _ t b.2 in
    ap (own_symbol_there N.symbols) (sym (some-injective _ _ d.2))

-- ---- only the symbols matter for a symbol's arguments

counted_by_symbols : (N : Names) (h : Unary) (t : Tree) → counted N h t ≡ counted (only_symbols N.symbols) h t
counted_by_symbols N (Unary.application k s) t = refl
counted_by_symbols N Unary.minus t = refl
counted_by_symbols N Unary.neg t = refl
counted_by_symbols N Unary.forall t = refl
counted_by_symbols N (Unary.step h) t = refl
counted_by_symbols N Unary.eqrefl t = refl
counted_by_symbols N (Unary.from r) t = refl

pub full_by_symbols : (N : Names) (t : Tree) → full N t ≡ full (only_symbols N.symbols) t
full_by_symbols N (leaf x) = refl
full_by_symbols N (unary h t) = counted_by_symbols N h t
full_by_symbols N (binary h t u) = refl

-- ---- one more symbol

module _ (ss : List Symbol) (y : Symbol) where
  -- a test that a symbol passes and its lack fails
  there_still : (test : Option Symbol → Bool) → test none ≡ false → (l : List Symbol) (s : ℕ) → test (get_elem? l s) ≡ true → test (get_elem? (l ++ (y ∷ [])) s) ≡ true
  there_still test fails [] s h = absurd (false≢true (sym fails ∙ h))
  there_still test fails (x ∷ l) zero h = h
  there_still test fails (x ∷ l) (suc s) h = there_still test fails l s h

  plan_symbol_still : (h : OneSided) → plan_symbol_there ss h ≡ true → plan_symbol_there (ss ++ (y ∷ [])) h ≡ true
  plan_symbol_still skip e = refl
  plan_symbol_still (skol s) e = there_still is_there refl ss s e
  plan_symbol_still recnn e = refl

  symbol_still : (h : Unary) → symbol_there ss h ≡ true → symbol_there (ss ++ (y ∷ [])) h ≡ true
  symbol_still (Unary.application k s) e = there_still (λ o. is_of_kind o k) refl ss s e
  symbol_still Unary.minus e = refl
  symbol_still Unary.neg e = refl
  symbol_still Unary.forall e = refl
  symbol_still (Unary.step h) e = plan_symbol_still h e
  symbol_still Unary.eqrefl e = refl
  symbol_still (Unary.from r) e = refl

  counted_still : (h : Unary) (t : Tree) → counted (only_symbols ss) h t ≡ true → counted (only_symbols (ss ++ (y ∷ []))) h t ≡ true
  counted_still (Unary.application k s) t e = there_still (λ o. asks o (count t)) refl ss s e
  counted_still Unary.minus t e = refl
  counted_still Unary.neg t e = refl
  counted_still Unary.forall t e = refl
  counted_still (Unary.step h) t e = refl
  counted_still Unary.eqrefl t e = refl
  counted_still (Unary.from r) t e = refl

  own_still : (t : Tree) → own_symbol_there ss t ≡ true → own_symbol_there (ss ++ (y ∷ [])) t ≡ true
  own_still (leaf x) e = refl
  own_still (unary h t) e = symbol_still h e
  own_still (binary h t u) e = refl

  full_still : (t : Tree) → full (only_symbols ss) t ≡ true → full (only_symbols (ss ++ (y ∷ []))) t ≡ true
  full_still (leaf x) e = refl
  full_still (unary h t) e = counted_still h t e
  full_still (binary h t u) e = refl

  pub proper_still : (A : Arithmetic) (t : Tree) → proper A ss t ≡ true → proper A (ss ++ (y ∷ [])) t ≡ true
  proper_still A t e =
      each_so (passes_by_head A ss) (passes_by_head A (ss ++ (y ∷ []))) (λ u h.
      let p = and_parts (own_symbol_there ss u && full (only_symbols ss) u && literal_admitted A u) (closed_within u) h in
      let q = and_parts (own_symbol_there ss u && full (only_symbols ss) u) (literal_admitted A u) p.0 in
      let r = and_parts (own_symbol_there ss u) (full (only_symbols ss) u) q.0 in
      and_from _ _ (and_from _ _ (and_from _ _ (own_still u r.0) (full_still u r.1)) q.1) p.1) (parts t) e
