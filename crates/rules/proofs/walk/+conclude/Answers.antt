use Rattle.std.proofs.Common.{◌≡◌, ◌+◌, ◌<◌, length, refl, sym, ap, ◌∙◌, subst, arith}
use Rattle.logic.specs.Syntax as syntax
use Rattle.logic.specs.Tree as trees
use Rattle.logic.specs.Tree.{Tree, size, assumptions, leaf, unary, binary}
use Rattle.terms.specs.Heads.{leaf_head, binary_head, two_premises}
use Rattle.terms.specs.Outcome.{count, most, tree}
use Rattle.terms.specs.Outcome as outcome
use Rattle.rules.specs.Hypotheses.{made_at, IndexBelow}
use Rattle.rules.specs.Stack.{stacked}
use Rattle.rules.specs.Building.{chosen}
use Rattle.rules.specs.Walk.{walk, settled, Answers}
use Rattle.model.specs.Refusal.{◌>>=◌}
use mathlib.Core.Option.{Option, some}
use lib.ListN.{get_elem?}
use Rattle.rules.specs.Forms.{form, absurdity, instantiated, replaced, from_two}
use Rattle.rules.proofs.Walking.{stands_later}
use Rattle.rules.proofs.Concluding.{then_settled, then_ruled, then_refused, under_assumption, handed_again, hypothesis_below, front_is_stack, second_again, then_walked, settled_next}
use Rattle.rules.proofs.walk.+conclude.Goals as goal

pub returns-in_ok-x-in-Binary-Absurd-default-default-clause-answers : goal.returns-in_ok-x-in-Binary-Absurd-default-default-clause-answers
returns-in_ok-x-in-Binary-Absurd-default-default-clause-answers t c =
    let T = c.args.terms.now in
    let H = stacked (tree T) c.args.cells.now c.args.depth.now.height in
    let a = c.in_ok-x-in-Binary-Absurd-default-default.ensures.answers in
    let early = c.in-Binary-Absurd-default-default.ensures.earlier in
    let φ = c.in-Binary-Absurd-default-default.formula in
    let means : tree T c.args.proof ≡ binary trees.absurd (tree T c.in-Binary-Absurd-default-default.p) (tree T c.in-Binary-Absurd-default-default.formula) =
    c.in-Binary-Absurd-default-default.ensures.means ∙ ap (λ h. binary (binary_head h) (tree T c.in-Binary-Absurd-default-default.p) (tree T c.in-Binary-Absurd-default-default.formula)) c.in-Binary-Absurd-default-default.field-0-is
    in
    then_ruled T _ _ _ _ (λ ψ. absurdity (form ψ)) φ _ _ _ (omega (arith, early, c.requires.within))
    (ap (λ u. walk (most T) (made_at (tree T) c.args.known.now) H u c.args.at (outcome.trees T)) means) a
    c.from_falsity-decided.ensures.is c.settle-in-Binary-Absurd-default-default.ensures

pub returns-in_ok-x-in-Binary-Eqsub-default-default-clause-answers : goal.returns-in_ok-x-in-Binary-Eqsub-default-default-clause-answers
returns-in_ok-x-in-Binary-Eqsub-default-default-clause-answers t c =
    let T = c.args.terms.now in
    let H = stacked (tree T) c.args.cells.now c.args.depth.now.height in
    let a = c.in_ok-x-in-Binary-Eqsub-default-default.ensures.answers in
    let early = c.in-Binary-Eqsub-default-default.ensures.earlier in
    let φ = c.in-Binary-Eqsub-default-default.formula in
    let means : tree T c.args.proof ≡ binary trees.eqsub (tree T c.in-Binary-Eqsub-default-default.p) (tree T c.in-Binary-Eqsub-default-default.formula) =
    c.in-Binary-Eqsub-default-default.ensures.means ∙ ap (λ h. binary (binary_head h) (tree T c.in-Binary-Eqsub-default-default.p) (tree T c.in-Binary-Eqsub-default-default.formula)) c.in-Binary-Eqsub-default-default.field-0-is
    in
    then_ruled T _ _ _ _ (λ ψ. replaced (form ψ)) φ _ _ _ (omega (arith, early, c.requires.within))
    (ap (λ u. walk (most T) (made_at (tree T) c.args.known.now) H u c.args.at (outcome.trees T)) means) a
    c.from_equation-decided.ensures.is c.settle-in-Binary-Eqsub-default-default.ensures

pub returns-in_ok-x-in-Binary-Inst-default-default-clause-answers : goal.returns-in_ok-x-in-Binary-Inst-default-default-clause-answers
returns-in_ok-x-in-Binary-Inst-default-default-clause-answers t c =
    let T = c.args.terms.now in
    let H = stacked (tree T) c.args.cells.now c.args.depth.now.height in
    let a = c.in_ok-x-in-Binary-Inst-default-default.ensures.answers in
    let early = c.in-Binary-Inst-default-default.ensures.earlier in
    let φ = c.in-Binary-Inst-default-default.thing in
    let means : tree T c.args.proof ≡ binary trees.inst (tree T c.in-Binary-Inst-default-default.thing) (tree T c.in-Binary-Inst-default-default.p) =
    c.in-Binary-Inst-default-default.ensures.means ∙ ap (λ h. binary (binary_head h) (tree T c.in-Binary-Inst-default-default.thing) (tree T c.in-Binary-Inst-default-default.p)) c.in-Binary-Inst-default-default.field-0-is
    in
    then_ruled T _ _ _ _ (λ ψ. instantiated (form ψ)) φ _ _ _ (omega (arith, early, c.requires.within))
    (ap (λ u. walk (most T) (made_at (tree T) c.args.known.now) H u c.args.at (outcome.trees T)) means) a
    c.from_all-decided.ensures.is c.settle-in-Binary-Inst-default-default.ensures

pub settle-requires-clause-choosable : goal.settle-requires-clause-choosable
settle-requires-clause-choosable t c =
    let s = c.args.cells.now in
    let h = c.args.depth.now.height in
    c.standing-decided.ensures.below (tree c.args.terms.now) (count c.args.terms.now)
    (hypothesis_below s h c.in-Leaf-Hyp.i _ _ (λ f. c.hypothesis.ensures f ∙ ap (λ l. get_elem? l c.in-Leaf-Hyp.i) (front_is_stack f s h (omega (arith, c.requires.deep)))) c.requires.handed.cells_below)

pub settle-requires-in-Leaf-Known-clause-choosable : goal.settle-requires-in-Leaf-Known-clause-choosable
settle-requires-in-Leaf-Known-clause-choosable t c =
    let n = count c.args.terms.now in
    c.standing.ensures.below (tree c.args.terms.now) n (subst (IndexBelow n) (sym c.made.ensures) (c.requires.handed.known_below c.in-Leaf-Known.k))

pub returns-in-Leaf-Hyp-clause-answers : goal.returns-in-Leaf-Hyp-clause-answers
returns-in-Leaf-Hyp-clause-answers t c =
    let T = c.args.terms.now in
    let s = c.args.cells.now in
    let h = c.args.depth.now.height in
    let i = c.in-Leaf-Hyp.i in
    let means : tree T c.args.proof ≡ leaf (trees.hyp i) = c.in-Leaf-Hyp.ensures.means ∙ ap (λ x. leaf (leaf_head x)) c.in-Leaf-Hyp.field-0-is in
    let read = c.standing-decided.ensures.is (tree T) ∙ c.hypothesis.ensures (tree T) ∙ ap (λ l. get_elem? l i) (front_is_stack (tree T) s h (omega (arith, c.requires.deep))) in
    subst (λ o. Answers T c.settle.new.terms o c.settle.result)
    (ap (settled (most T) c.args.at (outcome.trees T)) read ∙ sym (ap (λ u. walk (most T) (made_at (tree T) c.args.known.now) (stacked (tree T) s h) u c.args.at (outcome.trees T)) means))
    c.settle.ensures

pub returns-in_ok-x-in-Binary-Assume-default-default-clause-answers : goal.returns-in_ok-x-in-Binary-Assume-default-default-clause-answers
returns-in_ok-x-in-Binary-Assume-default-default-clause-answers t c =
    let T = c.args.terms.now in
    let M = made_at (tree T) c.args.known.now in
    let s = c.args.cells.now in
    let h = c.args.depth.now.height in
    let a = c.in_ok-x-in-Binary-Assume-default-default.ensures.answers in
    let early = c.in-Binary-Assume-default-default.ensures.earlier in
    let φ = c.in-Binary-Assume-default-default.formula in
    let p = c.in-Binary-Assume-default-default.p in
    let means : tree T c.args.proof ≡ binary trees.assume (tree T φ) (tree T p) =
    c.in-Binary-Assume-default-default.ensures.means ∙ ap (λ h. binary (binary_head h) (tree T φ) (tree T p)) c.in-Binary-Assume-default-default.field-0-is
    in
    let there : h < length s = omega (arith, c.requires.deep, ap assumptions means) in
    then_ruled T _ _ _ _ (λ ψ f. some (binary (trees.connect syntax.implication) f ψ)) φ _ _ _ (omega (arith, early, c.requires.within))
    (ap (λ u. walk (most T) M (stacked (tree T) s h) u c.args.at (outcome.trees T)) means ∙ under_assumption T M s h φ (most T) c.args.at (tree T p) (outcome.trees T) there)
    a refl c.settle-in-Binary-Assume-default-default.ensures

pub returns-in_err-x-in-Binary-Assume-default-default-clause-answers : goal.returns-in_err-x-in-Binary-Assume-default-default-clause-answers
returns-in_err-x-in-Binary-Assume-default-default-clause-answers t c =
    let T = c.args.terms.now in
    let M = made_at (tree T) c.args.known.now in
    let s = c.args.cells.now in
    let h = c.args.depth.now.height in
    let φ = c.in-Binary-Assume-default-default.formula in
    let p = c.in-Binary-Assume-default-default.p in
    let means : tree T c.args.proof ≡ binary trees.assume (tree T φ) (tree T p) =
    c.in-Binary-Assume-default-default.ensures.means ∙ ap (λ h. binary (binary_head h) (tree T φ) (tree T p)) c.in-Binary-Assume-default-default.field-0-is
    in
    let there : h < length s = omega (arith, c.requires.deep, ap assumptions means) in
    then_refused T _ _ _ (λ f. settled (most T) f.next f.terms (some (binary (trees.connect syntax.implication) (tree T φ) f.formula))) _ _
    (ap (λ u. walk (most T) M (stacked (tree T) s h) u c.args.at (outcome.trees T)) means ∙ under_assumption T M s h φ (most T) c.args.at (tree T p) (outcome.trees T) there)
    c.in_err-x-in-Binary-Assume-default-default.ensures.answers c.from_residual-in_err-x-in-Binary-Assume-default-default.ensures.1

pub settle-requires-in-Binary-FromBoth-default-default-clause-fits : goal.settle-requires-in-Binary-FromBoth-default-default-clause-fits
settle-requires-in-Binary-FromBoth-default-default-clause-fits t c =
    let T = c.args.terms.now in
    let U = c.conclude-in-Binary-FromBoth-default-default.new.terms in
    let p = c.in-Binary-FromBoth-default-default.p in
    let q = c.in-Binary-FromBoth-default-default.q in
    let a = c.in_ok-x-in-Binary-FromBoth-default-default.ensures in
    let b = c.in_ok-y-in-Binary-FromBoth-default-default.ensures in
    let early = c.in-Binary-FromBoth-default-default.ensures.earlier in
    let same = (stands_later T U a.answers.front q (omega (arith, early, c.requires.within))).0 in
    omega (arith, a.next, b.next, ap size same, ap size c.in-Binary-FromBoth-default-default.ensures.means, c.requires.fits)

pub returns-in_ok-y-in-Binary-FromBoth-default-default-clause-next : goal.returns-in_ok-y-in-Binary-FromBoth-default-default-clause-next
returns-in_ok-y-in-Binary-FromBoth-default-default-clause-next t c =
    let T = c.args.terms.now in
    let U = c.conclude-in-Binary-FromBoth-default-default.new.terms in
    let V = c.conclude-in-Binary-FromBoth-default-default-2.new.terms in
    let q = c.in-Binary-FromBoth-default-default.q in
    let a = c.in_ok-x-in-Binary-FromBoth-default-default.ensures in
    let b = c.in_ok-y-in-Binary-FromBoth-default-default.ensures in
    let early = c.in-Binary-FromBoth-default-default.ensures.earlier in
    let same = (stands_later T U a.answers.front q (omega (arith, early, c.requires.within))).0 in
    settled_next c.settle-in-Binary-FromBoth-default-default.new.terms (most V) c.in_ok-y-in-Binary-FromBoth-default-default.y.next (outcome.trees V) (chosen (tree V) c.from_two-decided.result) _ (c.args.at + size (tree T c.args.proof)) c.settle-in-Binary-FromBoth-default-default.ensures.outcome (omega (arith, a.next, b.next, ap size same, ap size c.in-Binary-FromBoth-default-default.ensures.means))

pub conclude-requires-in-Binary-FromBoth-default-default-2 : goal.conclude-requires-in-Binary-FromBoth-default-default-2
conclude-requires-in-Binary-FromBoth-default-default-2 t c =
    let T = c.args.terms.now in
    let U = c.conclude-in-Binary-FromBoth-default-default.new.terms in
    let q = c.in-Binary-FromBoth-default-default.q in
    let a = c.in_ok-x-in-Binary-FromBoth-default-default.ensures in
    let early = c.in-Binary-FromBoth-default-default.ensures.earlier in
    let later = stands_later T U a.answers.front q (omega (arith, early, c.requires.within)) in
    let s = ap size later.0 in
    let m = ap size c.in-Binary-FromBoth-default-default.ensures.means in
    let d = ap assumptions (c.in-Binary-FromBoth-default-default.ensures.means ∙ ap (λ h. binary (binary_head h) (tree T c.in-Binary-FromBoth-default-default.p) (tree T q)) c.in-Binary-FromBoth-default-default.field-0-is) in (
      omega (arith, s, m, c.decreases),
      (
        later.1,
        (
          handed_again c.args.known.now c.args.cells.now c.conclude-in-Binary-FromBoth-default-default.new.cells c.args.depth.now.height _ a.height a.stack T U a.answers.front c.requires.handed,
          (omega (arith, a.height, a.stack.same_length, ap assumptions later.0, d, c.requires.deep), omega (arith, a.next, s, m, c.requires.fits)),
        ),
      ),
    )

pub returns-in_ok-y-in-Binary-FromBoth-default-default-clause-answers : goal.returns-in_ok-y-in-Binary-FromBoth-default-default-clause-answers
returns-in_ok-y-in-Binary-FromBoth-default-default-clause-answers t c =
    let T = c.args.terms.now in
    let U = c.conclude-in-Binary-FromBoth-default-default.new.terms in
    let V = c.conclude-in-Binary-FromBoth-default-default-2.new.terms in
    let M = made_at (tree T) c.args.known.now in
    let s = c.args.cells.now in
    let h = c.args.depth.now.height in
    let p = c.in-Binary-FromBoth-default-default.p in
    let q = c.in-Binary-FromBoth-default-default.q in
    let x = c.in_ok-x-in-Binary-FromBoth-default-default.x in
    let y = c.in_ok-y-in-Binary-FromBoth-default-default.y in
    let a = c.in_ok-x-in-Binary-FromBoth-default-default.ensures in
    let b = c.in_ok-y-in-Binary-FromBoth-default-default.ensures in
    let r = two_premises c.in-Binary-FromBoth-default-default.rule in
    let early = c.in-Binary-FromBoth-default-default.ensures.earlier in
    let means : tree T c.args.proof ≡ binary (trees.from_both r) (tree T p) (tree T q) =
    c.in-Binary-FromBoth-default-default.ensures.means ∙ ap (λ h. binary (binary_head h) (tree T p) (tree T q)) c.in-Binary-FromBoth-default-default.field-0-is
    in
    let first = (stands_later U V b.answers.front x.formula a.answers.within).0 in
    let rule : Tree → Option Tree = λ ψ. from_two r (tree U x.formula) ψ in
    then_walked T U _ _ _ _ (λ f. walk (most T) M (stacked (tree T) s h) (tree T q) f.next f.terms >>= λ g. settled (most T) g.next g.terms (from_two r f.formula g.formula)) x _
    (ap (λ u. walk (most T) M (stacked (tree T) s h) u c.args.at (outcome.trees T)) means) a.answers
    (second_again c.args.known.now s c.conclude-in-Binary-FromBoth-default-default.new.cells h _ a.height a.stack T U a.answers.front c.requires.handed a.answers.same_room rule x.next q (outcome.trees U) (omega (arith, early, c.requires.within)))
    (then_settled U V _ _ _ rule y _ _ refl b.answers (c.from_two-decided.ensures.is ∙ ap (λ φ. from_two r φ (tree V y.formula)) first) c.settle-in-Binary-FromBoth-default-default.ensures)

pub returns-in_err-y-in-Binary-FromBoth-default-default-clause-answers : goal.returns-in_err-y-in-Binary-FromBoth-default-default-clause-answers
returns-in_err-y-in-Binary-FromBoth-default-default-clause-answers t c =
    let T = c.args.terms.now in
    let U = c.conclude-in-Binary-FromBoth-default-default.new.terms in
    let V = c.conclude-in-Binary-FromBoth-default-default-2.new.terms in
    let M = made_at (tree T) c.args.known.now in
    let s = c.args.cells.now in
    let h = c.args.depth.now.height in
    let p = c.in-Binary-FromBoth-default-default.p in
    let q = c.in-Binary-FromBoth-default-default.q in
    let x = c.in_ok-x-in-Binary-FromBoth-default-default.x in
    let a = c.in_ok-x-in-Binary-FromBoth-default-default.ensures in
    let r = two_premises c.in-Binary-FromBoth-default-default.rule in
    let early = c.in-Binary-FromBoth-default-default.ensures.earlier in
    let means : tree T c.args.proof ≡ binary (trees.from_both r) (tree T p) (tree T q) =
    c.in-Binary-FromBoth-default-default.ensures.means ∙ ap (λ h. binary (binary_head h) (tree T p) (tree T q)) c.in-Binary-FromBoth-default-default.field-0-is
    in
    let rule : Tree → Option Tree = λ ψ. from_two r (tree U x.formula) ψ in
    then_walked T U _ _ _ _ (λ f. walk (most T) M (stacked (tree T) s h) (tree T q) f.next f.terms >>= λ g. settled (most T) g.next g.terms (from_two r f.formula g.formula)) x _
    (ap (λ u. walk (most T) M (stacked (tree T) s h) u c.args.at (outcome.trees T)) means) a.answers
    (second_again c.args.known.now s c.conclude-in-Binary-FromBoth-default-default.new.cells h _ a.height a.stack T U a.answers.front c.requires.handed a.answers.same_room rule x.next q (outcome.trees U) (omega (arith, early, c.requires.within)))
    (then_refused U V _ _ (λ g. settled (most U) g.next g.terms (rule g.formula)) _ _ refl c.in_err-y-in-Binary-FromBoth-default-default.ensures.answers c.from_residual-in_err-y-in-Binary-FromBoth-default-default.ensures.1)
