-- The arms of the walk over a proof: a sub-proof's answer, and then what is settled over it.
use Rattle.std.proofs.Common.{◌≡◌, ℕ, zero, suc, Bool, true, false, ◌+◌, ◌-◌, ◌^◌, ◌<◌, ◌≤◌, min, List, ◌∷◌, length, get_or, set, take, Ok, Err, Result, sym, ap, ◌∙◌, subst, arith}
use Rattle.std.specs.Result.{IsErrAnd, IfOk}
use Rattle.std.specs.Prelude.{nat_le}
use Rattle.std.proofs.lemmas.Result.{err_from_is_err_and}
use mathlib.Core.Option.{Option, none, some}
use lib.ListN.{get_elem?}
use Rattle.std.proofs.lemmas.List.{length-take, get_or-take}
use Rattle.std.specs.declared.option.Option as std
use Rattle.logic.specs.Syntax.{implication}
use Rattle.logic.specs.Tree.{Tree, leaf, var, binary, assume, connect, parts}
use Rattle.logic.specs.Keeping.{keep_each}
use Rattle.rules.specs.Forms.{small}
use Rattle.model.specs.Refusal.{Outcome, done, refused, oversized, crowded, require_at, ◌>>=◌, ◌>>◌}
use Rattle.terms.specs.declared.Terms.{Terms}
use Rattle.terms.specs.Outcome.{entries, count, room, most, trees, tree}
use Rattle.rules.specs.declared.conclusions.Concluded.{Concluded}
use Rattle.rules.specs.declared.refusal.Refused.{Refused}
use Rattle.rules.specs.Hypotheses.{made_at, IndexBelow, Handed, StackKept}
use Rattle.rules.specs.Stack.{stacked, named}
use Rattle.rules.specs.Walk.{Found, settled, walk, answered, Answers}
use Rattle.rules.proofs.Handing.{handed_later, made_later, stacked_later}
use Rattle.rules.proofs.Stacks.{stacked_alike, stacked_push}
use Rattle.rules.proofs.Walking.{no_shorter, found, stands_later, answers_then, answers_break}

pub most_same : (old new : Terms) → room new ≡ room old → most new ≡ most old
most_same old new e = ap (λ n. min n (2 ^ 32 - 1)) e

-- a sub-proof concluded, and the rule's conclusion was settled
pub then_settled :
    (t0 t1 t2 : Terms) (o whole : Outcome Found) (rule : Tree → Option Tree) (x : Concluded) (d : Option Tree) (r : Result Concluded Refused)
    → whole ≡ (o >>= λ f. settled (most t0) f.next f.terms (rule f.formula)) → Answers t0 t1 o (Ok x) → d ≡ rule (tree t1 x.formula)
    → Answers t1 t2 (settled (most t1) x.next (trees t1) d) r → Answers t0 t2 whole r
then_settled t0 t1 t2 o whole rule x d r w a e s =
    subst (λ z. Answers t0 t2 z r) (sym w)
    (answers_then t0 t1 t2 o (λ f. settled (most t0) f.next f.terms (rule f.formula)) x r a
    (subst (λ m. Answers t1 t2 (settled m x.next (trees t1) (rule (tree t1 x.formula))) r) (most_same t0 t1 a.same_room)
    (subst (λ v. Answers t1 t2 (settled (most t1) x.next (trees t1) v) r) e s)))

-- a rule over the sub-proof's formula and over a term, read from the table that the sub-proof left
pub then_ruled :
    (t0 t1 t2 : Terms) (o whole : Outcome Found) (rule : Tree → Tree → Option Tree) (i : ℕ) (x : Concluded) (d : Option Tree) (r : Result Concluded Refused)
    → i < count t0 → whole ≡ (o >>= λ f. settled (most t0) f.next f.terms (rule f.formula (tree t0 i))) → Answers t0 t1 o (Ok x) → d ≡ rule (tree t1 x.formula) (tree t1 i)
    → Answers t1 t2 (settled (most t1) x.next (trees t1) d) r → Answers t0 t2 whole r
then_ruled t0 t1 t2 o whole rule i x d r l w a e s = then_settled t0 t1 t2 o whole (λ φ. rule φ (tree t0 i)) x d r w a (e ∙ ap (rule (tree t1 x.formula)) (stands_later t0 t1 a.front i l).0) s

-- a sub-proof was refused
pub then_refused :
    (t0 t1 : Terms) (o whole : Outcome Found) (k : Found → Outcome Found) (e : Refused) (r : Result Concluded Refused)
    → whole ≡ (o >>= k) → Answers t0 t1 o (Err e) → IsErrAnd r (λ d. d ≡ e) → Answers t0 t1 whole r
then_refused t0 t1 o whole k e r w a i =
    let b = err_from_is_err_and r i in
    subst (Answers t0 t1 whole) (sym (b.1 ∙ ap Err b.2)) (subst (λ z. Answers t0 t1 z (Err e)) (sym w) (answers_break t0 t1 t1 o k e a))

-- a hypothesis put on the stack is the newest
pushed : (T : Terms) (cells : List ℕ) (height x : ℕ) → height < length cells → stacked (tree T) (set cells height x) (height + 1) ≡ tree T x ∷ stacked (tree T) cells height
pushed T cells height x l = let e : height + 1 ≡ suc height = omega arith in ap (stacked (tree T) (set cells height x)) e ∙ stacked_push (tree T) cells height x l

-- so the proof under an assumption is walked over the stack with the assumption put on it
pub under_assumption :
    (T : Terms) (f : ℕ → Option Tree) (cells : List ℕ) (height x n at : ℕ) (p : Tree) (ts : List Tree) → height < length cells
    → walk n f (stacked (tree T) cells height) (binary assume (tree T x) p) at ts
    ≡ (walk n f (stacked (tree T) (set cells height x) (height + 1)) p at ts >>= λ y. settled n y.next y.terms (some (binary (connect implication) (tree T x) y.formula)))
under_assumption T f cells height x n at p ts l = ap (λ s. walk n f s p at ts >>= λ y. settled n y.next y.terms (some (binary (connect implication) (tree T x) y.formula))) (sym (pushed T cells height x l))

-- the walk over a second premise depends on the limit, the knowns, the stack and the premise only
second_alike :
    (rule : Tree → Option Tree) (next : ℕ) (ts : List Tree) (m n : ℕ) (f g : ℕ → Option Tree) (H K : List Tree) (t u : Tree) → m ≡ n → f ≡ g → H ≡ K → t ≡ u
    → (walk m f H t next ts >>= λ y. settled m y.next y.terms (rule y.formula)) ≡ (walk n g K u next ts >>= λ y. settled n y.next y.terms (rule y.formula))
second_alike rule next ts m n f g H K t u a b d e =
    ap (λ i. walk i f H t next ts >>= λ y. settled i y.next y.terms (rule y.formula)) a
    ∙ ap (λ h. walk n h H t next ts >>= λ y. settled n y.next y.terms (rule y.formula)) b
    ∙ ap (λ L. walk n g L t next ts >>= λ y. settled n y.next y.terms (rule y.formula)) d
    ∙ ap (λ v. walk n g K v next ts >>= λ y. settled n y.next y.terms (rule y.formula)) e

module _ (known : List (std.Option ℕ)) (cells again : List ℕ) (height high : ℕ) (same : high ≡ height) (kept : StackKept cells again height) where
  module _ (old new : Terms) (front : take (count old) (entries new) ≡ entries old) (h : Handed (count old) known cells height) where
    -- after a sub-proof, what is known and what is on the stack are handed on
    pub handed_again : Handed (count new) known again high
    handed_again =
        let later = handed_later known cells height (count old) (count new) (no_shorter old new front) h in
        record {
          known_below = later.known_below;
          cells_below = λ j l. let m : j < height = omega (arith, l, same) in omega (arith, kept.same_below j m, later.cells_below j m);
        }

    -- and mean what they did
    pub stacked_again : stacked (tree new) again high ≡ stacked (tree old) cells height
    stacked_again =
        ap (stacked (tree new) again) same
        ∙ stacked_alike (tree new) (tree new) again cells height (λ j l. ap (tree new) (kept.same_below j l))
        ∙ stacked_later known cells height old new front h

    -- so the second premise, over the table that the first left, reads as over the one before
    pub second_again :
        room new ≡ room old → (rule : Tree → Option Tree) (next q : ℕ) (ts : List Tree) → q < count old
        → (walk (most new) (made_at (tree new) known) (stacked (tree new) again high) (tree new q) next ts >>= λ y. settled (most new) y.next y.terms (rule y.formula))
        ≡ (walk (most old) (made_at (tree old) known) (stacked (tree old) cells height) (tree old q) next ts >>= λ y. settled (most old) y.next y.terms (rule y.formula))
    second_again e rule next q ts l =
        second_alike rule next ts (most new) (most old) (made_at (tree new) known) (made_at (tree old) known) _ _ (tree new q) (tree old q) (most_same old new e) (made_later known cells height old new front h) stacked_again (stands_later old new front q l).0

-- ---- a hypothesis that is read

-- what stands on the stack is at one of its cells
stacked_at : (f : ℕ → Tree) (s : List ℕ) (h k : ℕ) (t : Tree) → get_elem? (stacked f s h) k ≡ some t → (j : ℕ) × (j < h) × (f (get_or s j 0) ≡ t)
stacked_at f s zero k t e = absurd (cc)
stacked_at f s (suc h) zero t e = (h, omega arith, cc)
stacked_at f s (suc h) (suc k) t e = let r = stacked_at f s h k t e in (r.0, omega (arith, r.1), r.2)

-- so a hypothesis that reads the same under every meaning of the cells is one of them
pub hypothesis_below :
    (s : List ℕ) (h k n : ℕ) (o : std.Option ℕ) → ((f : ℕ → Tree) → named f o ≡ get_elem? (stacked f s h) k) → ((j : ℕ) → j < h → get_or s j 0 < n) → IndexBelow n o
hypothesis_below s h k n std.TheVariants.None is b = tt
hypothesis_below s h k n (std.TheVariants.Some i) is b =
    let r = stacked_at (λ j. leaf (var j)) s h k (leaf (var i)) (sym (is (λ j. leaf (var j)))) in
    let cell : get_or s r.0 0 ≡ i = cc in
    omega (arith, cell, b r.0 r.1)

-- the front of the cells, as high as the stack is, is the stack
pub front_is_stack : (f : ℕ → Tree) (s : List ℕ) (h : ℕ) → h ≤ length s → stacked f (take h s) (length (take h s)) ≡ stacked f s h
front_is_stack f s h l =
    let n : length (take h s) ≡ h = omega (arith, length-take h s) in
    ap (stacked f (take h s)) n ∙ stacked_alike f f (take h s) s h (λ j m. ap f (get_or-take h s j 0 (omega (arith, m))))

-- ---- a rule of two premises

-- after the first premise the walk goes on
pub then_walked :
    (t0 t1 t2 : Terms) (o whole v : Outcome Found) (k : Found → Outcome Found) (x : Concluded) (r : Result Concluded Refused)
    → whole ≡ (o >>= k) → Answers t0 t1 o (Ok x) → v ≡ k (found t1 x) → Answers t1 t2 v r → Answers t0 t2 whole r
then_walked t0 t1 t2 o whole v k x r w a e s = subst (λ z. Answers t0 t2 z r) (sym w) (answers_then t0 t1 t2 o k x r a (subst (λ z. Answers t1 t2 z r) e s))

-- ---- positions

abbrev next_of : Outcome Found → ℕ
next_of (done f) = f.next
next_of (refused e at) = 0

-- the position after what was settled is the next
pub settled_next :
    (T : Terms) (n at : ℕ) (ts : List Tree) (o : Option Tree) (r : Result Concluded Refused) (m : ℕ) → answered T r ≡ settled n at ts o → at + 1 ≤ m → IfOk r (λ f. f.next ≤ m)
settled_next T n at ts o (Err d) m e l = tt
settled_next T n at ts none (Ok f) m e l = cc
settled_next T n at ts (some c) (Ok f) m e l = step (small c) (nat_le (length (keep_each ts (parts c))) n) e
  where
    next : Found
    next = record { next = suc at; terms = keep_each ts (parts c); formula = c }

    step : (b d : Bool) → done (found T f) ≡ (require_at at oversized b >> require_at at crowded d >> done next) → f.next ≤ m
    step true true e = let q : f.next ≡ suc at = ap next_of e in omega (arith, q, l)
    step true false e = cc
    step false d e = cc
