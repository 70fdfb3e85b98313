use Rattle.std.proofs.Common.{sym, ap, ◌∙◌, arith}
use Rattle.logic.specs.Tree.{size, raise_tree}
use Rattle.terms.proofs.Outcomes.{did_stay, one_did, one_broke, one_small, two_did, left_broke, right_broke, two_small, still_within, second_means}
use Rattle.terms.proofs.Raising.{raise_closed, raised_small, raised_two, second_fits}
use Rattle.terms.proofs.Terms.+raise.Goals as goal

pub returns-then-indices-eq0 : goal.returns-then-indices-eq0
returns-then-indices-eq0 t c =
    did_stay c.args.self.now _ _ c.requires.within (sym (raise_closed _ _ c.requires.unbound (sym c.indices.ensures ∙ c.if-indices-eq0.true)))

pub returns-in_err-a-in-Unary : goal.returns-in_err-a-in-Unary
returns-in_err-a-in-Unary t c =
    one_broke _ _ _ (ap (raise_tree c.args.by) c.in-Unary.ensures.means) _ _ _ _ c.in_err-a-in-Unary.ensures c.from_residual.ensures.0

pub unary-requires : goal.unary-requires
unary-requires t c =
    let d = c.in_ok-a-in-Unary.ensures in
    record {
      within = d.outcome.within;
      small = one_small _ _ _ (ap (raise_tree c.args.by) c.in-Unary.ensures.means) (raised_small _ _ (c.args.self.now.sound.small _ c.requires.within)) _ _ _ d;
    }

pub returns-in_ok-a-in-Unary : goal.returns-in_ok-a-in-Unary
returns-in_ok-a-in-Unary t c =
    one_did _ _ _ (ap (raise_tree c.args.by) c.in-Unary.ensures.means) _ _ _ _ _ c.in_ok-a-in-Unary.ensures c.unary.ensures

pub returns-in_err-a-in-Binary : goal.returns-in_err-a-in-Binary
returns-in_err-a-in-Binary t c =
    left_broke _ _ _ _ (ap (raise_tree c.args.by) c.in-Binary.ensures.means) _ _ _ _ c.in_err-a-in-Binary.ensures c.from_residual-in_err-a-in-Binary.ensures.0

pub raise-requires-in-Binary-2 : goal.raise-requires-in-Binary-2
raise-requires-in-Binary-2 t c =
    let d = c.in_ok-a-in-Binary.ensures in
    let is = c.in-Binary.ensures.means in
    let early = c.in-Binary.ensures.earlier in
    let s = second_means _ _ _ _ d _ _ _ early c.requires.within in (
      omega (arith, ap size s, ap size is, c.decreases),
      (still_within _ _ _ _ d _ (omega (arith, c.requires.within)), second_fits _ _ _ _ d _ _ _ _ is early c.requires.within _ c.requires.unbound c.requires.fits),
    )

pub returns-in_err-b-in-Binary : goal.returns-in_err-b-in-Binary
returns-in_err-b-in-Binary t c =
    let d = c.in_ok-a-in-Binary.ensures in
    right_broke _ _ _ _ (raised_two _ _ _ _ d _ _ _ _ c.in-Binary.ensures.means c.in-Binary.ensures.earlier c.requires.within _) _ _ _ _ _ _ d c.in_err-b-in-Binary.ensures c.from_residual-in_err-b-in-Binary.ensures.0

pub binary-requires : goal.binary-requires
binary-requires t c =
    let d = c.in_ok-a-in-Binary.ensures in
    let k = c.in_ok-b-in-Binary.ensures in
    record {
      left = still_within _ _ _ _ k _ d.outcome.within;
      right = k.outcome.within;
      small = two_small _ _ _ _ (raised_two _ _ _ _ d _ _ _ _ c.in-Binary.ensures.means c.in-Binary.ensures.earlier c.requires.within _) (raised_small _ _ (c.args.self.now.sound.small _ c.requires.within)) _ _ _ _ _ d k;
    }

pub returns-in_ok-b-in-Binary : goal.returns-in_ok-b-in-Binary
returns-in_ok-b-in-Binary t c =
    let d = c.in_ok-a-in-Binary.ensures in
    two_did _ _ _ _ (raised_two _ _ _ _ d _ _ _ _ c.in-Binary.ensures.means c.in-Binary.ensures.earlier c.requires.within _) _ _ _ _ _ _ _ d c.in_ok-b-in-Binary.ensures c.binary.ensures
