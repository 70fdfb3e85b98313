use Rattle.std.proofs.Common.{sym, ap, arith}
use Rattle.logic.specs.Tree.{put_late}
use Rattle.terms.specs.Outcome.{tree}
use Rattle.terms.proofs.Outcomes.{did_stay, one_did, one_broke, one_small, two_did, left_broke, right_broke, two_small, still_within}
use Rattle.terms.proofs.Putting.{put_late_closed, put_late_small, put_one, put_two, second_put, second_smaller}
use Rattle.terms.proofs.Terms.+substitute.Goals as goal

pub returns-then-indices-depth : goal.returns-then-indices-depth
returns-then-indices-depth t c =
    did_stay c.args.self.now _ _ c.requires.within (sym (put_late_closed _ _ _ (omega (arith, c.indices.ensures, c.if-indices-depth.true))))

pub returns-in_err-a-in-Unary : goal.returns-in_err-a-in-Unary
returns-in_err-a-in-Unary t c =
    one_broke _ _ _ (put_one _ _ _ _ _ _ c.in-Unary.ensures.means c.under.ensures) _ _ _ _ c.in_err-a-in-Unary.ensures c.from_residual.ensures.0

pub unary-requires : goal.unary-requires
unary-requires t c =
    let d = c.in_ok-a-in-Unary.ensures in
    record {
      within = d.outcome.within;
      small = one_small _ _ _ (put_one _ _ _ _ _ _ c.in-Unary.ensures.means c.under.ensures) (put_late_small c.args.depth (tree c.args.self.now c.args.thing) (tree c.args.self.now c.args.term) c.requires.small) _ _ _ d;
    }

pub returns-in_ok-a-in-Unary : goal.returns-in_ok-a-in-Unary
returns-in_ok-a-in-Unary t c =
    one_did _ _ _ (put_one _ _ _ _ _ _ c.in-Unary.ensures.means c.under.ensures) _ _ _ _ _ c.in_ok-a-in-Unary.ensures c.unary.ensures

pub returns-in_err-a-in-Binary : goal.returns-in_err-a-in-Binary
returns-in_err-a-in-Binary t c =
    left_broke _ _ _ _ (ap (put_late _ _) c.in-Binary.ensures.means) _ _ _ _ c.in_err-a-in-Binary.ensures c.from_residual-in_err-a-in-Binary.ensures.0

pub substitute-requires-in-Binary-2 : goal.substitute-requires-in-Binary-2
substitute-requires-in-Binary-2 t c =
    let d = c.in_ok-a-in-Binary.ensures in
    let is = c.in-Binary.ensures.means in
    let early = c.in-Binary.ensures.earlier in
    let there = c.requires.thing in (
      omega (arith, second_smaller _ _ _ _ d _ _ _ _ is early c.requires.within _ there, c.decreases),
      (
        still_within _ _ _ _ d _ (omega (arith, c.requires.within)),
        (
          still_within _ _ _ _ d _ there,
          second_put _ _ _ _ d _ _ _ _ is early c.requires.within _ there _ c.requires.unbound c.requires.fits c.requires.small,
        ),
      ),
    )

pub returns-in_err-b-in-Binary : goal.returns-in_err-b-in-Binary
returns-in_err-b-in-Binary t c =
    let d = c.in_ok-a-in-Binary.ensures in
    right_broke _ _ _ _ (put_two _ _ _ _ d _ _ _ _ c.in-Binary.ensures.means c.in-Binary.ensures.earlier c.requires.within _ c.requires.thing _) _ _ _ _ _ _ d c.in_err-b-in-Binary.ensures c.from_residual-in_err-b-in-Binary.ensures.0

pub binary-requires : goal.binary-requires
binary-requires t c =
    let d = c.in_ok-a-in-Binary.ensures in
    let k = c.in_ok-b-in-Binary.ensures in
    record {
      left = still_within _ _ _ _ k _ d.outcome.within;
      right = k.outcome.within;
      small = two_small _ _ _ _ (put_two _ _ _ _ d _ _ _ _ c.in-Binary.ensures.means c.in-Binary.ensures.earlier c.requires.within _ c.requires.thing _) (put_late_small c.args.depth (tree c.args.self.now c.args.thing) (tree c.args.self.now c.args.term) c.requires.small) _ _ _ _ _ d k;
    }

pub returns-in_ok-b-in-Binary : goal.returns-in_ok-b-in-Binary
returns-in_ok-b-in-Binary t c =
    let d = c.in_ok-a-in-Binary.ensures in
    two_did _ _ _ _ (put_two _ _ _ _ d _ _ _ _ c.in-Binary.ensures.means c.in-Binary.ensures.earlier c.requires.within _ c.requires.thing _) _ _ _ _ _ _ _ d c.in_ok-b-in-Binary.ensures c.binary.ensures
