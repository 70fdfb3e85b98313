use Rattle.std.proofs.Common.{ap, ◌∙◌, arith}
use Rattle.logic.specs.Tree.{put_size}
use Rattle.logic.proofs.Trees.{put_tree_size}
use Rattle.terms.specs.Outcome.{tree}
use Rattle.rules.proofs.Instances.{few_foralls, instance_bounded}
use Rattle.rules.proofs.draft.PutDraft.size.Goals as goal

pub size_after-requires-clause-fits : goal.size_after-requires-clause-fits
size_after-requires-clause-fits c = omega (arith, few_foralls c.args.terms.now c.args.self.now.term c.requires.operands.0)

pub returns : goal.returns
returns c =
    let T = c.args.terms.now in
    let d = c.args.self.now in
    let e = c.size_after.ensures ∙ ap (λ n. put_size 0 n (tree T d.term)) c.size.ensures.exact in
    omega (arith, e, put_tree_size 0 (tree T d.thing) (tree T d.term), instance_bounded T d.term d.thing c.requires.operands.0 c.requires.operands.1)
