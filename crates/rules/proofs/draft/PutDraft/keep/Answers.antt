use Rattle.std.proofs.Common.{arith}
use Rattle.logic.proofs.Trees.{put_tree_size}
use Rattle.terms.specs.Outcome.{tree}
use Rattle.rules.proofs.Instances.{closed_thing_is, few_foralls}
use Rattle.rules.proofs.draft.PutDraft.keep.Goals as goal

pub instance-requires-clause-fits : goal.instance-requires-clause-fits
instance-requires-clause-fits c =
    let T = c.args.terms.now in
    let d = c.args.self in
    omega (arith, (closed_thing_is (tree T d.thing) c.requires.operands.2).0, few_foralls T d.term c.requires.operands.0)

pub instance-requires-clause-small : goal.instance-requires-clause-small
instance-requires-clause-small c =
    let T = c.args.terms.now in
    omega (arith, c.requires.small, put_tree_size 0 (tree T c.args.self.thing) (tree T c.args.self.term))
