use Rattle.std.proofs.Common.{arith}
use Rattle.logic.proofs.Trees.{put_tree_foralls}
use Rattle.terms.specs.Outcome.{tree}
use Rattle.rules.proofs.Instances.{closed_thing_is, few_foralls}
use Rattle.rules.proofs.draft.PutDraft.nesting.Goals as goal

pub returns : goal.returns
returns c =
    let T = c.args.terms.now in
    let d = c.args.self.now in
    let same = put_tree_foralls 0 (tree T d.thing) (tree T d.term) (closed_thing_is (tree T d.thing) c.requires.operands.2).1 in
    omega (arith, c.foralls.ensures, same, few_foralls T d.term c.requires.operands.0)
