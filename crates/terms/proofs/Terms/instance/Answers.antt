use Rattle.std.proofs.Common.{subst}
use Rattle.terms.specs.Outcome.{tree, Did}
use Rattle.terms.proofs.Putting.{instance_is}
use Rattle.terms.proofs.Terms.instance.Goals as goal

pub returns : goal.returns
returns c =
    let T = c.args.self.now in
    subst (λ x. Did T c.substitute.new.self x c.substitute.result) (instance_is (tree T c.args.thing) (tree T c.args.term)) c.substitute.ensures
