use Rattle.std.proofs.Common.{length, sym, ap, subst, arith}
use Rattle.std.proofs.lemmas.List.{length-take}
use Rattle.table.specs.Contents.{kept}
use Rattle.terms.specs.Meaning.{Sound}
use Rattle.terms.proofs.Forgetting.{sound_take, forgotten_trees}
use Rattle.terms.proofs.Terms.truncate.Goals as goal

pub invariant_of-self : goal.invariant_of-self
invariant_of-self c =
    let T = c.args.self.now in
    let es = kept T.table in
    let k = c.truncate.ensures.kept in
    record { sound = subst Sound (sym k) (sound_take es c.args.n T.sound); few = omega (arith, ap length k, length-take c.args.n es, T.few) }

pub returns-clause-trees : goal.returns-clause-trees
returns-clause-trees c = forgotten_trees (kept c.args.self.now.table) _ _ c.truncate.ensures.kept
