use Rattle.model.proofs.Once.{that_refutations_can_be_written_out}
use Rattle.model.proofs.refutations_can_be_written_out.Goals as goal

pub returns : goal.returns
returns c = that_refutations_can_be_written_out
