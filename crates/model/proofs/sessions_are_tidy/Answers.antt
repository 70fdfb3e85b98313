use Rattle.model.proofs.Tidiness.{that_sessions_are_tidy}
use Rattle.model.proofs.sessions_are_tidy.Goals as goal

pub returns : goal.returns
returns c = that_sessions_are_tidy
