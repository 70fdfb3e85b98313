use Rattle.std.proofs.Common.{◌∙◌}
use Rattle.command.specs.Words.{coded_names}
use Rattle.command.proofs.head.Head.from_code.Goals as goal

pub returns-clause-names : goal.returns-clause-names
returns-clause-names c = rw (c.ok.ensures.value ∙ c.try_from.ensures.0) (coded_names c.args.number)
