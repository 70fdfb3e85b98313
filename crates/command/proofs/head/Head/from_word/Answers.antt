use Rattle.command.specs.Heads.{worded}
use Rattle.command.specs.Words.{worded_names}
use Rattle.command.proofs.head.Head.from_word.Goals as goal

pub returns-clause-value : goal.returns-clause-value
unfolding worded
returns-clause-value c = c.spelled_among.ensures

pub returns-clause-names : goal.returns-clause-names
unfolding worded
returns-clause-names c = rw c.spelled_among.ensures (worded_names c.args.spelling.now)
