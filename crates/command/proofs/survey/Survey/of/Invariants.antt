use Rattle.std.proofs.Common.{◌≡◌, length}
use Rattle.command.specs.Lines.{surveyed}
use Rattle.command.proofs.survey.Survey.of.Given as goal

abbrev pub invariant-loop-item : goal.invariant-loop-item
invariant-loop-item g l = surveyed l.survey (g.R.Reader.left l.reader) ≡ surveyed l.initial.survey (g.R.Reader.left l.initial.reader)

abbrev pub decreases-loop-item : goal.decreases-loop-item
decreases-loop-item g l = length (g.R.Reader.left l.reader)
