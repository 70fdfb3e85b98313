use Rattle.command.proofs.Meanings.{reads_meaning, reads_means}
use Rattle.command.proofs.form.Form.read.Goals as goal

pub returns-clause-value : goal.returns-clause-value
returns-clause-value g c = reads_meaning g.Self.Form.line c.args.bytes.now g.met.Self.Form.apart c.command_of.result c.command_of.ensures

pub returns-clause-means : goal.returns-clause-means
returns-clause-means g c = reads_means g.Self.Form.line c.args.bytes.now g.met.Self.Form.apart c.command_of.result c.command_of.ensures
