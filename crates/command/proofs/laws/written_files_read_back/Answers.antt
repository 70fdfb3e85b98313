use Rattle.command.proofs.Files.{reads_back}
use Rattle.command.proofs.laws.written_files_read_back.Goals as goal

pub returns : goal.returns
returns g c = reads_back g.F.Form.line g.met.F.Form.apart g.met.F.Form.unbroken
