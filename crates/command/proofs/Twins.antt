-- The same commands in both forms.
use Rattle.std.proofs.Common.{sym, ◌∙◌}
use Rattle.command.specs.Lines.{TwinsReadAlike}
use Rattle.command.specs.Written.{text_line, ledger_line}
use Rattle.command.proofs.Files.{reads_back}
use Rattle.command.specs.LedgerLines.{ledger_apart}
use Rattle.command.specs.TextLines.{text_apart}
use Rattle.command.specs.Unbroken.{text_unbroken, ledger_unbroken}

pub that_twins_read_alike : TwinsReadAlike
that_twins_read_alike limit ws short_text short_ledger =
    reads_back text_line text_apart text_unbroken limit ws short_text ∙ sym (reads_back ledger_line ledger_apart ledger_unbroken limit ws short_ledger)
