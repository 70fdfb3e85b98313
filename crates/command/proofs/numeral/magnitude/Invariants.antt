use Rattle.std.proofs.Common.{◌≡◌, ◌<◌, ◌≤◌, length, get_or}
use Rattle.command.specs.Numerals.{Read}
use Rattle.command.proofs.numeral.magnitude.Given as goal

abbrev pub invariant-loop-byte : goal.invariant-loop-byte
invariant-loop-byte l =
    Read l.digits l.byte-index l.value × (l.value ≤ l.most)
    × (0 < length l.digits) × (get_or l.digits 0 0 ≡ 48 → length l.digits ≡ 1)
