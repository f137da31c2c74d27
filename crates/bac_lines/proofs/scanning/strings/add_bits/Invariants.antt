use Rattle.std.proofs.Common.{◌≡◌, ◌++◌}
use Rattle.bac_lines.proofs.BitsAndTexts.{octets_to}
use Rattle.bac_lines.proofs.scanning.strings.add_bits.Given as goal

abbrev pub invariant-loop-index : goal.invariant-loop-index
invariant-loop-index l = l.contents.items ≡ l.fn.contents.items ++ octets_to l.digits l.index
