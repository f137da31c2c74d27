-- The digits are those of the octets so far, and there is room for the others.
use Rattle.std.proofs.Common.{◌≡◌, take}
use Rattle.bac_pack.specs.Lines.{without_blanks}
use Rattle.bac_pack.proofs.lines.copy_digits.Given as goal

abbrev pub invariant-loop-octet : goal.invariant-loop-octet
invariant-loop-octet l = l.digits.items ≡ without_blanks (take l.octet-index l.octets)
