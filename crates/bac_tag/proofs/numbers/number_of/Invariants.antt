use Rattle.std.proofs.Common.{◌≡◌, take}
use Rattle.bac_tag.specs.Number.{number}
use Rattle.bac_tag.proofs.numbers.number_of.Given as goal

abbrev pub invariant-loop-octet : goal.invariant-loop-octet
invariant-loop-octet l = l.number ≡ number (take l.octet-index l.octets)
