use Rattle.std.proofs.Common.{take}
use Rattle.bac_tag.specs.HeadOctets.{AreParts}
use Rattle.bac_npdu_parts.specs.Messages.{ports_of}
use Rattle.bac_npdu_parts.proofs.laws.held_ports_fit.Given as goal

-- the octets of the ports so far are octets
abbrev pub invariant-loop-port : goal.invariant-loop-port
invariant-loop-port l = AreParts (ports_of (take l.port-index l.list))
