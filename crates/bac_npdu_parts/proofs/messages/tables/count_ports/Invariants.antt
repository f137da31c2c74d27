use Rattle.std.proofs.Common.{◌≡◌, ◌≤◌, List, length, drop}
use Rattle.bac_tag.specs.HeadOctets.{Headed}
use Rattle.bac_npdu_parts.specs.declared.messages.port.Port.{Port}
use Rattle.bac_npdu_parts.specs.Messages.{ports_of}
use Rattle.bac_npdu_parts.proofs.messages.tables.count_ports.Given as goal

-- the ports so far are found
abbrev pub invariant-loop : goal.invariant-loop
invariant-loop l = record {
  within : l.place ≤ length l.octets;
  found : (ports : List Port) × (length ports ≡ l.counter) × Headed (ports_of ports) (λ rest. rest ≡ drop l.place l.octets) (drop 2 l.octets);
}
