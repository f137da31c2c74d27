use Rattle.std.proofs.Common.{◌≡◌, ◌≤◌, length, drop}
use Rattle.bac_tag.specs.HeadOctets.{Headed}
use Rattle.bac_npdu_parts.specs.Messages.{ports_of}
use Rattle.bac_npdu_parts.proofs.messages.tables.read_ports.Given as goal

-- the ports so far are read
abbrev pub invariant-loop : goal.invariant-loop
invariant-loop l = record {
  within : l.place ≤ length l.octets;
  number : length l.list.items ≡ l.counter;
  spelled : Headed (ports_of l.list.items) (λ rest. rest ≡ drop l.place l.octets) (drop 2 l.octets);
}
