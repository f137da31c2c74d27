-- Parts of frames are equal exactly where they are the same.
use Rattle.std.specs.Cmp.{IsEquivalence, decided, unsigned_Decides}
use Rattle.std.specs.Cmp.Lexicographic.{pointwise_decides, bytes_decides}
use Rattle.bac_service.proofs.SameLemmas.{Decided, by_parts, options, pairs}
use Rattle.bac_npdu_parts.specs.MessageTypes.{same_opaque_net}
use Rattle.bac_npdu_parts.specs.Ports.{same_port, same_ports}

pub ports_decided : Decided same_port
ports_decided v w =
    by_parts (same_port v w) (pairs unsigned_Decides (pairs unsigned_Decides bytes_decides) (v.network, (v.id, v.info)) (w.network, (w.id, w.info)))
    (λ e. λ i. record { network = (e i).0; id = (e i).1.0; info = (e i).1.1 }) (λ e. λ i. ((e i).network, ((e i).id, (e i).info)))

pub tables_decided : Decided same_ports
tables_decided v w = pointwise_decides ports_decided v w

pub opaque_net_decided : Decided same_opaque_net
opaque_net_decided v w =
    by_parts (same_opaque_net v w) (pairs unsigned_Decides (pairs (options unsigned_Decides) bytes_decides) (v.kind, (v.vendor, v.octets)) (w.kind, (w.vendor, w.octets)))
    (λ e. λ i. record { kind = (e i).0; vendor = (e i).1.0; octets = (e i).1.1 }) (λ e. λ i. ((e i).kind, ((e i).vendor, (e i).octets)))

pub ports_equiv : IsEquivalence same_ports
ports_equiv = decided same_ports tables_decided

pub opaque_net_equiv : IsEquivalence same_opaque_net
opaque_net_equiv = decided same_opaque_net opaque_net_decided
