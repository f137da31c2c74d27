use Rattle.std.specs.Prelude.{◌<◌, ℕ, slice_index}
use Rattle.std.proofs.Common.{arith}
use Rattle.bac_service.specs.declared.kind.Kind.TheVariants.{ComplexAck}
use Rattle.bac_apdu.specs.Apdus.{complex_ack}
use Rattle.bac_apdu.proofs.CarryingLemmas.{checked_behind}
use Rattle.bac_apdu.proofs.ComplexAckLemmas.{complex_ack_short, complex_ack_refused, complex_ack_found}
use Rattle.bac_apdu.proofs.StartLemmas.{short_memory}
use Rattle.bac_apdu.proofs.complex_ack.check_complex_ack.Goals as goal

pub returns-in_default : goal.returns-in_default
returns-in_default c =
    let small : (k : ℕ) → slice_index c.args.octets.now k < 256 = λ k. omega (arith, c.type_inv.octets k) in
    rw c.at.ensures (complex_ack_short c.args.octets.now small c.requires.pdu c.requires.whole c.in_default.len_below, short_memory)

pub returns : goal.returns
returns c =
    let b = c.args.octets.now in
    let small : (k : ℕ) → slice_index b k < 256 = λ k. omega (arith, c.type_inv.octets k) in
    let long = c.in-len3-up.len_at_least in
    checked_behind ComplexAck (slice_index b 2) b _ c.check_behind.result c.check_behind.ensures
    (λ service mark behind. (complex_ack (slice_index b 1) service, complex_ack_found b small c.requires.pdu c.requires.whole service mark long behind))
    (λ refusal behind. complex_ack_refused b small c.requires.pdu c.requires.whole refusal long behind)
