use Rattle.std.specs.Prelude.{◌<◌, ℕ, slice_index, refl}
use Rattle.std.proofs.Common.{arith}
use Rattle.std.proofs.lemmas.Result.{err_from_is_err_and}
use Rattle.bac_apdu.proofs.SegmentAckLemmas.{segment_ack_short, segment_ack_window, segment_ack_refused, segment_ack_found}
use Rattle.bac_apdu.proofs.segment_ack.decode_segment_ack.Goals as goal

pub returns-in_default : goal.returns-in_default
returns-in_default g c =
    let small : (k : ℕ) → slice_index c.args.octets.now k < 256 = λ k. omega (arith, c.type_inv.octets k) in
    rw c.at.ensures (segment_ack_short c.args.octets.now small c.requires c.in_default.len_below, refl)

pub returns-in_default-new : goal.returns-in_default-new
returns-in_default-new g c =
    let small : (k : ℕ) → slice_index c.args.octets.now k < 256 = λ k. omega (arith, c.type_inv.octets k) in
    rw c.at-in_default-new.ensures (segment_ack_window c.args.octets.now small c.requires c.in-len4-up.len_at_least (λ good. let e = c.in_default-new.ensures.some.1 good in cc), refl)

pub returns-in_err-mark : goal.returns-in_err-mark
returns-in_err-mark g c =
    let small : (k : ℕ) → slice_index c.args.octets.now k < 256 = λ k. omega (arith, c.type_inv.octets k) in
    let p = err_from_is_err_and c.from_residual.result c.from_residual.ensures.1 in
    rw (p.1, p.2) (segment_ack_refused c.args.octets.now small c.requires c.has_bit-nak.result c.has_bit-srv.result c.in-Some.window c.first_octet.result c.in-len4-up.len_at_least c.has_bit-nak.ensures c.has_bit-srv.ensures (c.in-Some.ensures.some.0 refl) c.in-Some.ensures.value c.first_octet.ensures _ c.in_err-mark.ensures, refl)

pub returns : goal.returns
returns g c =
    let small : (k : ℕ) → slice_index c.args.octets.now k < 256 = λ k. omega (arith, c.type_inv.octets k) in
    let p = segment_ack_found c.args.octets.now small c.requires c.has_bit-nak.result c.has_bit-srv.result c.in-Some.window c.first_octet.result c.in-len4-up.len_at_least c.has_bit-nak.ensures c.has_bit-srv.ensures (c.in-Some.ensures.some.0 refl) c.in-Some.ensures.value c.first_octet.ensures c.in_ok-mark.mark c.in_ok-mark.ensures in
    record { value = _; mark = _; spelled = p.0; marked = p.1; made_of = c.visit.ensures }
