use Rattle.std.specs.Prelude.{◌+◌, ◌*◌, ◌<◌, ℕ, [], ◌∷◌, take, drop, slice_index, refl}
use Rattle.std.proofs.Common.{arith, sym}
use Rattle.std.proofs.lemmas.List.{length-take-le}
use Rattle.bac_tag.specs.Laws.Octets.{mark_by}
use Rattle.bac_apdu.specs.declared.confirmed_request.RequestHead.{RequestHead}
use Rattle.bac_apdu.proofs.ConfirmedRequestLemmas.{SaysHead}
use Rattle.bac_apdu.proofs.SegmentLemmas.{request_segment_short, request_segment_shorter, request_segment_window, request_segment_memory, request_segment_found}
use Rattle.bac_apdu.proofs.StartLemmas.{short_memory, window_memory}
use Rattle.bac_apdu.proofs.segment.read_request_start.Goals as goal

pub returns-in_default : goal.returns-in_default
returns-in_default c =
    let small : (k : ℕ) → slice_index c.args.octets.now k < 256 = λ k. omega (arith, c.type_inv.octets k) in
    rw c.at.ensures (request_segment_short c.args.octets.now small c.requires.pdu c.requires.segmented c.in_default.len_below, short_memory)

pub returns-in_default-new : goal.returns-in_default-new
returns-in_default-new c =
    let small : (k : ℕ) → slice_index c.args.octets.now k < 256 = λ k. omega (arith, c.type_inv.octets k) in
    rw c.at-in_default-new.ensures (request_segment_window c.args.octets.now small c.requires.pdu c.requires.segmented c.in-len5-up.len_at_least (λ good. let e = c.in_default-new.ensures.some.1 good in cc), window_memory)

pub returns-in_default-octets : goal.returns-in_default-octets
returns-in_default-octets c =
    let small : (k : ℕ) → slice_index c.args.octets.now k < 256 = λ k. omega (arith, c.type_inv.octets k) in
    rw c.at-in_default-octets.ensures (request_segment_shorter c.args.octets.now small c.requires.pdu c.requires.segmented (c.in-Some.ensures.some.0 refl) c.in_default-octets.len_below, short_memory)

pub returns : goal.returns
returns c =
    let b = c.args.octets.now in
    let small : (k : ℕ) → slice_index c.args.octets.now k < 256 = λ k. omega (arith, c.type_inv.octets k) in
    let mark = mark_by (take 6 b) (c.first_octet.result ∷ (16 * c.number.result + c.number-2.result) ∷ slice_index b 2 ∷ slice_index b 3 ∷ slice_index b 4 ∷ slice_index b 5 ∷ []) c.first_difference.result (length-take-le 6 b c.in-len6-up.len_at_least) c.first_difference.ensures.none c.first_difference.ensures.some in
    let head : RequestHead = record { invoke = slice_index b 2; sa = c.has_bit.result; segs = c.of_octet.result; resp = c.of_octet-2.result } in
    let says : SaysHead b head = record { sa = c.has_bit.ensures; segs = sym c.of_octet.ensures; resp = sym c.of_octet-2.ensures; invoke = refl } in
    let p = request_segment_found b small c.requires.pdu c.requires.segmented head c.has_bit-more.result c.in-Some.window c.first_octet.result (16 * c.number.result + c.number-2.result) (drop 6 b) c.first_difference.result says c.has_bit-more.ensures (c.in-Some.ensures.some.0 refl) c.in-Some.ensures.value c.in-len6-up.len_at_least refl c.first_octet.ensures (omega (arith, c.number.ensures.number, c.number-2.ensures.number)) mark in
    record { within = c.in-len6-up.len_at_least; spelled = p.0; marked = p.1; memory = request_segment_memory b small c.requires.pdu c.requires.segmented (c.in-Some.ensures.some.0 refl) }
