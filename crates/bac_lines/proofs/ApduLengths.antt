-- How many octets the texts of APDUs have.
use Rattle.std.proofs.Common.{◌≡◌, ℕ, ◌+◌, ◌*◌, ◌<◌, ◌≤◌, Bool, List, [], ◌∷◌, ◌++◌, length, ap, arith}
use Rattle.std.proofs.lemmas.List.{length-append}
use Rattle.bac_tag.specs.HeadOctets.{Part, Headed}
use Rattle.bac_tag.proofs.HeadOctetLemmas.{parts_are}
use Rattle.bac_service.specs.declared.kind.Kind.{Kind}
use Rattle.bac_service.specs.declared.kind.Kind.TheVariants as kind
use Rattle.bac_service.specs.Services.{ServiceValue}
use Rattle.bac_apdu.specs.declared.confirmed_request.RequestHead.{RequestHead}
use Rattle.bac_apdu.specs.declared.segment.SegHead.TheVariants.{Request, Ack}
use Rattle.bac_apdu.specs.Apdus.{ApduValue, confirmed_request, unconfirmed_request, simple_ack, complex_ack, segment_ack, error, reject, abort, segment, head_of, SpellsServiceOf, SpellsBody, SpellsApdu}
use Rattle.bac_record.specs.Digits.{hexadecimal}
use Rattle.bac_text.specs.Words.{number, truth, field}
use Rattle.bac_text.specs.ServiceText.{service_text}
use Rattle.bac_text.specs.RequestText.{request_head_text}
use Rattle.bac_text.specs.SegmentText.{segment_head_text, segment_ack_text}
use Rattle.bac_text.specs.ApduText.{apdu_text}
use Rattle.bac_lines.proofs.Hexes.{hex_length}
use Rattle.bac_lines.proofs.ValueLengths.{three_digits, one_digit, three_parts, four_parts, five_parts, six_parts}
use Rattle.bac_lines.proofs.ServiceLengths.{service_short}

-- ---- heads

-- What is behind a head, and how many octets it has.
pub record Behind (ps : List Part) (Body : List ℕ → Type 0) (b : List ℕ) : Type 0 where
  pub rest : List ℕ
  pub body : Body rest
  pub sized : length b ≡ length ps + length rest

-- each part of a head has one octet
pub headed_behind : (ps : List Part) (Body : List ℕ → Type 0) (b : List ℕ) → Headed ps Body b → Behind ps Body b
headed_behind [] Body b h = record { rest = b; body = h; sized = omega arith }
headed_behind (p ∷ ps) Body [] h = absurd h
headed_behind (p ∷ ps) Body (o ∷ b) h = let r = headed_behind ps Body b h.1 in record { rest = r.rest; body = r.body; sized = omega (arith, r.sized) }

-- ---- APDUs

-- the head of a request
request_head_short : (head : RequestHead) → head.segs < 8 → head.resp < 16 → head.invoke < 256 → length (request_head_text head) ≤ 27
request_head_short head segs resp invoke =
    let first = three_digits head.invoke invoke in
    let third = three_digits head.segs (omega (arith, segs)) in
    let fourth = three_digits head.resp (omega (arith, resp)) in
    omega (arith, first, third, fourth, one_digit head.sa, four_parts (number head.invoke) (field " sa=" (truth head.sa)) (field " segs=" (number head.segs)) (field " resp=" (number head.resp)))

-- a SegmentACK
segment_ack_short : (invoke : ℕ) (nak srv : Bool) (seq window : ℕ) → invoke < 256 → seq < 256 → window ≤ 127 → length (segment_ack_text invoke nak srv seq window) ≤ 60
segment_ack_short invoke nak srv seq window first fourth fifth =
    let last = three_digits window (omega (arith, fifth)) in
    omega (
      arith,
      three_digits invoke first,
      three_digits seq fourth,
      last,
      one_digit nak,
      one_digit srv,
      five_parts (field "segack id=" (number invoke)) (field " nak=" (truth nak)) (field " srv=" (truth srv)) (field " seq=" (number seq)) (field " win=" (number window)),
    )

-- a segment, with the text of its head
segment_rest_short : (seq window : ℕ) (more : Bool) (choice : ℕ) (piece front : List ℕ) → seq < 256 → window ≤ 127 → choice < 256
    → length (front ++ field " seq=" (number seq) ++ field " win=" (number window) ++ field " more=" (truth more) ++ field " choice=" (number choice) ++ field " octets=" (hexadecimal piece)) ≤ length front + 2 * length piece + 60
segment_rest_short seq window more choice piece front first second fourth =
    let middle = three_digits window (omega (arith, second)) in
    omega (
      arith,
      three_digits seq first,
      middle,
      three_digits choice fourth,
      one_digit more,
      hex_length piece,
      six_parts front (field " seq=" (number seq)) (field " win=" (number window)) (field " more=" (truth more)) (field " choice=" (number choice)) (field " octets=" (hexadecimal piece)),
    )

-- a head and a service
service_behind : (k : Kind) (service : ServiceValue) (head b rest : List ℕ) → SpellsServiceOf k service rest → length rest ≤ length b → length (head ++ field " " (service_text service)) ≤ length head + 15 * length b + 41
service_behind k service head b rest h within =
    omega (arith, service_short _ _ k service.choice service rest h, within, length-append head (field " " (service_text service)))

-- fifteen octets of text for each octet, and a hundred and fifty more
pub apdu_short : (a : ApduValue) (b : List ℕ) → SpellsApdu a b → length (apdu_text a) ≤ 15 * length b + 150
apdu_short (confirmed_request head service) b h =
    let parts = parts_are (head_of (confirmed_request head service)) (SpellsBody (confirmed_request head service)) b h in
    let r = headed_behind (head_of (confirmed_request head service)) (SpellsBody (confirmed_request head service)) b h in
    let front = request_head_short head parts.1.0.0 parts.1.0.1 parts.1.1.0 in
    let all = service_behind kind.Confirmed service (field "conf id=" (request_head_text head)) b r.rest r.body (omega (arith, r.sized)) in
    omega (arith, front, all)
apdu_short (unconfirmed_request service) b h =
    let r = headed_behind (head_of (unconfirmed_request service)) (SpellsBody (unconfirmed_request service)) b h in
    omega (arith, r.sized, service_short _ _ kind.Unconfirmed service.choice service r.rest r.body)
apdu_short (simple_ack invoke choice) b h =
    let parts = parts_are (head_of (simple_ack invoke choice)) (SpellsBody (simple_ack invoke choice)) b h in
    omega (arith, three_digits invoke parts.1.0, three_digits choice parts.1.1.0, length-append (number invoke) (field " choice=" (number choice)))
apdu_short (complex_ack invoke service) b h =
    let parts = parts_are (head_of (complex_ack invoke service)) (SpellsBody (complex_ack invoke service)) b h in
    let r = headed_behind (head_of (complex_ack invoke service)) (SpellsBody (complex_ack invoke service)) b h in
    let all = service_behind kind.ComplexAck service (field "ack id=" (number invoke)) b r.rest r.body (omega (arith, r.sized)) in
    omega (arith, three_digits invoke parts.1.0, all)
apdu_short (segment_ack invoke nak srv seq window) b h =
    let parts = parts_are (head_of (segment_ack invoke nak srv seq window)) (SpellsBody (segment_ack invoke nak srv seq window)) b h in
    omega (arith, segment_ack_short invoke nak srv seq window parts.1.0 parts.1.1.0 parts.1.1.1.0.1)
apdu_short (error invoke service) b h =
    let parts = parts_are (head_of (error invoke service)) (SpellsBody (error invoke service)) b h in
    let r = headed_behind (head_of (error invoke service)) (SpellsBody (error invoke service)) b h in
    let all = service_behind kind.Error service (field "error id=" (number invoke)) b r.rest r.body (omega (arith, r.sized)) in
    omega (arith, three_digits invoke parts.1.0, all)
apdu_short (reject invoke reason) b h =
    let parts = parts_are (head_of (reject invoke reason)) (SpellsBody (reject invoke reason)) b h in
    omega (arith, three_digits invoke parts.1.0, three_digits reason parts.1.1.0, length-append (number invoke) (field " reason=" (number reason)))
apdu_short (abort invoke srv reason) b h =
    let parts = parts_are (head_of (abort invoke srv reason)) (SpellsBody (abort invoke srv reason)) b h in
    omega (arith, three_digits invoke parts.1.0, three_digits reason parts.1.1.0, one_digit srv, three_parts (field "abort id=" (number invoke)) (field " srv=" (truth srv)) (field " reason=" (number reason)))
apdu_short (segment (Request head) seq window more choice piece) b h =
    let parts = parts_are (head_of (segment (Request head) seq window more choice piece)) (SpellsBody (segment (Request head) seq window more choice piece)) b h in
    let r = headed_behind (head_of (segment (Request head) seq window more choice piece)) (SpellsBody (segment (Request head) seq window more choice piece)) b h in
    let front = request_head_short head parts.1.0.0 parts.1.0.1 parts.1.1.0 in
    let rest = segment_rest_short seq window more choice piece (segment_head_text (Request head)) parts.1.1.1.0 parts.1.1.1.1.0.1 parts.1.1.1.1.1.0 in
    omega (arith, front, rest, r.sized, ap length r.body.0)
apdu_short (segment (Ack invoke) seq window more choice piece) b h =
    let parts = parts_are (head_of (segment (Ack invoke) seq window more choice piece)) (SpellsBody (segment (Ack invoke) seq window more choice piece)) b h in
    let r = headed_behind (head_of (segment (Ack invoke) seq window more choice piece)) (SpellsBody (segment (Ack invoke) seq window more choice piece)) b h in
    let rest = segment_rest_short seq window more choice piece (segment_head_text (Ack invoke)) parts.1.1.0 parts.1.1.1.0.1 parts.1.1.1.1.0 in
    omega (arith, three_digits invoke parts.1.0, rest, r.sized, ap length r.body.0)
