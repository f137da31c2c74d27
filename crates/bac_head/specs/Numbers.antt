-- What is known of a frame, as numbers.
use Rattle.std.specs.Prelude.{◌≡◌, ℕ, ◌+◌, ◌++◌, Bool, false, Option, Some, None, List, length, take, unwrap_or}
use Rattle.bac_tag.specs.HeadOctets.{bit_of}
use Rattle.bac_npdu_parts.specs.Addresses.{SourceValue, DestinationValue, address_of, source_octets}
use Rattle.bac_npdu_parts.specs.FrameHeads.{address_read, destination_read}
use Rattle.bac_npdu_parts.specs.Frames.{FrameValue, SpellsFrame}
use Rattle.bac_head.specs.declared.control_head.ControlHead.{ControlHead}
use Rattle.bac_head.specs.declared.npci.Npci.{Npci}
use Rattle.bac_head.specs.declared.message_head.MessageHead.{MessageHead}
use Rattle.bac_head.specs.declared.apdu_head.SegmentHead.{SegmentHead}
use Rattle.bac_head.specs.declared.apdu_head.ApduHead.{ApduHead}
use Rattle.bac_head.specs.declared.apdu_head.ApduHead.TheVariants as apdu
use Rattle.bac_head.specs.declared.known.PduHead.{PduHead}
use Rattle.bac_head.specs.declared.known.PduHead.TheVariants as pdu
use Rattle.bac_head.specs.declared.known.Known.{Known}
use Rattle.bac_head.specs.declared.known.Known.TheVariants as known
use Rattle.bac_head.specs.Reach.{IsReach}
use Rattle.bac_head.specs.Known.{IsKnownOf, IsWhole, size_of}
use Rattle.bac_head.specs.declared.numbers.Address.{Address}
use Rattle.bac_head.specs.declared.numbers.Head.{Head}

-- ---- addresses

-- An address as numbers, if its octets begin at this place. Without an address all numbers are 0.
abbrev pub address_told : ℕ → Option SourceValue → Address
address_told place None = record { there = 0; network = 0; place = 0; length = 0 }
address_told place (Some a) = record { there = 1; network = a.network; place = place; length = length a.address }

-- The hop count of a destination, or 0 if there is none.
abbrev pub hops_told : Option DestinationValue → ℕ
hops_told None = 0
hops_told (Some d) = d.hops

-- ---- heads, part by part

-- The numbers if nothing is known: all are 0.
abbrev pub none_known : Head
none_known = record {
  known = 0;
  reply = 0;
  priority = 0;
  hops = 0;
  destination = address_told 0 None;
  source = address_told 0 None;
  pdu = 0;
  message = 0;
  vendor = 0;
  invoke = 0;
  segmented = 0;
  more = 0;
  sequence = 0;
  window = 0;
  negative = 0;
  server = 0;
  choice = 0;
  reason = 0;
  contents = 0;
}

-- The numbers of what the control octet says.
abbrev pub control_told : ControlHead → Head
control_told c = record none_known { known = 1; reply = bit_of c.reply; priority = c.priority }

-- The numbers of the control octet and of the addresses. The octets of the destination begin at 5: its network and its length,
-- three octets, are before them, and version and control octet before these. The source is after the destination.
abbrev pub npci_told : Npci → Head
npci_told n =
    let to = destination_read n.destination in
    record (control_told n.control) { known = 2; hops = hops_told to; destination = address_told 5 (address_of to); source = address_told (5 + length (source_octets (address_of to))) (address_read n.source) }

-- The numbers of a segment of this type, 0 or 3, in addition to those of the addresses.
abbrev pub segment_told : Head → ℕ → SegmentHead → Head
segment_told h type s = record h { pdu = type; invoke = s.invoke; segmented = 1; more = bit_of s.more; sequence = s.seq; window = s.window; choice = s.choice }

-- The numbers of an APDU of this type with an invoke id and a service choice.
abbrev pub choice_told : Head → ℕ → ℕ → ℕ → Head
choice_told h type invoke choice = record h { pdu = type; invoke = invoke; choice = choice }

-- The numbers of a SegmentACK.
abbrev pub ack_told : Head → ℕ → Bool → Bool → ℕ → ℕ → Head
ack_told h invoke nak srv seq size = record h { pdu = 4; invoke = invoke; negative = bit_of nak; server = bit_of srv; sequence = seq; window = size }

-- The numbers of a Reject or an Abort, by its type.
abbrev pub reason_told : Head → ℕ → ℕ → Bool → ℕ → Head
reason_told h type invoke srv reason = record h { pdu = type; invoke = invoke; server = bit_of srv; reason = reason }

-- The numbers of the head of an APDU.
abbrev pub apdu_told : Head → ApduHead → Head
apdu_told h (apdu.ConfirmedRequest invoke choice) = choice_told h 0 invoke choice
apdu_told h (apdu.RequestSegment s) = segment_told h 0 s
apdu_told h (apdu.UnconfirmedRequest choice) = choice_told h 1 0 choice
apdu_told h (apdu.SimpleAck invoke choice) = choice_told h 2 invoke choice
apdu_told h (apdu.ComplexAck invoke choice) = choice_told h 3 invoke choice
apdu_told h (apdu.AckSegment s) = segment_told h 3 s
apdu_told h (apdu.SegmentAck invoke nak srv seq size) = ack_told h invoke nak srv seq size
apdu_told h (apdu.Error invoke choice) = choice_told h 5 invoke choice
apdu_told h (apdu.Reject invoke reason) = reason_told h 6 invoke false reason
apdu_told h (apdu.Abort invoke srv reason) = reason_told h 7 invoke srv reason

-- The numbers of the head of a network message. Without a vendor that number is 0.
abbrev pub message_told : Head → MessageHead → Head
message_told h m = record h { pdu = 8; message = m.kind; vendor = unwrap_or m.vendor 0 }

-- The numbers of the head of a PDU.
abbrev pub pdu_told : Head → PduHead → Head
pdu_told h (pdu.Apdu a) = apdu_told h a
pdu_told h (pdu.Message m) = message_told h m

-- The numbers of all that is known.
abbrev pub head_told : Known → Head
head_told known.Nothing = none_known
head_told (known.Control c) = control_told c
head_told (known.Addresses n) = npci_told n
head_told (known.Pdu n p size) = record (pdu_told (npci_told n) p) { known = 3; contents = size }

-- ---- of which frames it is so

-- What the head tells is so of each frame that begins with the octets from which it is known. It is known as far as these
-- octets reach, and no further. If the octets spell a frame, the whole head is known.
pub record IsHeadOf (octets : List ℕ) (head : Head) : Type 0 where
  pub known : Known
  pub told : head ≡ head_told known
  pub agrees : (f : FrameValue) (more : List ℕ) → SpellsFrame f (take (size_of known) octets ++ more) → IsKnownOf f known
  pub whole : (f : FrameValue) → SpellsFrame f octets → IsWhole known
  pub reach : IsReach octets known
