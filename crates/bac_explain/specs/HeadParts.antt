-- The parts of the head of a frame (clauses 6.2 and 20.1).
use Rattle.std.specs.Prelude.{ℕ, Option, None, Some, List, [], ◌∷◌, ◌++◌, length}
use Rattle.bac_npdu_parts.specs.Addresses.{SourceValue, DestinationValue}
use Rattle.bac_npdu_parts.specs.FrameHeads.{address_read, destination_read}
use Rattle.bac_head.specs.declared.npci.Npci.{Npci}
use Rattle.bac_head.specs.declared.message_head.MessageHead.{MessageHead}
use Rattle.bac_head.specs.declared.apdu_head.ApduHead.{ApduHead}
use Rattle.bac_head.specs.declared.apdu_head.ApduHead.TheVariants as head
use Rattle.bac_head.specs.declared.known.PduHead.{PduHead}
use Rattle.bac_head.specs.declared.known.PduHead.TheVariants as pdu
use Rattle.bac_head.specs.declared.known.Known.{Known}
use Rattle.bac_head.specs.declared.known.Known.TheVariants as known
use Rattle.bac_explain.specs.declared.parts.Part.{Part}
use Rattle.bac_explain.specs.declared.piece.Kind.{Kind}
use Rattle.bac_explain.specs.declared.piece.Kind.TheVariants as kind
use Rattle.bac_explain.specs.declared.heads.Contents.{Contents}
use Rattle.bac_explain.specs.declared.heads.Contents.TheVariants as contents
use Rattle.bac_explain.specs.Parts.{part}

-- ---- what is before the PDU

-- Version and control octet.
abbrev pub control_parts : List Part
control_parts = part kind.Version 1 ∷ part kind.Control 1 ∷ []

-- A destination: network, length, address. Its hop count is after the source.
abbrev pub destination_parts : Option DestinationValue → List Part
destination_parts None = []
destination_parts (Some d) = part kind.DestinationNetwork 2 ∷ part kind.DestinationLength 1 ∷ part kind.DestinationAddress (length d.address) ∷ []

-- A source: network, length, address.
abbrev pub source_parts : Option SourceValue → List Part
source_parts None = []
source_parts (Some s) = part kind.SourceNetwork 2 ∷ part kind.SourceLength 1 ∷ part kind.SourceAddress (length s.address) ∷ []

-- The hop count, if there is a destination.
abbrev pub hops_parts : Option DestinationValue → List Part
hops_parts None = []
hops_parts (Some d) = part kind.HopCount 1 ∷ []

-- All that is before the PDU: version, control octet, destination, source, hop count.
abbrev pub npci_parts : Npci → List Part
npci_parts n = control_parts ++ (destination_parts (destination_read n.destination) ++ (source_parts (address_read n.source) ++ hops_parts (destination_read n.destination)))

-- ---- the head of the PDU

-- Parts of one octet each.
abbrev pub octet_parts : List Kind → List Part
octet_parts [] = []
octet_parts (k ∷ ks) = part k 1 ∷ octet_parts ks

-- What the octets of the head of an APDU are.
abbrev pub apdu_kinds_of : ApduHead → List Kind
apdu_kinds_of (head.ConfirmedRequest invoke choice) = kind.ConfirmedRequest ∷ kind.Accepted ∷ kind.InvokeId ∷ kind.Choice ∷ []
apdu_kinds_of (head.RequestSegment part) = kind.RequestSegment ∷ kind.Accepted ∷ kind.InvokeId ∷ kind.Sequence ∷ kind.Window ∷ kind.Choice ∷ []
apdu_kinds_of (head.UnconfirmedRequest choice) = kind.UnconfirmedRequest ∷ kind.Choice ∷ []
apdu_kinds_of (head.SimpleAck invoke choice) = kind.SimpleAck ∷ kind.InvokeId ∷ kind.Choice ∷ []
apdu_kinds_of (head.ComplexAck invoke choice) = kind.ComplexAck ∷ kind.InvokeId ∷ kind.Choice ∷ []
apdu_kinds_of (head.AckSegment part) = kind.AckSegment ∷ kind.InvokeId ∷ kind.Sequence ∷ kind.Window ∷ kind.Choice ∷ []
apdu_kinds_of (head.SegmentAck invoke nak srv seq size) = kind.SegmentAck ∷ kind.InvokeId ∷ kind.Sequence ∷ kind.Window ∷ []
apdu_kinds_of (head.Error invoke choice) = kind.Error ∷ kind.InvokeId ∷ kind.Choice ∷ []
apdu_kinds_of (head.Reject invoke reason) = kind.Reject ∷ kind.InvokeId ∷ kind.Reason ∷ []
apdu_kinds_of (head.Abort invoke srv reason) = kind.Abort ∷ kind.InvokeId ∷ kind.Reason ∷ []

-- The vendor of a network message, if it has one.
abbrev pub vendor_parts : Option ℕ → List Part
vendor_parts None = []
vendor_parts (Some vendor) = part kind.Vendor 2 ∷ []

-- The head of a network message: its type, and its vendor if it has one.
abbrev pub message_parts : MessageHead → List Part
message_parts h = part kind.MessageType 1 ∷ vendor_parts h.vendor

-- The head of a PDU.
abbrev pub pdu_parts : PduHead → List Part
pdu_parts (pdu.Apdu h) = octet_parts (apdu_kinds_of h)
pdu_parts (pdu.Message h) = message_parts h

-- ---- all that is known

-- The parts of the head that are known.
abbrev pub head_parts : Known → List Part
head_parts known.Nothing = []
head_parts (known.Control control) = control_parts
head_parts (known.Addresses npci) = npci_parts npci
head_parts (known.Pdu npci head size) = npci_parts npci ++ pdu_parts head

-- What is after the head of an APDU: a service, the piece of a segment, or nothing that is known.
abbrev pub apdu_contents_of : ApduHead → Contents
apdu_contents_of (head.ConfirmedRequest invoke choice) = contents.Service
apdu_contents_of (head.RequestSegment part) = contents.Octets kind.Segment
apdu_contents_of (head.UnconfirmedRequest choice) = contents.Service
apdu_contents_of (head.SimpleAck invoke choice) = contents.Octets kind.Octets
apdu_contents_of (head.ComplexAck invoke choice) = contents.Service
apdu_contents_of (head.AckSegment part) = contents.Octets kind.Segment
apdu_contents_of (head.SegmentAck invoke nak srv seq size) = contents.Octets kind.Octets
apdu_contents_of (head.Error invoke choice) = contents.Service
apdu_contents_of (head.Reject invoke reason) = contents.Octets kind.Octets
apdu_contents_of (head.Abort invoke srv reason) = contents.Octets kind.Octets

-- What is after the head of a PDU.
abbrev pub pdu_contents_of : PduHead → Contents
pdu_contents_of (pdu.Apdu head) = apdu_contents_of head
pdu_contents_of (pdu.Message head) = contents.Octets kind.Data

-- What is after the parts of the head that are known. Where not all of the head is, that is the rest of it.
abbrev pub contents_of : Known → Contents
contents_of known.Nothing = contents.Octets kind.Version
contents_of (known.Control control) = contents.Octets kind.Addresses
contents_of (known.Addresses npci) = contents.Octets kind.PduHead
contents_of (known.Pdu npci head size) = pdu_contents_of head
