-- What octets say of the head of a frame (clauses 6.2 and 20.1).
use Rattle.std.specs.Prelude.{◌≡◌, ℕ, ◌+◌, ◌*◌, ◌<◌, ◌≤◌, Option, Some, None, List, ◌∷◌, length, slice_index}
use Rattle.bac_tag.specs.HeadOctets.{HasBit}
use Rattle.bac_apdu.specs.FirstOctet.{type_at, seg_at}
use Rattle.bac_npdu_parts.specs.Control.{ControlValue, IsControl}
use Rattle.bac_npdu_parts.specs.FrameHeads.{address_read, destination_read}
use Rattle.bac_npdu_parts.specs.HeadsRead.{IsHead}
use Rattle.bac_head.specs.declared.control_head.ControlHead.{ControlHead}
use Rattle.bac_head.specs.declared.npci.Npci.{Npci}
use Rattle.bac_head.specs.declared.message_head.MessageHead.{MessageHead}
use Rattle.bac_head.specs.declared.apdu_head.SegmentHead.{SegmentHead}
use Rattle.bac_head.specs.declared.apdu_head.ApduHead.{ApduHead}
use Rattle.bac_head.specs.declared.apdu_head.ApduHead.TheVariants as head

-- ---- the control octet, and the addresses

-- What a control octet says, as the value that frames have.
abbrev pub control_value : ControlHead → ControlValue
control_value c = record { message = c.message; destination = c.destination; source = c.source; reply = c.reply; priority = c.priority }

-- The octet after the version is a control octet that says this.
pub record SaysControl (c : ControlHead) (octets : List ℕ) : Type 0 where
  pub control : ℕ
  pub rest : List ℕ
  pub octets_are : octets ≡ 1 ∷ control ∷ rest
  pub is_control : IsControl (control_value c) control

-- The octets are version, control octet and addresses that say this, and a rest.
pub record SaysNpci (npci : Npci) (octets : List ℕ) : Type 0 where
  pub control : ℕ
  pub rest : List ℕ
  pub is_control : IsControl (control_value npci.control) control
  pub is_head : IsHead octets control (destination_read npci.destination) (address_read npci.source) rest
  pub size : length octets ≡ npci.size + length rest

-- ---- the head of a network message

-- How many octets type and vendor of a network message have: three with a vendor, and otherwise one.
abbrev pub vendor_size : Option ℕ → ℕ
vendor_size None = 1
vendor_size (Some vendor) = 3

-- How many octets the head of a network message has.
abbrev pub message_head_size : MessageHead → ℕ
message_head_size h = vendor_size h.vendor

-- The vendor comes after a type of 128 or above, and after no other.
abbrev pub SaysVendor : Option ℕ → List ℕ → Type 0
SaysVendor None b = slice_index b 0 < 128
SaysVendor (Some vendor) b = (128 ≤ slice_index b 0) × (vendor ≡ 256 * slice_index b 1 + slice_index b 2)

-- The octets begin with the head of a network message that says this.
pub record SaysMessage (h : MessageHead) (b : List ℕ) : Type 0 where
  pub kind : h.kind ≡ slice_index b 0
  pub vendor : SaysVendor h.vendor b
  pub long : message_head_size h ≤ length b

-- ---- the head of an APDU

-- How many octets the head of an APDU has.
abbrev pub apdu_head_size : ApduHead → ℕ
apdu_head_size (head.ConfirmedRequest invoke choice) = 4
apdu_head_size (head.RequestSegment part) = 6
apdu_head_size (head.UnconfirmedRequest choice) = 2
apdu_head_size (head.SimpleAck invoke choice) = 3
apdu_head_size (head.ComplexAck invoke choice) = 3
apdu_head_size (head.AckSegment part) = 5
apdu_head_size (head.SegmentAck invoke nak srv seq size) = 4
apdu_head_size (head.Error invoke choice) = 3
apdu_head_size (head.Reject invoke reason) = 3
apdu_head_size (head.Abort invoke srv reason) = 3

-- The first octet has this type in bits 7 to 4.
abbrev pub IsType : ℕ → List ℕ → Type 0
IsType type b = type_at (slice_index b 0) ≡ type

-- The first octet has this type, and this SEG in bit 3.
pub record IsKind (type seg : ℕ) (b : List ℕ) : Type 0 where
  pub of_type : type_at (slice_index b 0) ≡ type
  pub of_seg : seg_at (slice_index b 0) ≡ seg

-- The octets of the head of a segment say this. Its invoke id is at this place, and number, window and choice are after it.
pub record SaysSegment (place : ℕ) (h : SegmentHead) (b : List ℕ) : Type 0 where
  pub more : HasBit 2 (Some h.more) (slice_index b 0)
  pub invoke : h.invoke ≡ slice_index b place
  pub seq : h.seq ≡ slice_index b (place + 1)
  pub window : h.window ≡ slice_index b (place + 2)
  pub choice : h.choice ≡ slice_index b (place + 3)

-- The octets begin with the head of an APDU that says this.
abbrev pub SaysApdu : ApduHead → List ℕ → Type 0
SaysApdu (head.ConfirmedRequest invoke choice) b = IsKind 0 0 b × (invoke ≡ slice_index b 2) × (choice ≡ slice_index b 3)
SaysApdu (head.RequestSegment part) b = IsKind 0 1 b × SaysSegment 2 part b
SaysApdu (head.UnconfirmedRequest choice) b = IsType 1 b × (choice ≡ slice_index b 1)
SaysApdu (head.SimpleAck invoke choice) b = IsType 2 b × (invoke ≡ slice_index b 1) × (choice ≡ slice_index b 2)
SaysApdu (head.ComplexAck invoke choice) b = IsKind 3 0 b × (invoke ≡ slice_index b 1) × (choice ≡ slice_index b 2)
SaysApdu (head.AckSegment part) b = IsKind 3 1 b × SaysSegment 1 part b
SaysApdu (head.SegmentAck invoke nak srv seq size) b =
    IsType 4 b × HasBit 1 (Some nak) (slice_index b 0) × HasBit 0 (Some srv) (slice_index b 0) × (invoke ≡ slice_index b 1) × (seq ≡ slice_index b 2) × (size ≡ slice_index b 3)
SaysApdu (head.Error invoke choice) b = IsType 5 b × (invoke ≡ slice_index b 1) × (choice ≡ slice_index b 2)
SaysApdu (head.Reject invoke reason) b = IsType 6 b × (invoke ≡ slice_index b 1) × (reason ≡ slice_index b 2)
SaysApdu (head.Abort invoke srv reason) b = IsType 7 b × HasBit 0 (Some srv) (slice_index b 0) × (invoke ≡ slice_index b 1) × (reason ≡ slice_index b 2)
