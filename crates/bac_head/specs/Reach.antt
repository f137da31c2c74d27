-- How far octets reach into a frame.
use Rattle.std.specs.Prelude.{◌≡◌, ℕ, ◌/◌, ◌%◌, ◌^◌, ◌<◌, ◌≤◌, nat_eq, Bool, true, false, Option, Some, None, List, ◌∷◌, length, slice_index, IfSome}
use Rattle.bac_tag.specs.HeadOctets.{IsWindow}
use Rattle.bac_apdu.specs.FirstOctet.{type_at, seg_at, head_size, window_place}
use Rattle.bac_npdu_parts.specs.Addresses.{SourceValue, DestinationValue}
use Rattle.bac_npdu_parts.specs.HeadsRead.{IsHead}
use Rattle.bac_head.specs.declared.apdu_head.ApduHead.{ApduHead}
use Rattle.bac_head.specs.declared.known.PduHead.{PduHead}
use Rattle.bac_head.specs.declared.known.PduHead.TheVariants as pdu
use Rattle.bac_head.specs.declared.known.Known.{Known}
use Rattle.bac_head.specs.declared.known.Known.TheVariants as known
use Rattle.bac_head.specs.Saying.{SaysMessage, SaysApdu}

-- ---- what octets have

-- Version and control octet are there, and the version is 1.
abbrev pub HasControl : List ℕ → Type 0
HasControl octets = (control : ℕ) × (rest : List ℕ) × (octets ≡ 1 ∷ control ∷ rest)

-- The octets begin with version, control octet and all the addresses that the control octet says.
pub record HasNpci (octets : List ℕ) : Type 0 where
  pub control : ℕ
  pub destination : Option DestinationValue
  pub source : Option SourceValue
  pub rest : List ℕ
  pub is_head : IsHead octets control destination source rest

-- The octets begin with the type of a network message, and with its vendor if the type is 128 or above.
abbrev pub HasMessageHead : List ℕ → Type 0
HasMessageHead b = (1 ≤ length b) × (128 ≤ slice_index b 0 → 3 ≤ length b)

-- The octets begin with the head of an APDU of this type and this bit 3: as many octets as the table of heads says, with a
-- window where it wants one.
pub record HasHeadOf (type seg : ℕ) (b : List ℕ) : Type 0 where
  pub first : 1 ≤ length b
  pub low : type < 8
  pub long : head_size type seg ≤ length b
  pub window : IfSome (window_place type seg) (λ place. IsWindow (slice_index b place))

-- The octets begin with the head of an APDU of a type.
abbrev pub HasApduHead : List ℕ → Type 0
HasApduHead b = HasHeadOf (type_at (slice_index b 0)) (seg_at (slice_index b 0)) b

-- The octets begin with the head of a network message, if the flag is true, or with that of an APDU.
abbrev pub HasPduHead : Bool → List ℕ → Type 0
HasPduHead true b = HasMessageHead b
HasPduHead false b = HasApduHead b

-- The octets begin with all that is before the contents of a PDU.
pub record HasPdu (octets : List ℕ) : Type 0 where
  pub npci : HasNpci octets
  pub head : HasPduHead (nat_eq (npci.control / 2 ^ 7 % 2) 1) npci.rest

-- ---- what is read of them

-- What is read is the head of the APDU with which the octets begin, or they begin with none.
abbrev pub IsApduRead : List ℕ → Option ApduHead → Type 0
IsApduRead b (Some h) = SaysApdu h b × HasApduHead b
IsApduRead b None = HasApduHead b → ⊥

-- The octets of the head of a PDU say this.
abbrev pub SaysPdu : PduHead → Bool → List ℕ → Type 0
SaysPdu (pdu.Message h) m b = (m ≡ true) × SaysMessage h b
SaysPdu (pdu.Apdu h) m b = (m ≡ false) × SaysApdu h b

-- What is read is the head with which the octets begin, of a network message if the flag is true and else of an APDU, or they
-- begin with none.
abbrev pub IsPduRead : Bool → List ℕ → Option PduHead → Type 0
IsPduRead m b (Some h) = SaysPdu h m b × HasPduHead m b
IsPduRead m b None = HasPduHead m b → ⊥

-- As much is known as the octets have, and no more.
abbrev pub IsReach : List ℕ → Known → Type 0
IsReach octets known.Nothing = HasControl octets → ⊥
IsReach octets (known.Control control) = HasControl octets × (HasNpci octets → ⊥)
IsReach octets (known.Addresses npci) = HasNpci octets × (HasPdu octets → ⊥)
IsReach octets (known.Pdu npci head size) = HasPdu octets
