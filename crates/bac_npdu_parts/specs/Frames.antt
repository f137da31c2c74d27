-- The frames, as values, and the lists that spell them (clause 6.2).
use Rattle.std.specs.Prelude.{◌≡◌, ℕ, Bool, true, false, Option, Some, None, List, ◌∷◌, ◌++◌}
use Rattle.bac_tag.specs.Octets.{IsOctets}
use Rattle.bac_apdu.specs.Apdus.{ApduValue, SpellsApdu, value_of as apdu_value}
use Rattle.bac_npdu_parts.specs.declared.destination.Dest.{Dest}
use Rattle.bac_npdu_parts.specs.declared.frame.Body.{Body}
use Rattle.bac_npdu_parts.specs.declared.frame.Body.TheVariants as held
use Rattle.bac_npdu_parts.specs.declared.frame.Frame.{Frame}
use Rattle.bac_npdu_parts.specs.Addresses.{SourceValue, DestinationValue, destination_octets, source_octets, hops_octets, HasAddress}
use Rattle.bac_npdu_parts.specs.Messages.{MessageValue, SpellsMessage, message_value}
use Rattle.bac_npdu_parts.specs.Control.{ControlValue, IsControl}

-- The body of a frame as a value: an APDU or a network message.
pub data BodyValue : Type 0 where
  apdu : ApduValue → BodyValue
  message : MessageValue → BodyValue

-- A frame as a value: whether a reply is expected, the priority, a destination or none, a source or none, and a body.
pub record FrameValue : Type 0 where
  -- whether a reply is expected
  pub reply : Bool
  pub priority : ℕ
  pub destination : Option DestinationValue
  pub source : Option SourceValue
  pub body : BodyValue

-- The value of a destination that a program holds, or None if it holds none.
abbrev pub destination_value : Option Dest → Option DestinationValue
destination_value None = None
destination_value (Some d) = Some (record { network = d.network; address = d.address; hops = d.hops })

-- The value of a body that a program holds.
abbrev pub body_value : Body → BodyValue
body_value (held.Apdu a) = apdu (apdu_value a)
body_value (held.Net m) = message (message_value m)

-- The value of a frame that a program holds.
abbrev pub value_of : Frame → FrameValue
value_of f = record { reply = f.reply; priority = f.priority; destination = destination_value f.dest; source = f.source; body = body_value f.body }

-- Whether an optional part is there.
abbrev pub is_there : {A : Type 0} → Option A → Bool
is_there None = false
is_there (Some x) = true

-- Whether a body is a network message.
abbrev pub is_message : BodyValue → Bool
is_message (apdu a) = false
is_message (message m) = true

-- What the control octet says of a frame.
abbrev pub control_of : FrameValue → ControlValue
control_of f = record { message = is_message f.body; destination = is_there f.destination; source = is_there f.source; reply = f.reply; priority = f.priority }

-- The octets of destination, source, and the hop count of the destination, in their order.
abbrev pub addresses_of : FrameValue → List ℕ
addresses_of f = destination_octets f.destination ++ (source_octets f.source ++ hops_octets f.destination)

-- The lists that spell a body: those of its APDU or of its network message.
abbrev pub SpellsBody : BodyValue → List ℕ → Type 0
SpellsBody (apdu a) = SpellsApdu a
SpellsBody (message m) = SpellsMessage m

-- The octets are the head of the frame, and after it one of these lists as its body. The head is the version, which is 1, a
-- control octet with what control_of says, and the addresses of the frame. Each octet of the addresses is below 256. The
-- address of the source, if there is one, is not empty.
pub record Framed (f : FrameValue) (IsBody : List ℕ → Type 0) (octets : List ℕ) : Type 0 where
  pub control : ℕ
  pub body : List ℕ
  pub octets_are : octets ≡ 1 ∷ control ∷ (addresses_of f ++ body)
  pub is_control : IsControl (control_of f) control
  pub are_octets : IsOctets (addresses_of f)
  pub has_address : HasAddress f.source
  pub is_body : IsBody body

-- The lists that spell a frame: Framed, with a body that SpellsBody has. A record is tolerated if it spells some frame. It is
-- canonical if, for some frame, it is the least list that spells it.
abbrev pub SpellsFrame : FrameValue → List ℕ → Type 0
SpellsFrame f = Framed f (SpellsBody f.body)
