-- The fields of a frame (clause 6.2).
use Rattle.std.specs.Prelude.{ℕ, ◌+◌, ◌^◌, ◌<◌, Bool, Option, None, Some, List, [], ◌∷◌, ◌++◌, length}
use Rattle.bac_tag.specs.Spelling.{IsLeast}
use Rattle.bac_npdu_parts.specs.Addresses.{SourceValue, DestinationValue}
use Rattle.bac_npdu_parts.specs.Frames.{FrameValue, BodyValue, apdu, message, SpellsFrame}
use Rattle.bac_field_parts.specs.declared.names.Name.TheVariants as name
use Rattle.bac_field_parts.specs.declared.field.Field.{Field}
use Rattle.bac_field_parts.specs.Fields.{FieldValue, Step, next, aside, pass, address_field, fields_of, placed, Fits}
use Rattle.bac_field_parts.specs.PrimitiveFields.{truth}
use Rattle.bac_fields.specs.ApduFields.{apdu_steps}
use Rattle.bac_fields.specs.MessageFields.{message_steps}

-- How many octets a source takes: network, length, address.
abbrev pub source_size : Option SourceValue → ℕ
source_size None = 0
source_size (Some source) = 3 + length source.address

-- The steps of a destination, if there is one. Its hop count is after the source, so many octets further.
abbrev pub destination_steps : ℕ → Option DestinationValue → List Step
destination_steps size None = []
destination_steps size (Some destination) = next (address_field name.Destination destination.network destination.address) ∷ aside size name.HopCount destination.hops ∷ []

-- The steps of a source, if there is one.
abbrev pub source_steps : Option SourceValue → List Step
source_steps None = []
source_steps (Some source) = next (address_field name.Source source.network source.address) ∷ []

-- The step over the octet of the hop count, if there is a destination.
abbrev pub hops_steps : Option DestinationValue → List Step
hops_steps None = []
hops_steps (Some destination) = pass 1 ∷ []

-- The steps of destination and source, and over the octet of the hop count, which is after the source.
abbrev pub addresses_steps : Option DestinationValue → Option SourceValue → List Step
addresses_steps destination source = destination_steps (source_size source) destination ++ (source_steps source ++ hops_steps destination)

-- The steps of the body of a frame, which is an APDU or a network message.
abbrev pub body_steps : BodyValue → List Step
body_steps (apdu a) = apdu_steps a
body_steps (message m) = message_steps m

-- The steps of the version, which belongs to no field, and of the two numbers of the control octet.
abbrev pub control_steps : ℕ → Bool → List Step
control_steps priority reply = pass 1 ∷ aside 0 name.NetworkPriority priority ∷ aside 0 name.ReplyExpected (truth reply) ∷ pass 1 ∷ []

-- The steps of a frame: the version and the control octet, destination and source, the body.
abbrev pub frame_steps : FrameValue → List Step
frame_steps frame = control_steps frame.priority frame.reply ++ (addresses_steps frame.destination frame.source ++ body_steps frame.body)

-- The fields of a frame, in the order of the line.
abbrev pub fields : FrameValue → List FieldValue
fields frame = fields_of (frame_steps frame)

-- The fields of a frame, each with the place of its octets in the canonical octets.
abbrev pub placed_fields : FrameValue → List Field
placed_fields frame = placed 0 (frame_steps frame)

-- The frame has fewer than 2^64 fields and fewer than 2^64 canonical octets. So each number of its placed fields fits in a
-- usize.
pub record FrameFits (frame : FrameValue) : Type 0 where
  pub few_fields : length (placed_fields frame) < 2 ^ 64
  pub octets : List ℕ
  pub is_least : IsLeast (SpellsFrame frame) octets
  pub few_octets : length octets < 2 ^ 64

-- Each number of the steps of the frame fits in a usize. It is so where the frame fits (FrameFits).
abbrev pub StepsFit : FrameValue → Type 0
StepsFit frame = Fits (record { room = []; count = 0; place = 0 }) (frame_steps frame)
