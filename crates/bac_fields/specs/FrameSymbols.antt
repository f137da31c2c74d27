-- The symbols of frames.
use Rattle.std.specs.Prelude.{◌≡◌, ℕ, ◌+◌, ◌*◌, ◌<◌, ◌≤◌, Bool, IsTrue, Option, None, Some, List, [], ◌∷◌, ◌++◌, length, take, drop}
use Rattle.std.specs.Option.{option_map_or, option_map}
use Rattle.bac_tag.specs.Octets.{IsOctets}
use Rattle.bac_tag.specs.Spelling.{AppendsLeast}
use Rattle.bac_npdu_parts.specs.declared.frame_head.DestRef.{DestRef}
use Rattle.bac_npdu_parts.specs.Addresses.{SourceValue, DestinationValue}
use Rattle.bac_npdu_parts.specs.Frames.{FrameValue, BodyValue, SpellsBody, SpellsFrame}
use Rattle.bac_field_parts.specs.declared.field.Field.{Field}
use Rattle.bac_fields.specs.FrameFields.{frame_steps, body_steps}
use Rattle.bac_field_parts.specs.PrimitiveFields.{truth}
use Rattle.bac_field_parts.specs.Symbols.{Symbol, Language, IsStop, Read, Unwritten, finished, steps_said, number_said, contents_said, has, lead_in, symbols_in}

-- The symbols of the fields of a frame, and the one after them.
abbrev pub frame_said : FrameValue → List Symbol
frame_said frame = steps_said (frame_steps frame) ++ finished ∷ []

-- The symbols of the fields of a body, and the one after them.
abbrev pub body_said : BodyValue → List Symbol
body_said body = steps_said (body_steps body) ++ finished ∷ []

-- ---- what comes before the body

-- The symbols of an address under the name with this number.
abbrev pub address_said : ℕ → SourceValue → List Symbol
address_said name = contents_said name (λ a. a.network) (λ a. a.address)

-- The network and the octets of an address are in their ranges, and it has at least so many octets and at most 255.
abbrev pub address_fits : ℕ → SourceValue → Type 0
address_fits least a = (a.network < 65536) × ((least ≤ length a.address) × ((length a.address < 256) × IsOctets a.address))

-- A hop count is one octet.
abbrev pub hops_fit : ℕ → Type 0
hops_fit hops = hops < 256

-- The symbols of a destination: an address, and a hop count.
abbrev pub destination_said : SourceValue × ℕ → List Symbol
destination_said d = address_said 3 d.0 ++ number_said 4 (λ n. n) d.1

-- The numbers of a destination are in their ranges. Its address may be empty.
abbrev pub destination_fits : SourceValue × ℕ → Type 0
destination_fits d = address_fits 0 d.0 × hops_fit d.1

-- The symbols of a source.
abbrev pub source_said : SourceValue → List Symbol
source_said = address_said 5

-- The numbers of a source are in their ranges. Its address is not empty.
abbrev pub source_fits : SourceValue → Type 0
source_fits = address_fits 1

-- The symbols of the priority, and of whether a reply is expected.
abbrev pub control_said : ℕ × Bool → List Symbol
control_said c = number_said 1 (λ n. n) c.0 ++ number_said 2 truth c.1

-- A priority is below 4.
abbrev pub priority_fits : ℕ → Type 0
priority_fits n = n < 4

-- Whether a reply is expected has no range: any truth value fits.
abbrev pub reply_fits : Bool → Type 0
reply_fits reply = Unit {0}

-- The priority fits, and so does whether a reply is expected.
abbrev pub control_fits : ℕ × Bool → Type 0
control_fits c = priority_fits c.0 × reply_fits c.1

-- The lead of a destination, which is the number of its name.
abbrev pub destination_leads : List (Option ℕ)
destination_leads = Some 3 ∷ []

-- The lead of a source, which is the number of its name.
abbrev pub source_leads : List (Option ℕ)
source_leads = Some 5 ∷ []

-- The address and the hop count of a borrowed destination, if there is one.
abbrev pub destination_parts : Option DestRef → Option (SourceValue × ℕ)
destination_parts to = option_map (λ d. (record { network = d.network; address = d.address.now }, d.hops)) to

-- So many fields say a part that may be absent. The part is there exactly if the fields begin with one of its leads. If it
-- is absent, no field says it.
abbrev pub IsOptionalRead : {V : Type 0} → (V → List Symbol) → (V → Type 0) → List (Option ℕ) → List ℕ → List Field → Option V → ℕ → Type 0
IsOptionalRead said fits leads octets fields None n = (n ≡ 0) × (IsTrue (has leads (lead_in fields)) → ⊥)
IsOptionalRead said fits leads octets fields (Some v) n = (n ≤ length fields) × (IsTrue (has leads (lead_in fields)) × Read said fits (symbols_in octets fields) (3 * n) v)

-- ---- a frame by its head and its body

-- What the head of a frame says: priority, whether a reply is expected, destination and source.
abbrev pub HeadSaid : Type 0
HeadSaid = (ℕ × Bool) × (Option (SourceValue × ℕ) × Option SourceValue)

-- The destination with this address and this hop count, if there is one.
abbrev pub destination_of_parts : Option (SourceValue × ℕ) → Option DestinationValue
destination_of_parts d = option_map (λ p. record { network = p.0.network; address = p.0.address; hops = p.1 }) d

-- The frame with this head and this body.
abbrev pub frame_of_parts : HeadSaid → BodyValue → FrameValue
frame_of_parts h body = record { reply = h.0.1; priority = h.0.0; destination = destination_of_parts h.1.0; source = h.1.1; body = body }

-- The property holds of what is there. Nothing is required if it is absent.
abbrev pub IfThere : {V : Type 0} → (V → Type 0) → Option V → Type 0
IfThere F None = Unit {0}
IfThere F (Some v) = F v

-- The numbers of the head of a frame are in their ranges.
abbrev pub HeadFits : HeadSaid → Type 0
HeadFits h = control_fits h.0 × (IfThere destination_fits h.1.0 × IfThere source_fits h.1.1)

-- The symbols of the head of a frame.
abbrev pub head_said : HeadSaid → List Symbol
head_said h = control_said h.0 ++ (option_map_or destination_said h.1.0 [] ++ option_map_or source_said h.1.1 [])

-- So many fields say the head of a frame, and what stops the body after them stops the frame.
pub record IsHeadOf (octets : List ℕ) (fields : List Field) (n : ℕ) (h : HeadSaid) : Type 0 where
  pub within : n ≤ length fields
  pub is_said : take (3 * n) (symbols_in octets fields) ≡ head_said h
  pub fits : HeadFits h
  pub stops : (p : ℕ) → IsStop (Language body_said SpellsBody) (symbols_in octets (drop n fields)) p → IsStop (Language frame_said SpellsFrame) (symbols_in octets fields) (3 * n + p)

-- So many symbols say a body, and the canonical octets of the frame with this head and that body are appended.
pub record MadeAfter (h : HeadSaid) (es : List Symbol) (n : ℕ) (old new : List ℕ) : Type 0 where
  pub body : BodyValue
  pub within : n ≤ length es
  pub is_said : take n es ≡ body_said body
  pub appended : AppendsLeast (SpellsFrame (frame_of_parts h body)) old new

-- The fields begin with one of the leads, and a list that begins so is stopped at this place.
abbrev pub IsLedStop : {V : Type 0} → (V → List Symbol) → (V → Type 0) → List (Option ℕ) → List ℕ → List Field → ℕ → Type 0
IsLedStop said fits leads octets fields place = IsTrue (has leads (lead_in fields)) × IsStop (Language said (Unwritten fits)) (symbols_in octets fields) place
