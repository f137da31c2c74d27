-- What is before the body of a frame.
use Rattle.std.specs.Prelude.{ℕ, Bool, Option, Some, None, List, length, ◌<◌, refl}
use Rattle.std.specs.Coded.{Coded, code_by, coded×, coded_ℕ, coded_bool, coded_list, coded_option}
use Rattle.bac_npdu_parts.specs.declared.frame_head.Addressed.{Addressed}
use Rattle.bac_npdu_parts.specs.declared.frame_head.DestRef.{DestRef}
use Rattle.bac_npdu_parts.specs.Addresses.{SourceValue, source_code, DestinationValue}
use Rattle.bac_npdu_parts.specs.Frames.{BodyValue, FrameValue}

-- What the head of a frame says: whether a reply is expected, the priority, destination and source.
pub record HeadValue : Type 0 where
  -- whether a reply is expected
  pub reply : Bool
  pub priority : ℕ
  pub destination : Option DestinationValue
  pub source : Option SourceValue

-- The frame with this head and this body.
abbrev pub frame_with : HeadValue → BodyValue → FrameValue
frame_with h x = record { reply = h.reply; priority = h.priority; destination = h.destination; source = h.source; body = x }

-- How the logic stores a destination.
abbrev pub destination_code : Coded DestinationValue
destination_code = code_by (ℕ × (List ℕ × ℕ)) (coded× coded_ℕ (coded× (coded_list coded_ℕ) coded_ℕ)) (λ d. (d.network, (d.address, d.hops))) (λ p. record { network = p.0; address = p.1.0; hops = p.1.1 }) (λ d. refl)

-- How the logic stores the head of a frame.
abbrev pub head_code : Coded HeadValue
head_code = code_by ((Bool × ℕ) × (Option DestinationValue × Option SourceValue)) (coded× (coded× coded_bool coded_ℕ) (coded× (coded_option destination_code) (coded_option source_code)))
    (λ h. ((h.reply, h.priority), (h.destination, h.source))) (λ p. record { reply = p.0.0; priority = p.0.1; destination = p.1.0; source = p.1.1 }) (λ h. refl)

-- ---- addresses that are borrowed, as values

-- What a borrowed address says, without a hop count, or None if it is not there.
abbrev pub address_read : Option Addressed → Option SourceValue
address_read None = None
address_read (Some a) = Some (record { network = a.network; address = a.address.now })

-- What a borrowed destination says, with its hop count, or None if it is not there.
abbrev pub destination_read : Option DestRef → Option DestinationValue
destination_read None = None
destination_read (Some d) = Some (record { network = d.network; address = d.address.now; hops = d.hops })

-- An address of more than seven octets, which needs memory of the allocator.
abbrev pub IsLong : Option SourceValue → Type 0
IsLong None = ⊥
IsLong (Some s) = 7 < length s.address

-- An address of at most 255 octets, or none.
abbrev pub IsShort : Option SourceValue → Type 0
IsShort None = Unit {0}
IsShort (Some s) = length s.address < 256
