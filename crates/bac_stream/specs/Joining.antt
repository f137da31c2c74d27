-- Segments that come in frames, joined to services.
use Rattle.std.specs.Prelude.{◌≡◌, ◌≢◌, ℕ, Bool, true, false, Option, Some, None, Result, Ok, Err, List, ⊤}
use Rattle.bac_tag.specs.declared.refusals.Refusal.{Refusal}
use Rattle.bac_tag.specs.declared.refusals.Why.TheVariants.{OutOfMemory}
use Rattle.bac_tag.specs.Spelling.{IsWholeRefusal}
use Rattle.bac_productions.specs.Reasons.{IsServiceReason}
use Rattle.bac_service.specs.declared.kind.Kind.{Kind}
use Rattle.bac_service.specs.declared.kind.Kind.TheVariants.{Confirmed, ComplexAck}
use Rattle.bac_service.specs.Services.{ServiceValue, value_of as service_of, SpellsService}
use Rattle.bac_service.specs.ServiceTable.{is_small}
use Rattle.bac_apdu.specs.declared.segment.SegHead.{SegHead}
use Rattle.bac_apdu.specs.declared.segment.SegHead.TheVariants.{Request, Ack}
use Rattle.bac_apdu.specs.Apdus.{ApduValue, segment}
use Rattle.bac_npdu_parts.specs.Frames.{FrameValue, BodyValue, apdu}
use Rattle.bac_segment.specs.declared.faults.Taken.TheVariants as taken
use Rattle.bac_segment.specs.declared.faults.TakeFault.TheVariants as fault
use Rattle.bac_segment.specs.Deliveries.{Delivery, key_of}
use Rattle.bac_segment.specs.Tables.{whole}
use Rattle.bac_segment.specs.Taking.{Answer}
use Rattle.bac_segment.specs.Reassembled.{Reassembled}
use Rattle.bac_segment.specs.Desks.{DeskTakes, held_of}
use Rattle.bac_stream.specs.declared.joined.Joined.{Joined}
use Rattle.bac_stream.specs.declared.joined.Joined.TheVariants.{NotSegment, Kept, Repeat, Message}
use Rattle.bac_stream.specs.declared.joined.JoinFault.{JoinFault}
use Rattle.bac_stream.specs.declared.joined.JoinFault.TheVariants.{Take, Content}

-- The segment that an APDU is, or none.
abbrev pub delivered_by : ApduValue → Option Delivery
delivered_by (segment head seq size more choice piece) =
    Some (record { head = head; window = size; choice = choice; seq = seq; more = more; piece = piece })
delivered_by _ = None

-- The segment that the body of a frame holds, or none.
abbrev pub delivered_in : BodyValue → Option Delivery
delivered_in (apdu a) = delivered_by a
delivered_in _ = None

-- The segment that a frame holds, or none.
abbrev pub delivered : FrameValue → Option Delivery
delivered frame = delivered_in frame.body

-- The kind of the services of which there are segments with this head: Confirmed of a request, else ComplexAck.
abbrev pub kind_of : SegHead → Kind
kind_of (Request head) = Confirmed
kind_of (Ack invoke) = ComplexAck

-- The octets spell the service of which this is a segment, under the kind and the choice of the segment.
abbrev pub SpellsMessage : Delivery → ServiceValue → List ℕ → Type 0
SpellsMessage s service octets = SpellsService true 32 (kind_of s.head) s.choice service octets

-- The octets spell no service of which this is a segment, and the refusal says why and where they stop to begin one, by
-- IsWholeRefusal; or memory was refused. That has place 0, and is not reported for a small service.
pub record IsNoMessage (s : Delivery) (octets : List ℕ) (refusal : Refusal) : Type 0 where
  pub refused : refusal.why ≢ OutOfMemory → IsWholeRefusal (SpellsMessage s) octets refusal
  pub memory : refusal.why ≡ OutOfMemory → (refusal.place ≡ 0) × (is_small (kind_of s.head) s.choice ≡ false)
  pub reasons : IsServiceReason refusal.why

-- The answer if the message of this segment is whole: its service, or why it is none.
abbrev pub IsFromMessage : Delivery → List ℕ → Result Joined JoinFault → Type 0
IsFromMessage s octets (Ok (Message service)) = SpellsMessage s (service_of service) octets
IsFromMessage s octets (Err (Content refusal)) = IsNoMessage s octets refusal
IsFromMessage s octets _ = ⊥

-- What join returns, by the answer of the desk and by the message of the key, if that is whole then.
abbrev pub IsJoined : Delivery → Answer → Option (List ℕ) → Result Joined JoinFault → Type 0
IsJoined s (Ok taken.Kept) octets result = result ≡ Ok Kept
IsJoined s (Ok taken.Repeat) octets result = result ≡ Ok Repeat
IsJoined s (Ok taken.Complete) octets result = (message : List ℕ) × (octets ≡ Some message) × IsFromMessage s message result
IsJoined s (Err refused) octets result = result ≡ Err (Take refused)

-- The step of join: what it returns, and what it leaves of the desk. The desk takes the segment; or the frame holds none, the
-- answer is NotSegment, and nothing changes.
abbrev pub DeskJoins : List Reassembled → ℕ → Option Delivery → Result Joined JoinFault → List Reassembled → Type 0
DeskJoins old peer None result new = (result ≡ Ok NotSegment) × (new ≡ old)
DeskJoins old peer (Some s) result new =
    (answer : Answer) × DeskTakes old peer s answer new × IsJoined s answer (whole (held_of new (key_of peer s))) result

-- The fault is that of the octets of a whole message, so the segment was taken.
abbrev pub is_taken : JoinFault → Bool
is_taken (Take refused) = false
is_taken (Content refusal) = true

-- The answers to a segment of a service's only cut: Kept, Repeat, this service, OutOfMemory or DeskFull. The segment is kept,
-- is there already, or completes this service, unless memory is refused or eight other keys are open.
abbrev pub IsGoodJoin : ServiceValue → Result Joined JoinFault → Type 0
IsGoodJoin service (Ok Kept) = ⊤
IsGoodJoin service (Ok Repeat) = ⊤
IsGoodJoin service (Ok (Message found)) = service_of found ≡ service
IsGoodJoin service (Ok NotSegment) = ⊥
IsGoodJoin service (Err (Take fault.OutOfMemory)) = ⊤
IsGoodJoin service (Err (Take fault.DeskFull)) = ⊤
IsGoodJoin service (Err (Take _)) = ⊥
IsGoodJoin service (Err (Content refusal)) = refusal.why ≡ OutOfMemory

-- The answers to the last missing segment of a service's only cut: this service, OutOfMemory or DeskFull. The segment completes
-- this service, unless memory is refused or eight other keys are open.
abbrev pub IsLastJoin : ServiceValue → Result Joined JoinFault → Type 0
IsLastJoin service (Ok (Message found)) = service_of found ≡ service
IsLastJoin service (Ok _) = ⊥
IsLastJoin service (Err (Take fault.OutOfMemory)) = ⊤
IsLastJoin service (Err (Take fault.DeskFull)) = ⊤
IsLastJoin service (Err (Take _)) = ⊥
IsLastJoin service (Err (Content refusal)) = refusal.why ≡ OutOfMemory
