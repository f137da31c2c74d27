-- What the steps of joining records give.
use Rattle.std.specs.Prelude.{◌≡◌, ◌++◌, ℕ, Option, Some, None, List, length}
use Rattle.bac_tag.specs.HeadOctets.{Part}
use Rattle.bac_tag.specs.Spelling.{IsLeast}
use Rattle.bac_service.specs.Services.{ServiceValue}
use Rattle.bac_apdu.specs.declared.segment.SegHead.{SegHead}
use Rattle.bac_apdu.specs.declared.segment.SegHead.TheVariants.{Request, Ack}
use Rattle.bac_apdu.specs.ConfirmedRequest.{confirmed_request_head}
use Rattle.bac_apdu.specs.ComplexAck.{complex_ack_head}
use Rattle.bac_npdu_parts.specs.Frames.{FrameValue, SpellsFrame}
use Rattle.bac_segment.specs.Tables.{Table, whole}
use Rattle.bac_segment.specs.Taking.{held}
use Rattle.bac_message.specs.declared.faults.FrameJoinFault.{FrameJoinFault}
use Rattle.bac_message.specs.declared.faults.FrameJoinFault.TheVariants.{Incomplete, Content, OutOfMemory}
use Rattle.bac_message.specs.Messages.{Heads, SpellsContent, frame_of, message_with, segments_in}
use Rattle.bac_message.specs.JoinedFrames.{AreOfOne, HasContent, HasNoContent, IsFirstMissing, IsFrameJoinFault, Misfits, TakesFrame, first_heads}
use Rattle.bac_message.specs.FrameRecords.{SpellRecords}
use Rattle.bac_message.specs.Gathered.{first_gap}

-- ---- records one after another

-- Whatever frames the records spell, the first of them has these heads.
abbrev pub HaveFirst : List ℕ → Option Heads → Type 0
HaveFirst records heads = (frames : List FrameValue) → SpellRecords frames records → first_heads frames ≡ heads

-- The records before the rest spell so many frames, and those have the fault, whatever frames the rest spells.
pub record HasFaultBefore (count : ℕ) (records rest : List ℕ) (fault : FrameJoinFault) : Type 0 where
  pub frames : List FrameValue
  pub front : List ℕ
  pub spelled : SpellRecords frames front
  pub count_is : count ≡ length frames
  pub sum : records ≡ front ++ rest
  pub fault_is : (after : List FrameValue) → SpellRecords (frames ++ after) records → IsFrameJoinFault (frames ++ after) fault

-- If there is no fault, the frame with this index is of the message with these heads of which the old table is held, and the new
-- one is held with it. If there is one, the frame is not of the message, for this reason.
abbrev pub GathersFrame : Option Heads → Table → ℕ → FrameValue → Option FrameJoinFault → Table → Type 0
GathersFrame heads old index f None new = TakesFrame heads old f new
GathersFrame heads old index f (Some fault) new = Misfits heads old index f fault

-- The records spell frames of one message with these heads, and this table is held of their segments. The first number that is
-- not held is the first that is missing.
pub record GivesTable (records : List ℕ) (heads : Option Heads) (m : Table) : Type 0 where
  pub frames : List FrameValue
  pub spelled : SpellRecords frames records
  pub heads_are : first_heads frames ≡ heads
  pub of_one : AreOfOne frames
  pub table_is : m ≡ held (segments_in frames)
  pub gap_is : IsFirstMissing (segments_in frames) (first_gap m)

-- ---- the frame in one piece

-- The parts of the head of an APDU in one piece, with the head that its segments have.
abbrev pub head_parts : SegHead → ℕ → List Part
head_parts (Request head) choice = confirmed_request_head head choice
head_parts (Ack invoke) choice = complex_ack_head invoke choice

-- The canonical octets of a service after the front are the canonical ones of the frame in one piece that has these heads and
-- the service.
abbrev pub OpensFrame : Heads → List ℕ → Type 0
OpensFrame heads front =
    (service : ServiceValue) (octets : List ℕ) → service.choice ≡ heads.choice → IsLeast (SpellsContent (message_with heads service)) octets → IsLeast (SpellsFrame (frame_of (message_with heads service))) (front ++ octets)

-- The frame in one piece that has these heads, and the service that the octets spell, has these canonical octets.
pub record GivesFrame (heads : Option Heads) (octets canonical : List ℕ) : Type 0 where
  pub frame : FrameValue
  pub content : HasContent heads octets frame
  pub is_least : IsLeast (SpellsFrame frame) canonical

-- The message of which the table is held is whole, and its frame in one piece has these heads and these canonical octets.
abbrev pub GivesWhole : Option Heads → Table → List ℕ → Type 0
GivesWhole heads m canonical = (octets : List ℕ) × (whole m ≡ Some octets) × GivesFrame heads octets canonical

-- Why the message of which the table is held gives no frame in one piece with these heads. Incomplete: it is not whole, and the
-- number is the first that is not held. Content: its octets spell no service. OutOfMemory: memory was refused.
abbrev pub IsWholeFault : Option Heads → Table → FrameJoinFault → Type 0
IsWholeFault heads m (Incomplete n) = (whole m ≡ None) × (n ≡ first_gap m)
IsWholeFault heads m (Content refusal) = (octets : List ℕ) × (whole m ≡ Some octets) × HasNoContent heads octets refusal
IsWholeFault heads m OutOfMemory = Unit {0}
IsWholeFault heads m _ = ⊥
