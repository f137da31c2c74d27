-- How a frame in one piece is cut into the frames of its segments (clause 5.2).
use Rattle.std.specs.Prelude.{◌≡◌, ℕ, Some, None, IsSome, List, map}
use Rattle.bac_tag.specs.Spelling.{IsLeast}
use Rattle.bac_npdu_parts.specs.Frames.{FrameValue}
use Rattle.bac_segment.specs.declared.cutting.CutPlan.{CutPlan}
use Rattle.bac_segment.specs.declared.cutting.CutFault.TheVariants.{OutOfMemory}
use Rattle.bac_segment.specs.Deliveries.{Delivery}
use Rattle.bac_segment.specs.Pieces.{IsCutOf, cut_fault}
use Rattle.bac_message.specs.declared.faults.FrameCutFault.{FrameCutFault}
use Rattle.bac_message.specs.declared.faults.FrameCutFault.TheVariants.{NoService, Cut}
use Rattle.bac_message.specs.Messages.{Message, message_of, SpellsContent, segment_frame}

-- How a message is cut into pieces of this size: each segment has the head and the choice of the message, and this
-- window.
abbrev pub plan_of : Message → ℕ → ℕ → CutPlan
plan_of m size window = record { head = m.head; choice = m.service.choice; size = size; window = window }

-- These are the frames of the segments of a frame in one piece. Its service's canonical octets are cut into pieces of
-- this size, with this window, which nothing prevents. Each segment has a frame with the head of the whole one.
pub record IsCutFrame (frame : FrameValue) (size window : ℕ) (frames : List FrameValue) : Type 0 where
  pub message : Message
  pub message_is : message_of frame ≡ Some message
  pub octets : List ℕ
  pub canonical : IsLeast (SpellsContent message) octets
  pub fine : cut_fault (plan_of message size window) octets ≡ None
  pub segments : List Delivery
  pub cut : IsCutOf (plan_of message size window) octets segments
  pub frames_are : frames ≡ map (segment_frame message.frame) segments

-- A frame is not cut for this reason. NoService: it has no message in one piece. Cut: it has one, and the canonical
-- octets of its service are not cut for this reason by cut_fault; or memory was refused.
abbrev pub IsFrameCutFault : FrameValue → ℕ → ℕ → FrameCutFault → Type 0
IsFrameCutFault frame size window NoService = message_of frame ≡ None
IsFrameCutFault frame size window (Cut OutOfMemory) = IsSome (message_of frame)
IsFrameCutFault frame size window (Cut fault) =
    (message : Message) × (message_of frame ≡ Some message)
    × ((octets : List ℕ) × IsLeast (SpellsContent message) octets × (cut_fault (plan_of message size window) octets ≡ Some fault))
