-- How the frames of segments are joined to the frame in one piece (clause 5.2).
use Rattle.std.specs.Prelude.{◌≡◌, ◌≢◌, ◌<◌, ◌==◌, ℕ, Bool, true, false, Option, Some, None, IsSome, Ok, Err, List, [], ◌∷◌, ◌++◌, length}
use Rattle.std.specs.List.{list_any}
use Rattle.bac_tag.specs.declared.refusals.Refusal.{Refusal}
use Rattle.bac_tag.specs.declared.refusals.Why.TheVariants as why
use Rattle.bac_tag.specs.Spelling.{IsWholeRefusal}
use Rattle.bac_productions.specs.Reasons.{IsServiceReason}
use Rattle.bac_service.specs.declared.kind.Kind.{Kind}
use Rattle.bac_service.specs.Services.{SpellsService}
use Rattle.bac_npdu_parts.specs.Frames.{FrameValue}
use Rattle.bac_segment.specs.declared.faults.Taken.{Taken}
use Rattle.bac_segment.specs.Deliveries.{Delivery}
use Rattle.bac_segment.specs.Tables.{Table, whole}
use Rattle.bac_segment.specs.Taking.{answer, with_next, held}
use Rattle.bac_message.specs.declared.faults.FrameJoinFault.{FrameJoinFault}
use Rattle.bac_message.specs.declared.faults.FrameJoinFault.TheVariants.{NotSegment, Conflict, Segment, Incomplete, Content, OutOfMemory}
use Rattle.bac_message.specs.Messages.{Message, Heads, message_of, kind_of, SpellsContent, delivered, segments_in, heads_of}

-- ---- which frames are of one message

-- The heads of the first frame, or none if there is no frame or it holds no segment.
abbrev pub first_heads : List FrameValue → Option Heads
first_heads [] = None
first_heads (f ∷ fs) = heads_of f

-- The frame is of the message with these heads, of which this table is held. It has the heads, and what is held takes
-- its segment.
pub record Fits (heads : Option Heads) (m : Table) (f : FrameValue) : Type 0 where
  pub segment : Delivery
  pub holds : delivered f ≡ Some segment
  pub heads_are : heads_of f ≡ heads
  pub taken : Taken
  pub answer_is : answer m segment ≡ Ok taken

-- The frame is of the message, and with its segment the new table is held.
pub record TakesFrame (heads : Option Heads) (old : Table) (f : FrameValue) (new : Table) : Type 0 where
  pub fits : Fits heads old f
  pub new_is : new ≡ with_next old fits.segment

-- Why a frame is not of the message with these heads, of which this table is held. The index is that of the frame.
-- NotSegment: it holds no segment. Conflict: it has other heads. Segment: its segment is not taken, for the fault that
-- is named.
abbrev pub Misfits : Option Heads → Table → ℕ → FrameValue → FrameJoinFault → Type 0
Misfits heads m index f (NotSegment i) = (i ≡ index) × (delivered f ≡ None)
Misfits heads m index f (Conflict i) = (i ≡ index) × IsSome (delivered f) × (heads_of f ≢ heads)
Misfits heads m index f (Segment i fault) = (i ≡ index) × (heads_of f ≡ heads) × ((s : Delivery) × (delivered f ≡ Some s) × (answer m s ≡ Err fault))
Misfits heads m index f _ = ⊥

-- Each of the last frames is of the message with these heads, by what is held of those before it. The first frames are
-- before all of them.
abbrev pub AllFit : Option Heads → List FrameValue → List FrameValue → Type 0
AllFit heads before [] = Unit {0}
AllFit heads before (f ∷ fs) = Fits heads (held (segments_in before)) f × AllFit heads (before ++ f ∷ []) fs

-- The frames are of one message. Each holds a segment with the heads of the first, and what is held of those before it
-- takes the segment.
abbrev pub AreOfOne : List FrameValue → Type 0
AreOfOne frames = AllFit (first_heads frames) [] frames

-- A frame is not of the message of those before it, for the reason that is named. Those before it are of one message.
pub record IsMisfit (frames : List FrameValue) (fault : FrameJoinFault) : Type 0 where
  pub before : List FrameValue
  pub frame : FrameValue
  pub after : List FrameValue
  pub frames_are : frames ≡ before ++ frame ∷ after
  pub fit : AllFit (first_heads frames) [] before
  pub misfit : Misfits (first_heads frames) (held (segments_in before)) (length before) frame fault

-- ---- what is missing

-- True if one of the segments has this number.
abbrev pub has_number : List Delivery → ℕ → Bool
has_number segments n = list_any (λ s. s.seq == n) segments

-- The number is the first that no segment has.
pub record IsFirstMissing (segments : List Delivery) (n : ℕ) : Type 0 where
  pub missing : has_number segments n ≡ false
  pub others : (q : ℕ) → q < n → has_number segments q ≡ true

-- ---- what the frames of segments give

-- The frames are of one message, whose segments are all there. These are its joined octets.
pub record AreWhole (frames : List FrameValue) (octets : List ℕ) : Type 0 where
  pub of_one : AreOfOne frames
  pub octets_are : whole (held (segments_in frames)) ≡ Some octets

-- The frame in one piece has these heads, and the service that the octets spell under them.
pub record HasContent (heads : Option Heads) (octets : List ℕ) (frame : FrameValue) : Type 0 where
  pub message : Message
  pub message_is : message_of frame ≡ Some message
  pub heads_are : heads ≡ Some (record { frame = message.frame; head = message.head; choice = message.service.choice })
  pub spelled : SpellsContent message octets

-- The octets spell no service of this kind and this choice, and the refusal says why, and where they stop to begin one.
pub record IsNoService (of_kind : Kind) (choice : ℕ) (octets : List ℕ) (refusal : Refusal) : Type 0 where
  pub refused : IsWholeRefusal (SpellsService true 32 of_kind choice) octets refusal
  pub reason : IsServiceReason refusal.why
  pub memory : refusal.why ≢ why.OutOfMemory

-- Why the octets give no service: Content with the refusal, or memory was refused.
abbrev pub IsServiceFault : Kind → ℕ → List ℕ → FrameJoinFault → Type 0
IsServiceFault of_kind choice octets (Content refusal) = IsNoService of_kind choice octets refusal
IsServiceFault of_kind choice octets OutOfMemory = Unit {0}
IsServiceFault of_kind choice octets _ = ⊥

-- The octets give no service under these heads.
abbrev pub HasNoContent : Option Heads → List ℕ → Refusal → Type 0
HasNoContent None octets refusal = ⊥
HasNoContent (Some heads) octets refusal = IsNoService (kind_of heads.head) heads.choice octets refusal

-- The frames are of one message whose segments are all there, and this is the frame that has it in one piece.
abbrev pub IsJoinedFrame : List FrameValue → FrameValue → Type 0
IsJoinedFrame frames frame = (octets : List ℕ) × AreWhole frames octets × HasContent (first_heads frames) octets frame

-- Why the frames are not joined. Incomplete: they are of one message, and the first segment that is missing has this
-- number. Content: they are of one message whose segments are all there, and the joined octets spell no service.
-- OutOfMemory: memory was refused. Otherwise they are not of one message, and the fault is that of the first frame that
-- is not of it.
abbrev pub IsFrameJoinFault : List FrameValue → FrameJoinFault → Type 0
IsFrameJoinFault frames (Incomplete n) = AreOfOne frames × (whole (held (segments_in frames)) ≡ None) × IsFirstMissing (segments_in frames) n
IsFrameJoinFault frames (Content refusal) = (octets : List ℕ) × AreWhole frames octets × HasNoContent (first_heads frames) octets refusal
IsFrameJoinFault frames OutOfMemory = Unit {0}
IsFrameJoinFault frames fault = IsMisfit frames fault
