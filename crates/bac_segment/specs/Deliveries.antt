-- Segments as they are delivered, without where they lie in memory.
use Rattle.std.specs.Prelude.{ℕ, Bool, true, false, List}
use Rattle.bac_apdu.specs.declared.segment.SegHead.{SegHead}
use Rattle.bac_apdu.specs.declared.segment.SegHead.TheVariants.{Request, Ack}
use Rattle.bac_apdu.specs.declared.segment.Segment.{Segment}
use Rattle.bac_segment.specs.declared.keys.Key.{Key}

-- A segment as a value: its head, its window, its choice, its number, whether others follow, and its piece.
pub record Delivery : Type 0 where
  pub head : SegHead
  pub window : ℕ
  pub choice : ℕ
  pub seq : ℕ
  pub more : Bool
  pub piece : List ℕ

-- The Delivery of a Segment, which leaves out where its piece lies in memory.
abbrev pub delivery : Segment → Delivery
delivery s = record { head = s.head; window = s.window; choice = s.choice; seq = s.seq; more = s.more; piece = s.piece.items }

-- True if a segment with this head is of a Confirmed-Request, and false if it is of a ComplexACK.
abbrev pub is_request : SegHead → Bool
is_request (Request head) = true
is_request (Ack invoke) = false

-- The invoke id in the head of a segment.
abbrev pub invoke_of : SegHead → ℕ
invoke_of (Request head) = head.invoke
invoke_of (Ack invoke) = invoke

-- The key of a segment if this sender sent it: the sender, whether the segment is of a request, its invoke id and its
-- choice.
abbrev pub key_of : ℕ → Delivery → Key
key_of peer s = record { peer = peer; request = is_request s.head; invoke = invoke_of s.head; choice = s.choice }
