-- One frame of a message, and what all of them give.
use Rattle.std.proofs.Common.{◌≡◌, ℕ, true, Option, Some, None, Result, Ok, Err, List, [], ◌∷◌, map, refl, sym, ap, subst, ◌∙◌, arith}
use Rattle.std.specs.Prelude.{IfErr}
use Rattle.std.specs.List.{slice_get}
use Rattle.std.specs.Option.{option_map}
use Rattle.bac_service.specs.Services.{ServiceValue, SpellsService}
use Rattle.bac_apdu.specs.Apdus.{ApduValue}
use Rattle.bac_npdu_parts.specs.FrameHeads.{HeadValue, frame_with}
use Rattle.bac_npdu_parts.specs.declared.frame.Frame.{Frame}
use Rattle.bac_npdu_parts.specs.Frames.{FrameValue, apdu, value_of}
use Rattle.bac_segment.specs.declared.faults.Taken.{Taken}
use Rattle.bac_segment.specs.Deliveries.{Delivery}
use Rattle.bac_segment.specs.Tables.{Table, empty_table, whole}
use Rattle.bac_segment.specs.Taking.{held}
use Rattle.bac_segment.specs.Reassembled.{Reassembled, Takes}
use Rattle.bac_message.specs.declared.faults.FrameJoinFault.{FrameJoinFault}
use Rattle.bac_message.specs.declared.faults.FrameJoinFault.TheVariants.{NotSegment, Conflict, Segment, Incomplete, Content, OutOfMemory}
use Rattle.bac_message.specs.Messages.{Heads, head_of, message_by, message_of, kind_of, delivered, segments_in, heads_with, heads_of}
use Rattle.bac_message.specs.JoinedFrames.{first_heads, TakesFrame, AreOfOne, IsMisfit, IsFirstMissing, HasContent, IsServiceFault, HasNoContent, IsFrameJoinFault}

-- ---- the heads of a frame with a segment

pub heads_are : (f : FrameValue) (s : Delivery) → delivered f ≡ Some s → heads_of f ≡ Some (heads_with (head_of f) s)
heads_are f s e = ap (λ (o : Option Delivery). option_map (λ d. heads_with (head_of f) d) o) e

-- ---- a frame that is taken

pub took : (heads : Option Heads) (old new : Reassembled) (f : FrameValue) (s : Delivery) (t : Taken) → delivered f ≡ Some s → heads_of f ≡ heads → Takes old s (Ok t) new → TakesFrame heads old.table f new.table
took heads old new f s t d e h = record {
  fits = record { segment = s; holds = d; heads_are = e; taken = t; answer_is = sym h.1.0 };
  new_is = h.1.1;
}

-- ---- the frame in one piece

pub has_content : (f joined : FrameValue) (s : Delivery) (h : HeadValue) (a : ApduValue) (service : ServiceValue) (octets : List ℕ) → delivered f ≡ Some s → SpellsService true 32 (kind_of s.head) s.choice service octets
    → joined ≡ frame_with h (apdu a) → h ≡ head_of f → message_by h a ≡ Some (record { frame = h; head = s.head; service = service }) → HasContent (heads_of f) octets joined
has_content f joined s h a service octets d spells is e m = record {
  message = record { frame = h; head = s.head; service = service };
  message_is = ap message_of is ∙ m;
  heads_are = heads_are f s d
      ∙ ap (λ (x : HeadValue). let o : Option Heads = Some (record { frame = x; head = s.head; choice = s.choice }) in o) (sym e)
      ∙ ap (λ (n : ℕ). let o : Option Heads = Some (record { frame = h; head = s.head; choice = n }) in o) (sym spells.choice_is);
  spelled = subst (λ (n : ℕ). SpellsService true 32 (kind_of s.head) n service octets) (sym spells.choice_is) spells;
}

pub head_is : (f : FrameValue) (h : HeadValue) → frame_with h f.body ≡ f → h ≡ head_of f
head_is f h e = ap head_of e

-- ---- all frames

nothing_whole : whole empty_table ≡ None
unfolding empty_table
nothing_whole = refl

pub no_frames : (frames : List Frame) → slice_get frames 0 ≡ None → AreOfOne (map value_of frames) × (whole (held (segments_in (map value_of frames))) ≡ None) × IsFirstMissing (segments_in (map value_of frames)) 0
no_frames [] e = (tt, nothing_whole, record { missing = refl; others = λ q b. absurd (omega (arith, b)) })
no_frames (f ∷ fs) e = absurd (let i : Some f ≡ None = e in cc)

pub no_segment : (frames : List Frame) (f : Frame) → slice_get frames 0 ≡ Some f → delivered (value_of f) ≡ None → IsMisfit (map value_of frames) (NotSegment 0)
no_segment [] f e d = absurd (let i : None ≡ Some f = e in cc)
no_segment (x ∷ xs) f e d =
    let same : x ≡ f = (let i : Some x ≡ Some f = e in cc) in
    record { before = []; frame = value_of x; after = map value_of xs; frames_are = refl; fit = tt; misfit = (refl, ap (λ (y : Frame). delivered (value_of y)) same ∙ d) }

first_heads_are : (frames : List Frame) (f : Frame) (s : Delivery) → slice_get frames 0 ≡ Some f → delivered (value_of f) ≡ Some s → first_heads (map value_of frames) ≡ Some (heads_with (head_of (value_of f)) s)
first_heads_are [] f s e d = absurd (let i : None ≡ Some f = e in cc)
first_heads_are (x ∷ xs) f s e d =
    let same : x ≡ f = (let i : Some x ≡ Some f = e in cc) in
    ap (λ (y : Frame). heads_of (value_of y)) same ∙ heads_are (value_of f) s d

-- why the octets of a whole message are no service
pub content_fault : {T : Type 0} (frames : List Frame) (f : Frame) (s : Delivery) (m : Table) (octets : List ℕ) (result : Result T FrameJoinFault) → slice_get frames 0 ≡ Some f → delivered (value_of f) ≡ Some s → AreOfOne (map value_of frames)
    → m ≡ held (segments_in (map value_of frames)) → whole m ≡ Some octets → IfErr result (λ fault. IsServiceFault (kind_of s.head) s.choice octets fault) → IfErr result (λ fault. IsFrameJoinFault (map value_of frames) fault)
content_fault frames f s m octets (Ok x) e d one is w h = h
content_fault frames f s m octets (Err fault) e d one is w h = by_fault fault h
  where
    by_fault : (x : FrameJoinFault) → IsServiceFault (kind_of s.head) s.choice octets x → IsFrameJoinFault (map value_of frames) x
    by_fault (Content refusal) i = (octets, record { of_one = one; octets_are = ap whole (sym is) ∙ w }, subst (λ (o : Option Heads). HasNoContent o octets refusal) (sym (first_heads_are frames f s e d)) i)
    by_fault OutOfMemory i = tt
    by_fault (NotSegment k) i = absurd i
    by_fault (Conflict k) i = absurd i
    by_fault (Segment k t) i = absurd i
    by_fault (Incomplete n) i = absurd i
