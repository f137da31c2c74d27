-- Frames of one cut.
use Rattle.std.proofs.Common.{◌≡◌, ◌⊎◌, inl, inr, ℕ, ◌+◌, true, false, Option, Some, None, Ok, Err, List, [], ◌∷◌, ◌++◌, length, map, refl, sym, ap, subst, ◌∙◌}
use Rattle.std.specs.List.{cons_option}
use Rattle.bac_tag.specs.Spelling.{IsLeast}
use Rattle.bac_tag.specs.Laws.Spelling.{IsLeast-one}
use Rattle.bac_service.specs.declared.kind.Kind.{Kind}
use Rattle.bac_service.specs.Services.{ServiceValue, SpellsService}
use Rattle.bac_apdu.specs.declared.segment.SegHead.{SegHead}
use Rattle.bac_npdu_parts.specs.FrameHeads.{HeadValue}
use Rattle.bac_npdu_parts.specs.Frames.{FrameValue}
use Rattle.bac_segment.specs.declared.cutting.CutPlan.{CutPlan}
use Rattle.bac_segment.specs.declared.faults.Taken.{Taken}
use Rattle.bac_segment.specs.declared.faults.TakeFault.TheVariants as fault
use Rattle.bac_segment.specs.Deliveries.{Delivery}
use Rattle.bac_segment.specs.Tables.{Table, whole}
use Rattle.bac_segment.specs.Taking.{Answer, answer, held}
use Rattle.bac_segment.specs.Pieces.{ArePieces, segments_from}
use Rattle.bac_segment.specs.Cuts.{IsOneOf, AreAmong, IsGood}
use Rattle.bac_segment.proofs.JoinLemmas.{cut_gives, cut_answered}
use Rattle.bac_segment.proofs.JudgeLemmas.{no_fault_of}
use Rattle.bac_segment.proofs.PieceLemmas.{one_list}
use Rattle.bac_message.specs.declared.faults.FrameJoinFault.{FrameJoinFault}
use Rattle.bac_message.specs.declared.faults.FrameJoinFault.TheVariants.{NotSegment, Conflict, Segment, Incomplete, Content, OutOfMemory}
use Rattle.bac_message.specs.Messages.{Message, Heads, kind_of, SpellsContent, segment_frame, delivered, segments_in, heads_of}
use Rattle.bac_message.specs.CutFrames.{plan_of, IsCutFrame}
use Rattle.bac_message.specs.JoinedFrames.{first_heads, Fits, Misfits, IsMisfit, IsNoService, HasNoContent, IsJoinedFrame, IsFrameJoinFault}
use Rattle.bac_message.specs.FrameCuts.{IsOneFrame, AreFramesOf, IsLack}
use Rattle.bac_message.proofs.WholeLemmas.{one_frame}

-- what the segments of a message have in common
abbrev common : Message → Heads
common m = record { frame = m.frame; head = m.head; choice = m.service.choice }

some_is : {A : Type 0} (a b : A) → Some a ≡ Some b → a ≡ b
some_is a b h = let e : Some a ≡ Some b = h in cc

-- ---- segments and their frames

one_segment : (h : HeadValue) (segments : List Delivery) (f : FrameValue) → IsOneFrame (map (segment_frame h) segments) f → (s : Delivery) × IsOneOf segments s × (f ≡ segment_frame h s)
one_segment h [] f i = absurd i
one_segment h (s ∷ ss) f (inl e) = (s, inl refl, e)
one_segment h (s ∷ ss) f (inr i) = let r = one_segment h ss f i in (r.0, inr r.1, r.2)

-- head and choice are those of the plan
of_plan : (plan : CutPlan) (q : ℕ) (pieces : List (List ℕ)) (s : Delivery) → IsOneOf (segments_from plan q pieces) s → (s.head ≡ plan.head) × (s.choice ≡ plan.choice)
of_plan plan q [] s h = absurd h
of_plan plan q (piece ∷ pieces) s (inl h) = (ap (λ (d : Delivery). d.head) h, ap (λ (d : Delivery). d.choice) h)
of_plan plan q (piece ∷ pieces) s (inr h) = of_plan plan (q + 1) pieces s h

segments_next : (f : FrameValue) (fs : List FrameValue) (s : Delivery) → delivered f ≡ Some s → segments_in (f ∷ fs) ≡ s ∷ segments_in fs
segments_next f fs s e = ap (λ (o : Option Delivery). cons_option o (segments_in fs)) e

in_segments : (l : List FrameValue) (f : FrameValue) (s : Delivery) → IsOneFrame l f → delivered f ≡ Some s → IsOneOf (segments_in l) s
in_segments [] f s i e = absurd i
in_segments (x ∷ xs) f s (inl i) e = subst (λ (l : List Delivery). IsOneOf l s) (sym (segments_next x xs s (ap delivered (sym i) ∙ e))) (inl refl)
in_segments (x ∷ xs) f s (inr i) e = by_first (delivered x) (in_segments xs f s i e)
  where
    by_first : (o : Option Delivery) → IsOneOf (segments_in xs) s → IsOneOf (cons_option o (segments_in xs)) s
    by_first None j = j
    by_first (Some y) j = inr j

frames_append : (cuts l : List FrameValue) (f : FrameValue) → AreFramesOf cuts l → IsOneFrame cuts f → AreFramesOf cuts (l ++ f ∷ [])
frames_append cuts [] f a i = (i, tt)
frames_append cuts (x ∷ xs) f a i = (a.0, frames_append cuts xs f a.1 i)

frames_part : (cuts before after : List FrameValue) (f : FrameValue) → AreFramesOf cuts (before ++ f ∷ after) → AreFramesOf cuts before × IsOneFrame cuts f
frames_part cuts [] after f a = (tt, a.0)
frames_part cuts (x ∷ xs) after f a = let r = frames_part cuts xs after f a.1 in ((a.0, r.0), r.1)

some_frame : (before after : List FrameValue) (f : FrameValue) → before ++ f ∷ after ≡ [] → ⊥
some_frame [] after f e = let h : f ∷ after ≡ [] = e in cc
some_frame (x ∷ xs) after f e = let h : x ∷ (xs ++ f ∷ after) ≡ [] = e in cc

-- ---- what is held takes a segment of the cut

is_taken : (m : Table) (s : Delivery) (a : Answer) → answer m s ≡ a → IsGood a → (t : Taken) × (answer m s ≡ Ok t)
is_taken m s (Ok t) e g = (t, e)
is_taken m s (Err fault.OtherKey) e g = absurd (no_fault_of m s fault.OtherKey tt e)
is_taken m s (Err fault.OutOfMemory) e g = absurd (no_fault_of m s fault.OutOfMemory tt e)
is_taken m s (Err fault.DeskFull) e g = absurd (no_fault_of m s fault.DeskFull tt e)
is_taken m s (Err fault.Conflict) e g = absurd (let i : true ≡ false = g in cc)
is_taken m s (Err fault.PastEnd) e g = absurd (let i : true ≡ false = g in cc)
is_taken m s (Err fault.TooLarge) e g = absurd (let i : true ≡ false = g in cc)

-- a frame of a cut
record IsCutOne (message : Message) (segments : List Delivery) (f : FrameValue) : Type 0 where
  segment : Delivery
  one : IsOneOf segments segment
  frame_is : f ≡ segment_frame message.frame segment
  heads_are : heads_of f ≡ Some (common message)

module _ {frame : FrameValue} {size window : ℕ} {cuts : List FrameValue} (c : IsCutFrame frame size window cuts) where
  cut_one : (f : FrameValue) → IsOneFrame cuts f → IsCutOne c.message c.segments f
  cut_one f i =
      let r = one_segment c.message.frame c.segments f (subst (λ (l : List FrameValue). IsOneFrame l f) c.frames_are i) in
      let of = of_plan (plan_of c.message size window) 0 c.cut.0 r.0 (subst (λ (l : List Delivery). IsOneOf l r.0) c.cut.2 r.1) in
      record {
        segment = r.0;
        one = r.1;
        frame_is = r.2;
        heads_are = ap heads_of r.2
            ∙ ap (λ (head : SegHead). let o : Option Heads = Some (record { frame = c.message.frame; head = head; choice = r.0.choice }) in o) of.0
            ∙ ap (λ (choice : ℕ). let o : Option Heads = Some (record { frame = c.message.frame; head = c.message.head; choice = choice }) in o) of.1;
      }

  among : (l : List FrameValue) → AreFramesOf cuts l → AreAmong c.segments (segments_in l)
  among [] a = tt
  among (f ∷ fs) a =
      let one = cut_one f a.0 in
      subst (λ (d : List Delivery). AreAmong c.segments d) (sym (segments_next f fs one.segment (ap delivered one.frame_is))) (one.one, among fs a.1)

  -- the frame of a segment that is held is there
  frame_there : (l : List FrameValue) (s : Delivery) → AreFramesOf cuts l → IsOneOf (segments_in l) s → IsOneFrame l (segment_frame c.message.frame s)
  frame_there [] s a i = absurd i
  frame_there (f ∷ fs) s a i =
      let one = cut_one f a.0 in
      by_first one (subst (λ (d : List Delivery). IsOneOf d s) (segments_next f fs one.segment (ap delivered one.frame_is)) i) (λ j. frame_there fs s a.1 j)
    where
      by_first : (one : IsCutOne c.message c.segments f) → IsOneOf (one.segment ∷ segments_in fs) s → (IsOneOf (segments_in fs) s → IsOneFrame fs (segment_frame c.message.frame s)) → IsOneFrame (f ∷ fs) (segment_frame c.message.frame s)
      by_first one (inl e) rec = inl (ap (segment_frame c.message.frame) e ∙ sym one.frame_is)
      by_first one (inr j) rec = inr (rec j)

  frames_there : (l : List FrameValue) (these : List Delivery) → AreFramesOf cuts l → AreAmong (segments_in l) these → AreFramesOf l (map (segment_frame c.message.frame) these)
  frames_there l [] a h = tt
  frames_there l (s ∷ these) a h = (frame_there l s a h.0, frames_there l these a h.1)

  segments_there : (l : List FrameValue) (these : List Delivery) → AreFramesOf l (map (segment_frame c.message.frame) these) → AreAmong (segments_in l) these
  segments_there l [] h = tt
  segments_there l (s ∷ these) h = (in_segments l (segment_frame c.message.frame s) s h.0 refl, segments_there l these h.1)

  all_frames : (l : List FrameValue) → AreFramesOf cuts l → AreAmong (segments_in l) c.segments → AreFramesOf l cuts
  all_frames l a h = subst (λ (x : List FrameValue). AreFramesOf l x) (sym c.frames_are) (frames_there l c.segments a h)

  all_segments : (l : List FrameValue) → AreFramesOf l cuts → AreAmong (segments_in l) c.segments
  all_segments l h = segments_there l c.segments (subst (λ (x : List FrameValue). AreFramesOf l x) c.frames_are h)

  cut_fits : (before : List FrameValue) (f : FrameValue) → AreFramesOf cuts before → IsOneFrame cuts f → Fits (Some (common c.message)) (held (segments_in before)) f
  cut_fits before f a i =
      let one = cut_one f i in
      let good = cut_answered (plan_of c.message size window) c.octets c.segments (segments_in before) one.segment c.fine c.cut (among before a) one.one in
      let t = is_taken (held (segments_in before)) one.segment (answer (held (segments_in before)) one.segment) refl good in
      record { segment = one.segment; holds = ap delivered one.frame_is; heads_are = one.heads_are; taken = t.0; answer_is = t.1 }

  first_of : (l : List FrameValue) → AreFramesOf cuts l → (l ≡ []) ⊎ (first_heads l ≡ Some (common c.message))
  first_of [] a = inl refl
  first_of (f ∷ fs) a = inr (cut_one f a.0).heads_are

  no_misfit : (heads : Option Heads) (m : Table) (index : ℕ) (f : FrameValue) (fault : FrameJoinFault) → Fits heads m f → Misfits heads m index f fault → ⊥
  no_misfit heads m index f (NotSegment i) fits h = let e : None ≡ Some fits.segment = sym h.1 ∙ fits.holds in cc
  no_misfit heads m index f (Conflict i) fits h = h.2 fits.heads_are
  no_misfit heads m index f (Segment i e) fits h =
      let same = some_is h.2.0 fits.segment (sym h.2.1 ∙ fits.holds) in
      let bad : Err e ≡ Ok fits.taken = sym h.2.2 ∙ ap (λ (s : Delivery). answer m s) same ∙ fits.answer_is in cc
  no_misfit heads m index f (Incomplete n) fits h = h
  no_misfit heads m index f (Content refusal) fits h = h
  no_misfit heads m index f OutOfMemory fits h = h

  all_one : (l : List FrameValue) (fault : FrameJoinFault) → AreFramesOf cuts l → IsMisfit l fault → ⊥
  all_one l fault a h =
      let parts = frames_part cuts h.before h.after h.frame (subst (λ (x : List FrameValue). AreFramesOf cuts x) h.frames_are a) in
      let fits = cut_fits h.before h.frame parts.0 parts.1 in
      elim (first_of l a) [
        | inl none ↦ some_frame h.before h.after h.frame (sym h.frames_are ∙ none)
        | inr heads ↦ no_misfit (first_heads l) (held (segments_in h.before)) (length h.before) h.frame fault (subst (λ (o : Option Heads). Fits o (held (segments_in h.before)) h.frame) (sym heads) fits) h.misfit
      ]

  -- what is whole is what was cut, and all frames are there
  whole_is : (l : List FrameValue) (octets : List ℕ) → AreFramesOf cuts l → whole (held (segments_in l)) ≡ Some octets → (octets ≡ c.octets) × AreFramesOf l cuts
  whole_is l octets a w =
      let gives = cut_gives (plan_of c.message size window) c.octets c.segments (segments_in l) c.fine c.cut (among l a) in
      elim gives.1 [
        | inl all ↦ (some_is octets c.octets (sym w ∙ all), all_frames l a (gives.0.0 all))
        | inr none ↦ absurd (let e : Some octets ≡ None = sym w ∙ none in cc)
      ]

  not_all : (l : List FrameValue) → AreFramesOf cuts l → whole (held (segments_in l)) ≡ None → AreFramesOf l cuts → ⊥
  not_all l a none all =
      let gives = cut_gives (plan_of c.message size window) c.octets c.segments (segments_in l) c.fine c.cut (among l a) in
      let e : Some c.octets ≡ None = sym (gives.0.1 (all_segments l all)) ∙ none in cc

-- ---- one cut of a frame

same_cut : (frame : FrameValue) (size window : ℕ) (cuts others : List FrameValue) (c : IsCutFrame frame size window cuts) (d : IsCutFrame frame size window others) → c.message ≡ d.message → others ≡ cuts
same_cut frame size window cuts others c d same =
    let octets = IsLeast-one (SpellsContent c.message) d.octets c.octets (subst (λ (m : Message). IsLeast (SpellsContent m) d.octets) (sym same) d.canonical) c.canonical in
    let pieces = one_list c.octets size d.cut.0 c.cut.0 (subst (λ (o : List ℕ). ArePieces o size d.cut.0) octets d.cut.1) c.cut.1 in
    let segments : d.segments ≡ c.segments =
    d.cut.2 ∙ ap (λ (m : Message). segments_from (plan_of m size window) 0 d.cut.0) (sym same) ∙ ap (λ (ps : List (List ℕ)). segments_from (plan_of c.message size window) 0 ps) pieces ∙ sym c.cut.2 in
    d.frames_are ∙ ap (λ (m : Message). map (segment_frame m.frame) d.segments) (sym same) ∙ ap (λ (l : List Delivery). map (segment_frame c.message.frame) l) segments ∙ sym c.frames_are

pub one_cut : (frame : FrameValue) (size window : ℕ) (cuts others : List FrameValue) → IsCutFrame frame size window cuts → IsCutFrame frame size window others → others ≡ cuts
one_cut frame size window cuts others c d = same_cut frame size window cuts others c d (some_is c.message d.message (sym c.message_is ∙ d.message_is))

-- ---- what frames of a cut give

module _ (services : (kind : Kind) (choice : ℕ) (v w : ServiceValue) (b : List ℕ) → SpellsService true 32 kind choice v b → SpellsService true 32 kind choice w b → v ≡ w) where
  same_message : (m n : Message) (octets : List ℕ) → common n ≡ common m → SpellsContent m octets → SpellsContent n octets → n ≡ m
  same_message m n octets heads p q =
      let frame : n.frame ≡ m.frame = ap (λ (h : Heads). h.frame) heads in
      let head : n.head ≡ m.head = ap (λ (h : Heads). h.head) heads in
      let choice : n.service.choice ≡ m.service.choice = ap (λ (h : Heads). h.choice) heads in
      let q : SpellsService true 32 (kind_of m.head) m.service.choice n.service octets = rw (sym head, sym choice) q in
      let service = services (kind_of m.head) m.service.choice n.service m.service octets q p in
      ap (λ (h : HeadValue). let x : Message = record { frame = h; head = n.head; service = n.service } in x) frame
      ∙ ap (λ (h : SegHead). let x : Message = record { frame = m.frame; head = h; service = n.service } in x) head
      ∙ ap (λ (s : ServiceValue). let x : Message = record { frame = m.frame; head = m.head; service = s } in x) service

  pub cut_joined : (frame joined : FrameValue) (size window : ℕ) (cuts l : List FrameValue) → IsCutFrame frame size window cuts → AreFramesOf cuts l → IsJoinedFrame l joined → (joined ≡ frame) × AreFramesOf l cuts
  cut_joined frame joined size window cuts l c a h =
      let w = whole_is c l h.0 a h.1.octets_are in
      elim (first_of c l a) [
        | inl none ↦ absurd (let e : None ≡ Some (common h.2.message) = ap first_heads (sym none) ∙ h.2.heads_are in cc)
        | inr heads ↦
            let same = same_message c.message h.2.message c.octets (some_is (common h.2.message) (common c.message) (sym h.2.heads_are ∙ heads)) c.canonical.member (subst (λ (o : List ℕ). SpellsContent h.2.message o) w.0 h.2.spelled) in
            (one_frame joined frame c.message (h.2.message_is ∙ ap (λ (m : Message). Some m) same) c.message_is, w.1)
      ]

  pub cut_lacks : (frame : FrameValue) (size window : ℕ) (cuts l : List FrameValue) (fault : FrameJoinFault) → IsCutFrame frame size window cuts → AreFramesOf cuts l → IsFrameJoinFault l fault → IsLack cuts l fault
  cut_lacks frame size window cuts l (NotSegment i) c a h = all_one c l (NotSegment i) a h
  cut_lacks frame size window cuts l (Conflict i) c a h = all_one c l (Conflict i) a h
  cut_lacks frame size window cuts l (Segment i e) c a h = all_one c l (Segment i e) a h
  cut_lacks frame size window cuts l (Incomplete n) c a h = (not_all c l a h.1, h.2)
  cut_lacks frame size window cuts l OutOfMemory c a h = tt
  cut_lacks frame size window cuts l (Content refusal) c a h =
      let w = whole_is c l h.0 a h.1.octets_are in
      elim (first_of c l a) [
        | inl none ↦ subst (λ (o : Option Heads). HasNoContent o h.0 refusal) (ap first_heads none) h.2
        | inr heads ↦
            let no : IsNoService (kind_of c.message.head) c.message.service.choice h.0 refusal = subst (λ (o : Option Heads). HasNoContent o h.0 refusal) heads h.2 in
            no.refused.none c.message.service (subst (λ (o : List ℕ). SpellsContent c.message o) (sym w.0) c.canonical.member)
      ]

  pub cut_again : (frame joined : FrameValue) (size window : ℕ) (cuts l again : List FrameValue) → IsCutFrame frame size window cuts → AreFramesOf cuts l → IsJoinedFrame l joined → IsCutFrame joined size window again → again ≡ cuts
  cut_again frame joined size window cuts l again c a h d =
      let same = (cut_joined frame joined size window cuts l c a h).0 in
      one_cut frame size window cuts again c (subst (λ (f : FrameValue). IsCutFrame f size window again) same d)
