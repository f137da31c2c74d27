-- Records of frames, one more at a time.
use Rattle.std.specs.Prelude.{◌≡◌, ◌≢◌, ◌↔◌, ◌<◌, ◌⊎◌, ℕ, List, [], ◌∷◌, ◌++◌, length, map, refl, Result, Ok, Err, IfErr}
use Rattle.std.proofs.Common.{◌∙◌, inl, inr, sym, ap, subst, append_assoc}
use Rattle.std.proofs.lemmas.List.{append-nil, length-map, map-append}
use Rattle.bac_tag.specs.declared.refusals.Refusal.{Refusal}
use Rattle.bac_tag.specs.declared.refusals.Why.TheVariants as why
use Rattle.bac_tag.specs.Spelling.{IsLeast, IsWholeRefusal}
use Rattle.bac_npdu_parts.specs.Heads.{IsVersionPlace, IsAddressPlace}
use Rattle.bac_npdu_parts.specs.Decoded.{IsPduTypePlace, IsFrameWindowPlace, IsFrameReason, IsReasoned}
use Rattle.bac_npdu_parts.specs.declared.frame.Frame.{Frame}
use Rattle.bac_npdu_parts.specs.Frames.{FrameValue, SpellsFrame, value_of}
use Rattle.bac_record.specs.Batches.{IsFront, IsPartial}
use Rattle.bac_record.specs.Records.{IsRecord, LONGEST, record_of}
use Rattle.bac_message.specs.CutFrames.{IsCutFrame}
use Rattle.bac_message.specs.FrameCuts.{IsOneFrame}
use Rattle.bac_message.specs.FrameRecords.{AreRecords, AreLeastRecords, HasTooLong, IsNoFrame, IsRecordCutFault, IsRecordJoinFault, SpellRecords}
use Rattle.bac_message.specs.declared.record_faults.RecordCutFault.{RecordCutFault}
use Rattle.bac_message.specs.declared.record_faults.RecordCutFault.TheVariants.{OutOfMemory, TooLong}
use Rattle.bac_message.specs.declared.record_faults.RecordJoinFault.{RecordJoinFault}
use Rattle.bac_message.specs.declared.record_faults.RecordJoinFault.TheVariants as unjoined

-- what decoding says of a refusal
pub no_frame : (octets : List ℕ) (refusal : Refusal) → refusal.why ≢ why.OutOfMemory → (refusal.why ≢ why.OutOfMemory → IsWholeRefusal SpellsFrame octets refusal)
    → (refusal.why ≡ why.Version) ↔ IsVersionPlace octets refusal.place → (refusal.why ≡ why.Address) ↔ IsAddressPlace octets refusal.place
    → (refusal.why ≡ why.PduType) ↔ IsPduTypePlace octets refusal.place → (refusal.why ≡ why.Window) ↔ IsFrameWindowPlace octets refusal.place
    → IsFrameReason refusal.why → IsNoFrame octets refusal
no_frame octets refusal other refused versions addresses types windows reasons = (
  record {
    refused = refused;
    memory = λ memory. absurd (other memory);
    reasoned = record { of_version = versions; of_address = addresses; of_type = types; of_window = windows; others = reasons };
  },
  other,
)

-- with one record more at the end
pub record_pushed : (Has : FrameValue → List ℕ → Type 0) (frames : List FrameValue) (frame : FrameValue) (records octets : List ℕ) → AreRecords Has frames records → Has frame octets
    → IsRecord octets → AreRecords Has (frames ++ frame ∷ []) (records ++ record_of octets)
record_pushed Has [] frame records octets are has is = (octets, [], has, is, refl, ap (λ (l : List ℕ). l ++ record_of octets) are ∙ sym (append-nil (record_of octets)))
record_pushed Has (f ∷ fs) frame records octets (first, more, had, was, are, sum) has is =
    (first, more ++ record_of octets, had, was, record_pushed Has fs frame more octets are has is, ap (λ (l : List ℕ). l ++ record_of octets) sum ∙ append_assoc (record_of first) more (record_of octets))

-- ---- the records of frames

-- so far: the records of the first frames, and which frames are left
pub record AreWritten (frames left : List Frame) (records : List ℕ) : Type 0 where
  pub front : List Frame
  pub split : frames ≡ front ++ left
  pub written : AreLeastRecords (map value_of front) records

pub none_written : (frames : List Frame) → AreWritten frames frames []
none_written frames = record { front = []; split = refl; written = refl }

pub one_written : (frames left more : List Frame) (frame : Frame) (old new : List ℕ) → AreWritten frames left old → left ≡ frame ∷ more
    → ((octets : List ℕ) × IsLeast (SpellsFrame (value_of frame)) octets × IsRecord octets × (new ≡ old ++ record_of octets)) → AreWritten frames more new
one_written frames left more frame old new far next (octets, least, record_is, sum) = record {
  front = far.front ++ frame ∷ [];
  split = far.split ∙ ap (λ (l : List Frame). far.front ++ l) next ∙ sym (append_assoc far.front (frame ∷ []) more);
  written = subst (λ (l : List ℕ). AreLeastRecords (map value_of (far.front ++ frame ∷ [])) l) (sym sum)
      (subst (λ (fs : List FrameValue). AreLeastRecords fs (old ++ record_of octets)) (sym (map-append value_of far.front (frame ∷ []))) (record_pushed (λ f. IsLeast (SpellsFrame f)) (map value_of far.front) (value_of frame) old octets far.written least record_is));
}

pub all_written : (frames left : List Frame) (records : List ℕ) → AreWritten frames left records → left ≡ [] → AreLeastRecords (map value_of frames) records
all_written frames left records far none =
    subst (λ (l : List Frame). AreLeastRecords (map value_of l) records) (sym (far.split ∙ ap (λ (l : List Frame). far.front ++ l) none ∙ append-nil far.front)) far.written

one_of : (before after : List FrameValue) (frame : FrameValue) → IsOneFrame (before ++ frame ∷ after) frame
one_of [] after frame = inl refl
one_of (f ∷ fs) after frame = inr (one_of fs after frame)

-- the next frame is too long for a record
pub too_long_next : (frames left more : List Frame) (frame : Frame) (records : List ℕ) (fault : RecordCutFault) → AreWritten frames left records → left ≡ frame ∷ more
    → (fault ≡ OutOfMemory) ⊎ ((fault ≡ TooLong) × ((octets : List ℕ) × IsLeast (SpellsFrame (value_of frame)) octets × (LONGEST < length octets)))
    → (fault ≡ OutOfMemory) ⊎ ((fault ≡ TooLong) × HasTooLong (map value_of frames))
too_long_next frames left more frame records fault far next (inl memory) = inl memory
too_long_next frames left more frame records fault far next (inr (long, (octets, least, more_octets))) =
    let are : map value_of frames ≡ map value_of far.front ++ value_of frame ∷ map value_of more =
    ap (map value_of) (far.split ∙ ap (λ (l : List Frame). far.front ++ l) next) ∙ map-append value_of far.front (frame ∷ more) in
    inr (long, (value_of frame, octets, subst (λ (l : List FrameValue). IsOneFrame l (value_of frame)) (sym are) (one_of (map value_of far.front) (map value_of more) (value_of frame)), least, more_octets))

-- why the frames of a cut have no records
pub long_or_memory : {X : Type 0} (octets : List ℕ) (size window : ℕ) (frame : FrameValue) (cuts : List FrameValue) (result : Result X RecordCutFault) → SpellsFrame frame octets → IsCutFrame frame size window cuts
    → IfErr result (λ fault. (fault ≡ OutOfMemory) ⊎ ((fault ≡ TooLong) × HasTooLong cuts)) → IfErr result (IsRecordCutFault octets size window)
long_or_memory octets size window frame cuts (Ok x) spelled cut said = tt
long_or_memory octets size window frame cuts (Err fault) spelled cut (inl memory) = subst (IsRecordCutFault octets size window) (sym memory) tt
long_or_memory octets size window frame cuts (Err fault) spelled cut (inr (long, has)) = subst (IsRecordCutFault octets size window) (sym long) (frame, spelled, (cuts, cut, has))

-- what checking says of a refusal
pub checked_none : (octets : List ℕ) (refusal : Refusal) → refusal.why ≢ why.OutOfMemory → IsWholeRefusal SpellsFrame octets refusal → IsReasoned octets refusal → IsNoFrame octets refusal
checked_none octets refusal other refused reasoned = (record { refused = λ _. refused; memory = λ memory. absurd (other memory); reasoned = reasoned }, other)
