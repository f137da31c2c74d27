-- What is accepted, refused and canonical.
use Rattle.std.proofs.Common.{◌≡◌, ◌≢◌, ◌⊎◌, ℕ, List, Option, None, Some, refl, sym, ap, subst, ◌∙◌, inl, inr, true, false, ◌↔◌, IsTrue, arith}
use Rattle.std.specs.Prelude.{slice_get, Bool, Result, Ok, Err, IfOk, IfErr}
use Rattle.bac_tag.specs.declared.refusals.Refusal.{Refusal}
use Rattle.bac_tag.specs.declared.refusals.Why.{Why}
use Rattle.bac_tag.specs.declared.refusals.Why.TheVariants.{Short, Trailing, Version, Address, PduType, Window, Tag, Length, Content, Depth, NotCanonical, OutOfMemory}
use Rattle.bac_tag.specs.Octets.{IsMark}
use Rattle.bac_tag.specs.Laws.Octets.{NoGreater-length}
use Rattle.bac_tag.specs.Spelling.{IsLeast, HasMark}
use Rattle.bac_tag.specs.Laws.Spelling.{IsLeast-one, unmarked_least}
use Rattle.bac_npdu_parts.specs.Heads.{IsVersionPlace, IsAddressPlace}
use Rattle.bac_npdu_parts.specs.Frames.{FrameValue, SpellsFrame}
use Rattle.bac_npdu_parts.specs.Decoded.{IsPduTypePlace, IsFrameWindowPlace, IsFrameReason, IsReasoned}
use Rattle.bac_stream.specs.Judging.{IsAccepted, IsCanonicalFor, IsCanonical, Accepts, IsJudged, IsRefused, IsHopeless, Refuses}
use Rattle.bac_stream.specs.Lines.{IsChecked, said_of}
use Rattle.bac_record.specs.Deals.{DealFails}
use Rattle.bac_record.specs.Records.{IsRecord}
use Rattle.bac_record.specs.declared.dealing.DealFault.{DealFault}
use Rattle.bac_record.specs.declared.dealing.DealFault.TheVariants.{Stop, Memory}
use Rattle.bac_stream.specs.declared.modes.Mode.{Mode}
use Rattle.bac_stream.specs.declared.modes.Mode.TheVariants.{Tolerant, Strict}

-- a mark that is a place says that the lists differ
marked_differ : (b c : List ℕ) (place : ℕ) → IsMark b c (Some place) → b ≡ c → ⊥
marked_differ b c place m e = m.2.differ (ap (λ (l : List ℕ). slice_get l place) e)

-- In each mode what is accepted is spelled.
pub accepted_spelled : (mode : Mode) (frame : FrameValue) (octets : List ℕ) → Accepts mode frame octets → SpellsFrame frame octets
accepted_spelled Tolerant frame octets a = a
accepted_spelled Strict frame octets a = a.member

-- what is accepted where nothing is marked in mode Strict
pub accepts_by : (mode : Mode) (frame : FrameValue) (octets : List ℕ) (mark : Option ℕ) → SpellsFrame frame octets → HasMark (SpellsFrame frame) octets mark → (mode ≡ Strict → mark ≡ None) → Accepts mode frame octets
accepts_by Tolerant frame octets mark s m none = s
accepts_by Strict frame octets mark s m none = unmarked_least mark (none refl) m

-- the refusals of each mode
pub hopeless_refused : (mode : Mode) (octets : List ℕ) (refusal : Refusal) → IsHopeless octets refusal → Refuses mode octets refusal
hopeless_refused Tolerant octets refusal h = h
hopeless_refused Strict octets refusal h = inl h

pub hopeless_none : (mode : Mode) (octets : List ℕ) (refusal : Refusal) → IsHopeless octets refusal → IsRefused mode octets
hopeless_none mode octets refusal h frame a = h.0.none frame (accepted_spelled mode frame octets a)

pub marked_refused : (mode : Mode) (frame : FrameValue) (octets : List ℕ) (mark : Option ℕ) (place : ℕ) → mode ≡ Strict → mark ≡ Some place → SpellsFrame frame octets → HasMark (SpellsFrame frame) octets mark → Refuses mode octets (record { place = place; why = NotCanonical })
marked_refused Tolerant frame octets mark place strict e s m = absurd (let i : Tolerant ≡ Strict = strict in cc)
marked_refused Strict frame octets None place strict e s m = absurd (let i : None ≡ Some place = e in cc)
marked_refused Strict frame octets (Some p) place strict e s m =
    let same : p ≡ place = (let i : Some p ≡ Some place = e in cc) in
    inr (frame, m.least, s, m.is_least, subst (λ (k : ℕ). IsMark octets m.least (Some k)) same m.is_mark, refl)

-- what is accepted as no frame is not canonical
pub refused_not_counted : (mode : Mode) (octets : List ℕ) → IsRefused mode octets → IsTrue false ↔ IsCanonical octets
refused_not_counted mode octets r = (λ t. let e : false ≡ true = t in cc, λ c. absurd (not_canonical mode r c))
  where
    not_canonical : (mode : Mode) → IsRefused mode octets → IsCanonical octets → ⊥
    not_canonical Tolerant r c = r c.0 c.1.member
    not_canonical Strict r c = r c.0 c.1

pub refused_counted : (mode : Mode) (octets : List ℕ) → IsRefused mode octets → IsTrue true ↔ IsRefused mode octets
refused_counted mode octets r = (λ _. r, λ _. refl)

pub accepted_not_counted : (mode : Mode) (frame : FrameValue) (octets : List ℕ) (b : Bool) → Accepts mode frame octets → b ≡ false → IsTrue b ↔ IsRefused mode octets
accepted_not_counted mode frame octets b a e = (λ t. let i : true ≡ false = sym t ∙ e in cc, λ r. absurd (r frame a))

pub counted_as : (octets : List ℕ) (mark : Option ℕ) (b : Bool) → IsTrue b ↔ (mark ≡ None) → (mark ≡ None) ↔ IsCanonical octets → IsTrue b ↔ IsCanonical octets
counted_as octets mark b p q = (λ t. q.0 (p.0 t), λ c. p.1 (q.1 c))

-- what check says of what is accepted
pub accepted_checked : (mode : Mode) (frame : FrameValue) (octets : List ℕ) (mark : Option ℕ) → Accepts mode frame octets → HasMark (SpellsFrame frame) octets mark → IsChecked mode octets (said_of mark)
accepted_checked mode frame octets None a m = (frame, unmarked_least None refl m)
accepted_checked mode frame octets (Some place) a m = (tolerant mode a, frame, m.least, accepted_spelled mode frame octets a, m.is_least, m.is_mark)
  where
    tolerant : (mode : Mode) → Accepts mode frame octets → mode ≡ Tolerant
    tolerant Tolerant a = refl
    tolerant Strict a = absurd (marked_differ octets m.least place m.is_mark (IsLeast-one (SpellsFrame frame) octets m.least a m.is_least))

-- a written record fits where its record did
pub written_fits : (frame : FrameValue) (octets canonical : List ℕ) → SpellsFrame frame octets → IsRecord octets → IsCanonicalFor frame canonical → IsRecord canonical
written_fits frame octets canonical s le c = omega (arith, NoGreater-length canonical octets (c.least octets s), le)

module _ (frames : (f g : FrameValue) (b : List ℕ) → SpellsFrame f b → SpellsFrame g b → f ≡ g) where
  marked_not_canonical : (frame : FrameValue) (octets : List ℕ) (place : ℕ) → SpellsFrame frame octets → HasMark (SpellsFrame frame) octets (Some place) → IsCanonical octets → ⊥
  marked_not_canonical frame octets place s m c =
      let same = frames c.0 frame octets c.1.member s in
      marked_differ octets m.least place m.is_mark (IsLeast-one (SpellsFrame frame) octets m.least (subst (λ (f : FrameValue). IsLeast (SpellsFrame f) octets) same c.1) m.is_least)

  -- exactly octets without a mark are canonical
  pub told_by_mark : (frame : FrameValue) (octets : List ℕ) (mark : Option ℕ) → SpellsFrame frame octets → HasMark (SpellsFrame frame) octets mark → (mark ≡ None) ↔ IsCanonical octets
  told_by_mark frame octets None s m = (λ _. (frame, unmarked_least None refl m), λ _. refl)
  told_by_mark frame octets (Some place) s m = (λ e. absurd (let i : Some place ≡ None = e in cc), λ c. absurd (marked_not_canonical frame octets place s m c))

  pub marked_none : (mode : Mode) (frame : FrameValue) (octets : List ℕ) (mark : Option ℕ) (place : ℕ) → mode ≡ Strict → mark ≡ Some place → SpellsFrame frame octets → HasMark (SpellsFrame frame) octets mark → IsRefused mode octets
  marked_none Tolerant frame octets mark place strict e s m = absurd (let i : Tolerant ≡ Strict = strict in cc)
  marked_none Strict frame octets None place strict e s m = absurd (let i : None ≡ Some place = e in cc)
  marked_none Strict frame octets (Some p) place strict e s m = λ f a. marked_not_canonical frame octets p s m (f, a)

  -- ---- what was made of a frame

  module _ (appends : FrameValue → Option ℕ → List ℕ → List ℕ → Type 0) (mode : Mode) (octets old new : List ℕ) (frame : FrameValue) (mark : Option ℕ) (s : SpellsFrame frame octets) (m : HasMark (SpellsFrame frame) octets mark) where
    pub judged_canonical : (made : Result (Option ℕ) DealFault) → IsJudged (appends frame mark) mode mark old new made → IfOk made (λ told. (told ≡ None) ↔ IsCanonical octets)
    judged_canonical (Ok told) j = rw j.0 (told_by_mark frame octets mark s m)
    judged_canonical (Err fault) j = tt

    pub judged_refused : (made : Result (Option ℕ) DealFault) → IsJudged (appends frame mark) mode mark old new made → IfErr made (DealFails (λ _. IsRefused mode octets))
    judged_refused (Ok told) j = tt
    judged_refused (Err (Stop refusal)) j = marked_none mode frame octets mark refusal.place j.0 j.1 s m
    judged_refused (Err Memory) j = tt

    pub judged_accepted : (made : Result (Option ℕ) DealFault) → IsJudged (appends frame mark) mode mark old new made → IfOk made (λ told. IsAccepted appends mode octets told old new)
    judged_accepted (Ok told) j = rw j.0 (record {
      frame = frame;
      accepted = accepts_by mode frame octets mark s m j.1;
      marked = m;
      appended = j.2;
    })
    judged_accepted (Err fault) j = tt

    pub judged_fault : (made : Result (Option ℕ) DealFault) → IsJudged (appends frame mark) mode mark old new made → IfErr made (DealFails (Refuses mode octets))
    judged_fault (Ok told) j = tt
    judged_fault (Err (Stop refusal)) j =
        subst (λ (why : Why). Refuses mode octets (record { place = refusal.place; why = why })) (sym j.2)
        (marked_refused mode frame octets mark refusal.place j.0 j.1 s m)
    judged_fault (Err Memory) j = tt

-- ---- reasons

-- what decoding says of the reason of a refusal
pub reasoned : {octets : List ℕ} {refusal : Refusal} → (refusal.why ≡ Version) ↔ IsVersionPlace octets refusal.place → (refusal.why ≡ Address) ↔ IsAddressPlace octets refusal.place
    → (refusal.why ≡ PduType) ↔ IsPduTypePlace octets refusal.place → (refusal.why ≡ Window) ↔ IsFrameWindowPlace octets refusal.place → IsFrameReason refusal.why → IsReasoned octets refusal
reasoned versions addresses types windows reasons = record { of_version = versions; of_address = addresses; of_type = types; of_window = windows; others = reasons }

pub memory_or_other : (why : Why) → (why ≡ OutOfMemory) ⊎ (why ≢ OutOfMemory)
memory_or_other Short = inr (λ e. cc)
memory_or_other Trailing = inr (λ e. cc)
memory_or_other Version = inr (λ e. cc)
memory_or_other Address = inr (λ e. cc)
memory_or_other PduType = inr (λ e. cc)
memory_or_other Window = inr (λ e. cc)
memory_or_other Tag = inr (λ e. cc)
memory_or_other Length = inr (λ e. cc)
memory_or_other Content = inr (λ e. cc)
memory_or_other Depth = inr (λ e. cc)
memory_or_other NotCanonical = inr (λ e. cc)
memory_or_other OutOfMemory = inl refl
