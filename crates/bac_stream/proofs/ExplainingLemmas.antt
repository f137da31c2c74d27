-- What the run of explain makes of a record.
use Rattle.std.proofs.Common.{◌≡◌, ◌↔◌, ◌≤◌, ℕ, ◌++◌, List, true, false, IsTrue, refl, sym, ap, ◌∙◌, append_assoc, subst, inl, inr, arith}
use Rattle.std.specs.Prelude.{Option, None, Some, Result, Ok, Err, OnOk, length}
use Rattle.bac_tag.specs.declared.refusals.Refusal.{Refusal}
use Rattle.bac_tag.specs.declared.refusals.Why.{Why}
use Rattle.bac_tag.specs.declared.refusals.Why.TheVariants.{NotCanonical}
use Rattle.bac_tag.specs.Spelling.{HasMark}
use Rattle.bac_record.specs.Deals.{IsDealt}
use Rattle.bac_record.specs.declared.dealing.Dealt.{Dealt}
use Rattle.bac_npdu_parts.specs.Frames.{FrameValue, SpellsFrame}
use Rattle.bac_explain.specs.Completions.{IsRefusalExplanation}
use Rattle.bac_explain.specs.Explanations.{IsFrameExplanation}
use Rattle.bac_stream.specs.declared.modes.Mode.{Mode}
use Rattle.bac_stream.specs.declared.modes.Mode.TheVariants.{Strict}
use Rattle.bac_stream.specs.Explaining.{ExplainsAs, IsFrameOf, IsRefusedBy}
use Rattle.bac_stream.specs.Judging.{IsCanonical, IsHopeless, IsRefused, Refuses}
use Rattle.bac_stream.specs.Lines.{numbered, refused, said_of, said_text}
use Rattle.bac_stream.proofs.JudgingLemmas.{accepted_checked, accepted_not_counted, accepts_by, counted_as, hopeless_none, hopeless_refused, marked_none, marked_refused, refused_counted, refused_not_counted, told_by_mark}

-- what no frame begins is refused
pub hopeless_by : (mode : Mode) (octets : List ℕ) (refusal : Refusal) → IsHopeless octets refusal → IsRefusedBy mode octets refusal
hopeless_by mode octets refusal h = record {
  refuses = hopeless_refused mode octets refusal h;
  none = hopeless_none mode octets refusal h;
  within = h.0.furthest.within;
}

-- the place of a mark is within the octets
mark_within : (frame : FrameValue) (octets : List ℕ) (mark : Option ℕ) (place : ℕ) → mark ≡ Some place → HasMark (SpellsFrame frame) octets mark → place ≤ length octets
mark_within frame octets mark place e m = let n = rw e at m.is_mark in omega (arith, n.0)

module _ (frames : (f g : FrameValue) (b : List ℕ) → SpellsFrame f b → SpellsFrame g b → f ≡ g) (mode : Mode) (frame : FrameValue) (octets : List ℕ) (mark : Option ℕ) (s : SpellsFrame frame octets) (m : HasMark (SpellsFrame frame) octets mark) where
  -- what is not canonical is refused in mode Strict
  pub marked_by : (refusal : Refusal) → mode ≡ Strict → mark ≡ Some refusal.place → refusal.why ≡ NotCanonical → IsRefusedBy mode octets refusal
  marked_by refusal strict e why = record {
    refuses = subst (λ (w : Why). Refuses mode octets (record { place = refusal.place; why = w })) (sym why) (marked_refused mode frame octets mark refusal.place strict e s m);
    none = marked_none frames mode frame octets mark refusal.place strict e s m;
    within = mark_within frame octets mark refusal.place e m;
  }

  -- what is accepted
  pub accepted_by : (mode ≡ Strict → mark ≡ None) → IsFrameOf mode octets frame mark
  accepted_by none = record {
    accepted = accepts_by mode frame octets mark s m none;
    marked = m;
    canonical = told_by_mark frames frame octets mark s m;
  }

-- the output of what is accepted
pub frame_explained : (mode : Mode) (number : ℕ) (octets old new : List ℕ) (frame : FrameValue) (mark : Option ℕ) (dealt : Dealt) → IsFrameOf mode octets frame mark
    → (lines : List ℕ) × (new ≡ old ++ (numbered number (said_text (said_of mark)) ++ lines)) × IsFrameExplanation octets frame mark lines
    → IsTrue dealt.is_canonical ↔ (mark ≡ None) → dealt.is_refused ≡ false → IsDealt (ExplainsAs mode) IsCanonical (IsRefused mode) number octets old new dealt
frame_explained mode number octets old new frame mark dealt is told counted kept = record {
  output = numbered number (said_text (said_of mark)) ++ told.0;
  is_output = inl (record {
    frame = frame;
    mark = mark;
    accepted = is.accepted;
    checked = accepted_checked mode frame octets mark is.accepted is.marked;
    lines = told.0;
    are_lines = told.2;
    is = refl;
  });
  appended = told.1;
  canonical = counted_as octets mark dealt.is_canonical counted is.canonical;
  refused = accepted_not_counted mode frame octets dealt.is_refused is.accepted kept;
}

-- the output of what is refused
pub refusal_explained : (mode : Mode) (number : ℕ) (octets old new : List ℕ) (refusal : Refusal) (dealt : Dealt) → IsRefusedBy mode octets refusal
    → (lines : List ℕ) × (new ≡ old ++ (numbered number (said_text (refused refusal)) ++ lines)) × IsRefusalExplanation octets refusal lines
    → dealt ≡ record { is_canonical = false; is_refused = true } → IsDealt (ExplainsAs mode) IsCanonical (IsRefused mode) number octets old new dealt
refusal_explained mode number octets old new refusal dealt is told counted = rw counted (record {
  output = numbered number (said_text (refused refusal)) ++ told.0;
  is_output = inr (record {
    refusal = refusal;
    checked = is.refuses;
    lines = told.0;
    are_lines = told.2;
    is = refl;
  });
  appended = told.1;
  canonical = refused_not_counted mode octets is.none;
  refused = refused_counted mode octets is.none;
})

-- lines after a line
pub after_line : {E : Type 0} (given r : Result Unit E) (P : List ℕ → Type 0) (old line mid new last : List ℕ) → r ≡ given → mid ≡ old ++ line → OnOk given ((x : List ℕ) × (new ≡ mid ++ x) × P x) → OnOk given (last ≡ new) → OnOk r ((x : List ℕ) × (last ≡ old ++ (line ++ x)) × P x)
after_line (Ok done) r P old line mid new last e p told kept = rw e (told.0, kept ∙ told.1 ∙ ap (λ l. l ++ told.0) p ∙ append_assoc old line told.0, told.2)
after_line (Err fault) r P old line mid new last e p told kept = rw e tt
