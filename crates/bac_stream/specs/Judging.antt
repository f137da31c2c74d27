-- Which octets are accepted, in each mode, and which are canonical.
use Rattle.std.specs.Prelude.{◌≡◌, ◌≢◌, ◌⊎◌, ℕ, List, Option, Some, None, Result, Ok, Err}
use Rattle.bac_tag.specs.declared.refusals.Refusal.{Refusal}
use Rattle.bac_tag.specs.declared.refusals.Why.TheVariants.{NotCanonical, OutOfMemory}
use Rattle.bac_tag.specs.Octets.{IsMark}
use Rattle.bac_tag.specs.Spelling.{IsLeast, HasMark, IsWholeRefusal, IsCanonical as IsCanonicalOf}
use Rattle.bac_npdu_parts.specs.Frames.{FrameValue, SpellsFrame}
use Rattle.bac_npdu_parts.specs.Decoded.{IsReasoned}
use Rattle.bac_record.specs.declared.dealing.DealFault.{DealFault}
use Rattle.bac_record.specs.declared.dealing.DealFault.TheVariants.{Stop, Memory}
use Rattle.bac_stream.specs.declared.modes.Mode.{Mode}
use Rattle.bac_stream.specs.declared.modes.Mode.TheVariants.{Tolerant, Strict}

-- The octets are canonical for the frame: the least of all lists that spell it.
abbrev pub IsCanonicalFor : FrameValue → List ℕ → Type 0
IsCanonicalFor frame octets = IsLeast (SpellsFrame frame) octets

-- The octets are canonical for some frame. This is IsCanonical of bac_tag for frames.
abbrev pub IsCanonical : List ℕ → Type 0
IsCanonical octets = IsCanonicalOf SpellsFrame octets

-- In the mode the octets are accepted as the frame: in mode Tolerant they spell it, in mode Strict they are canonical for it.
abbrev pub Accepts : Mode → FrameValue → List ℕ → Type 0
Accepts Tolerant frame octets = SpellsFrame frame octets
Accepts Strict frame octets = IsCanonicalFor frame octets

-- In the mode the octets are not accepted as any frame.
abbrev pub IsRefused : Mode → List ℕ → Type 0
IsRefused mode octets = (frame : FrameValue) → Accepts mode frame octets → ⊥

-- The octets spell no frame, and the refusal says where they stop to begin one, by IsWholeRefusal, and why, by IsReasoned. Its
-- reason is not OutOfMemory.
abbrev pub IsHopeless : List ℕ → Refusal → Type 0
IsHopeless octets refusal = IsWholeRefusal SpellsFrame octets refusal × IsReasoned octets refusal × (refusal.why ≢ OutOfMemory)

-- The octets spell a frame, and the refusal is NotCanonical at the first place where they differ from the canonical octets.
abbrev pub IsNotCanonical : List ℕ → Refusal → Type 0
IsNotCanonical octets refusal = (frame : FrameValue) × (canonical : List ℕ) × SpellsFrame frame octets × IsCanonicalFor frame canonical
    × IsMark octets canonical (Some refusal.place) × (refusal.why ≡ NotCanonical)

-- In the mode the octets may be refused so: in mode Tolerant by IsHopeless, in mode Strict by IsHopeless or IsNotCanonical.
abbrev pub Refuses : Mode → List ℕ → Refusal → Type 0
Refuses Tolerant octets refusal = IsHopeless octets refusal
Refuses Strict octets refusal = IsHopeless octets refusal ⊎ IsNotCanonical octets refusal

-- What is made of a frame with a mark. If the mode accepts it, something is appended for it; else it is refused with
-- NotCanonical at the mark. Nothing is appended then, or if memory is refused.
abbrev pub IsJudged : (List ℕ → List ℕ → Type 0) → Mode → Option ℕ → List ℕ → List ℕ → Result (Option ℕ) DealFault → Type 0
IsJudged appended mode mark old new (Ok told) = (told ≡ mark) × (mode ≡ Strict → mark ≡ None) × appended old new
IsJudged appended mode mark old new (Err (Stop refusal)) = (mode ≡ Strict) × (mark ≡ Some refusal.place) × (refusal.why ≡ NotCanonical) × (new ≡ old)
IsJudged appended mode mark old new (Err Memory) = new ≡ old

-- The octets are accepted as a frame and have this mark, and this was appended for it.
pub record IsAccepted (appends : FrameValue → Option ℕ → List ℕ → List ℕ → Type 0) (mode : Mode) (octets : List ℕ) (mark : Option ℕ) (old new : List ℕ) : Type 0 where
  pub frame : FrameValue
  pub accepted : Accepts mode frame octets
  pub marked : HasMark (SpellsFrame frame) octets mark
  pub appended : appends frame mark old new

-- The octets are accepted as some frame, and have this mark.
pub record IsAcceptedAs (mode : Mode) (octets : List ℕ) (mark : Option ℕ) : Type 0 where
  pub frame : FrameValue
  pub accepted : Accepts mode frame octets
  pub marked : HasMark (SpellsFrame frame) octets mark
