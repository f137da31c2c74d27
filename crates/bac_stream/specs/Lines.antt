-- The lines of show and check, and the records of normalise.
use Rattle.std.specs.Prelude.{◌≡◌, ℕ, ◌++◌, List, length, Option, Some, None, codes, ⊤}
use Rattle.std.specs.Fmt.{decimal}
use Rattle.bac_tag.specs.Octets.{IsMark}
use Rattle.bac_tag.specs.Spelling.{HasMark}
use Rattle.bac_tag.specs.declared.refusals.Refusal.{Refusal}
use Rattle.bac_tag.specs.Refusals.{name_of}
use Rattle.std.specs.List.{AllByRecursion}
use Rattle.bac_record.specs.Outputs.{Outputs}
use Rattle.bac_record.specs.Records.{record_of, joined, IsRecord}
use Rattle.bac_npdu_parts.specs.FrameHeads.{frame_with}
use Rattle.bac_npdu_parts.specs.Frames.{FrameValue, SpellsFrame, body_value}
use Rattle.bac_text.specs.FrameText.{text}
use Rattle.bac_stream.specs.Judging.{Accepts, Refuses, IsCanonicalFor, IsCanonical}
use Rattle.bac_stream.specs.declared.modes.Mode.{Mode}
use Rattle.bac_stream.specs.declared.modes.Mode.TheVariants.{Tolerant}
use Rattle.bac_stream.specs.declared.lines.Line.{Line}
use Rattle.bac_stream.specs.declared.lines.Line.TheVariants as line

-- What is said of a record: ok, tolerated at a place, refused with a refusal, or shown as a frame.
pub data Said : Type 0 where
  ok : Said
  tolerated : ℕ → Said
  refused : Refusal → Said
  shown : FrameValue → Said

-- What a Line of the program says.
abbrev pub said_by : Line → Said
said_by line.Canonical = ok
said_by (line.Tolerated place) = tolerated place
said_by (line.Refused refusal) = refused refusal
said_by (line.Shown head body) = shown (frame_with head.now (body_value body.now))

-- The line shows no frame: it is one that check writes.
abbrev pub IsVerdict : Line → Type 0
IsVerdict (line.Shown head body) = ⊥
IsVerdict _ = ⊤

-- The text of what is said: ok, tolerated at P, refused WHY at P, or the text of the frame.
abbrev pub said_text : Said → List ℕ
said_text ok = codes "ok"
said_text (tolerated place) = codes "tolerated at " ++ decimal place
said_text (refused refusal) = codes "refused " ++ name_of refusal.why ++ codes " at " ++ decimal refusal.place
said_text (shown frame) = text frame

-- What check says of accepted octets, by their mark.
abbrev pub said_of : Option ℕ → Said
said_of None = ok
said_of (Some place) = tolerated place

-- A text as a line with the number of its record: the number, a blank, the text, a line end.
abbrev pub numbered : ℕ → List ℕ → List ℕ
numbered number text = decimal number ++ codes " " ++ text ++ codes "\n"

-- What show may say of octets in a mode: the frame as which they are accepted, or a refusal.
abbrev pub IsShown : Mode → List ℕ → Said → Type 0
IsShown mode octets (shown frame) = Accepts mode frame octets
IsShown mode octets (refused refusal) = Refuses mode octets refusal
IsShown mode octets _ = ⊥

-- What check may say of octets in a mode: that they are canonical, tolerated (only in mode Tolerant), or refused.
abbrev pub IsChecked : Mode → List ℕ → Said → Type 0
IsChecked mode octets ok = IsCanonical octets
IsChecked mode octets (tolerated place) = (mode ≡ Tolerant) × (frame : FrameValue) × (least : List ℕ)
    × SpellsFrame frame octets × IsCanonicalFor frame least × IsMark octets least (Some place)
IsChecked mode octets (refused refusal) = Refuses mode octets refusal
IsChecked mode octets (shown frame) = ⊥

-- The output of a record is a line with what a run says of the record.
abbrev pub ReportsAs : (Mode → List ℕ → Said → Type 0) → Mode → ℕ → List ℕ → List ℕ → Type 0
ReportsAs says mode number octets output = (said : Said) × says mode octets said × (output ≡ numbered number (said_text said))

-- The output of a record is a line with what show says of it.
abbrev pub ShowsAs : Mode → ℕ → List ℕ → List ℕ → Type 0
ShowsAs = ReportsAs IsShown

-- The output of a record is a line with what check says of it.
abbrev pub ChecksAs : Mode → ℕ → List ℕ → List ℕ → Type 0
ChecksAs = ReportsAs IsChecked

-- A line was appended with what is said of any octets that are accepted as the frame with this mark.
pub record IsReported (says : Mode → List ℕ → Said → Type 0) (number : ℕ) (frame : FrameValue) (mark : Option ℕ) (old new : List ℕ) : Type 0 where
  pub said : Said
  pub is_said : (mode : Mode) (octets : List ℕ) → Accepts mode frame octets → HasMark (SpellsFrame frame) octets mark → says mode octets said
  pub appended : new ≡ old ++ numbered number (said_text said)

-- The octets are accepted as a frame in the mode, and the output is the record of its canonical octets.
abbrev pub NormalisesTo : Mode → ℕ → List ℕ → List ℕ → Type 0
NormalisesTo mode number octets output =
    (frame : FrameValue) × (least : List ℕ) × Accepts mode frame octets × IsCanonicalFor frame least × (output ≡ record_of least)

-- The canonical octets of the frame were appended, as a record.
pub record AppendsRecord (frame : FrameValue) (old new : List ℕ) : Type 0 where
  pub canonical : List ℕ
  pub is_canonical : IsCanonicalFor frame canonical
  pub new_is : new ≡ old ++ record_of canonical

-- What normalise appends for a frame that was decoded: its canonical octets as a record, if these fit in one.
abbrev pub IsRewritten : FrameValue → List ℕ → List ℕ → Type 0
IsRewritten frame old new = ((canonical : List ℕ) → IsCanonicalFor frame canonical → IsRecord canonical) → AppendsRecord frame old new

-- The file is so many records, and in each mode what normalise may write of these is the file, and nothing else.
pub record IsKept (records : ℕ) (file : List ℕ) : Type 0 where
  pub list : List (List ℕ)
  pub count : length list ≡ records
  pub each : AllByRecursion IsRecord list
  pub joins : file ≡ joined list
  pub written : (mode : Mode) → Outputs (NormalisesTo mode) 1 list file
  pub alone : (mode : Mode) (output : List ℕ) → Outputs (NormalisesTo mode) 1 list output → output ≡ file
