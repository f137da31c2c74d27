-- Texts of the lines that bactool show writes.
use Rattle.std.specs.Prelude.{◌≡◌, ◌⊎◌, ℕ, ◌+◌, ◌<◌, ◌≤◌, List, ◌∷◌, ◌++◌, length, codes}
use Rattle.bac_tag.specs.Spelling.{IsLeast}
use Rattle.bac_npdu_parts.specs.Frames.{FrameValue, SpellsFrame}
use Rattle.bac_text.specs.FrameText.{text}
use Rattle.bac_text.specs.Words.{number}
use Rattle.bac_record.specs.Records.{IsRecord, LONGEST}
use Rattle.bac_pack.specs.Lines.{without_return}
use Rattle.bac_pack.specs.declared.faults.PackFault.{PackFault}
use Rattle.bac_pack.specs.declared.faults.PackFault.TheVariants.{RecordTooLong, Unreadable, Refused}
use Rattle.bac_lines.specs.Lines.{IsNoLine}

-- The most octets of a line of show, 1,048,576, before its LF.
abbrev pub LONGEST_LINE : ℕ
LONGEST_LINE = 1048576

-- The greatest number of a record, 1,000,000.
abbrev pub RECORDS : ℕ
RECORDS = 1000000

-- The line is the rest, by itself or after the number of a record, 1 to 1,000,000 (RECORDS), and a blank.
abbrev pub IsNumbered : List ℕ → List ℕ → Type 0
IsNumbered line rest = (line ≡ rest) ⊎ ((n : ℕ) × (1 ≤ n) × (n ≤ RECORDS) × (line ≡ number n ++ 32 ∷ rest))

-- Without one CR at its end, and without a number and a blank before it, the line is the text of a frame with these canonical
-- octets.
pub record IsShownAs (line octets : List ℕ) : Type 0 where
  pub rest : List ℕ
  pub numbered : IsNumbered (without_return line) rest
  pub frame : FrameValue
  pub is_line : rest ≡ text frame
  pub canonical : IsLeast (SpellsFrame frame) octets

-- The line is the text of a frame with these canonical octets, by IsShownAs, and they are at most as many as a record has.
abbrev pub StandsFor : List ℕ → List ℕ → Type 0
StandsFor line octets = IsShownAs line octets × IsRecord octets

-- The line begins with "refused " after its number: it says that a record was refused.
abbrev pub IsRefusedLine : List ℕ → Type 0
IsRefusedLine line = (rest more : List ℕ) × IsNumbered (without_return line) rest × (rest ≡ codes "refused " ++ more)

-- The column is one of the line, counted from 1, or the one after its end.
abbrev pub IsColumn : List ℕ → ℕ → Type 0
IsColumn line column = (1 ≤ column) × (column ≤ length line + 1)

-- The line is that of no frame, neither by itself nor without its number.
abbrev pub HasNoLine : List ℕ → Type 0
HasNoLine line = (rest : List ℕ) → IsNumbered line rest → IsNoLine rest

-- The line is that of no frame by IsShownAs, whatever canonical octets the frame has.
abbrev pub IsShownAsNone : List ℕ → Type 0
IsShownAsNone line = (octets : List ℕ) → IsShownAs line octets → ⊥

-- The fault is Unreadable, for a line that lost its CR: it is that of no frame (HasNoLine), and the fault has a column of it.
abbrev pub IsUnread : List ℕ → PackFault → Type 0
IsUnread line (Unreadable at column) = IsColumn line column × HasNoLine line
IsUnread line _ = ⊥

-- The fault is RecordTooLong, for octets that are more than a record has.
abbrev pub IsTooLong : List ℕ → PackFault → Type 0
IsTooLong octets (RecordTooLong at) = LONGEST < length octets
IsTooLong octets _ = ⊥

-- The line means no record, for this fault.
-- Unreadable: the line is that of no frame, whatever octets (IsShownAsNone), and the fault has a column of the line without its
-- CR, counted from 1, or the one after its end (IsColumn).
-- Refused: the line begins with "refused " after its number (IsRefusedLine).
-- RecordTooLong: the line is that of a frame with more octets than a record has.
abbrev pub StandsForNone : List ℕ → PackFault → Type 0
StandsForNone line (Unreadable at column) = IsColumn (without_return line) column × IsShownAsNone line
StandsForNone line (Refused at) = IsRefusedLine line
StandsForNone line (RecordTooLong at) = (octets : List ℕ) × IsShownAs line octets × (LONGEST < length octets)
StandsForNone line _ = ⊥
