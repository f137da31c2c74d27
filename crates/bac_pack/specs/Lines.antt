-- Texts of lines, and the record that a line of hexadecimal digits means. The format is this project's own. What digits mean is
-- said by the crate hex (decode_of).
use Rattle.std.specs.Prelude.{◌≡◌, ◌≢◌, ◌⊎◌, ℕ, ◌-◌, ◌==◌, ◌<◌, ◌≤◌, ◌++◌, List, [], ◌∷◌, length, take, filter, flat_map, not, slice_index, Ok, IsErr, if◌then◌else◌}
use Rattle.std.specs.List.{AllByRecursion}
use Rattle.hex.specs.Hex.{decode_of}
use Rattle.bac_record.specs.Records.{IsRecord, LONGEST}
use Rattle.bac_pack.specs.declared.faults.PackFault.{PackFault}
use Rattle.bac_pack.specs.declared.faults.PackFault.TheVariants.{NotHex, RecordTooLong}

-- The octet that ends a line, 10.
abbrev pub LF : ℕ
LF = 10

-- The octet that may be before the LF, 13.
abbrev pub CR : ℕ
CR = 13

-- The octet that may be anywhere in a line, 32.
abbrev pub BLANK : ℕ
BLANK = 32

-- The most octets of a line of digits, 200,000, without its LF.
abbrev pub LONGEST_LINE : ℕ
LONGEST_LINE = 200000

-- The most lines of a text, 1,000,000.
abbrev pub MOST_LINES : ℕ
MOST_LINES = 1000000

-- The lines with an octet at the front of the first of them. If there is none, the octet is a line.
abbrev pub in_first : ℕ → List (List ℕ) → List (List ℕ)
in_first octet [] = (octet ∷ []) ∷ []
in_first octet (line ∷ lines) = (octet ∷ line) ∷ lines

-- The lines with an octet before them: LF ends an empty line, and any other octet belongs to the first of them.
abbrev pub with_octet : ℕ → List (List ℕ) → List (List ℕ)
with_octet octet lines = if octet == LF then [] ∷ lines else in_first octet lines

-- The lines of a text: each ends with LF, and octets after the last LF are a line if there are any. The definition goes octet
-- by octet, by with_octet and in_first.
abbrev pub lines_of : List ℕ → List (List ℕ)
lines_of [] = []
lines_of (octet ∷ text) = with_octet octet (lines_of text)

-- These lines one after another, each with its LF.
abbrev pub ended : List (List ℕ) → List ℕ
ended lines = flat_map (λ line. line ++ LF ∷ []) lines

-- No LF is in the octets.
abbrev pub IsUnbroken : List ℕ → Type 0
IsUnbroken octets = AllByRecursion (λ octet. octet ≢ LF) octets

-- The text is these lines, each with its LF, and the LF after the last one may be missing if that line is not empty.
abbrev pub IsText : List (List ℕ) → List ℕ → Type 0
IsText lines text = (text ≡ ended lines)
    ⊎ ((front : List (List ℕ)) × (last : List ℕ) × (lines ≡ front ++ last ∷ []) × (last ≢ []) × (text ≡ ended front ++ last))

-- The line is no longer than a line may be.
abbrev pub IsShort : ℕ → List ℕ → Type 0
IsShort longest line = length line ≤ longest

-- The octets are a line: no LF is in them, and they are no longer than a line may be.
abbrev pub IsLine : ℕ → List ℕ → Type 0
IsLine longest line = IsUnbroken line × IsShort longest line

-- The line without one CR at its end.
abbrev pub without_return : List ℕ → List ℕ
without_return line = if slice_index line (length line - 1) == CR then take (length line - 1) line else line

-- The octets without their blanks.
abbrev pub without_blanks : List ℕ → List ℕ
without_blanks octets = filter (λ octet. not (octet == BLANK)) octets

-- The digits of a line: what is left without one CR at its end and then without its blanks.
abbrev pub digits_of : List ℕ → List ℕ
digits_of line = without_blanks (without_return line)

-- The digits, two for each octet, are these octets, and a record may have that many.
abbrev pub Spells : List ℕ → List ℕ → Type 0
Spells digits octets = (decode_of digits ≡ Ok octets) × IsRecord octets

-- The digits are an odd number, or another octet is among them.
abbrev pub IsNotHex : List ℕ → Type 0
IsNotHex digits = IsErr (decode_of digits)

-- The digits are hexadecimal, but those of more octets than a record may have.
abbrev pub IsTooLong : List ℕ → Type 0
IsTooLong digits = (octets : List ℕ) × (decode_of digits ≡ Ok octets) × (LONGEST < length octets)

-- The digits are those of no record, for this fault: NotHex by IsNotHex, or RecordTooLong by IsTooLong.
abbrev pub SpellsNone : List ℕ → PackFault → Type 0
SpellsNone digits (NotHex number) = IsNotHex digits
SpellsNone digits (RecordTooLong number) = IsTooLong digits
SpellsNone digits _ = ⊥

-- The digits of the line spell these octets, which are the record that the line means.
abbrev pub Packs : List ℕ → List ℕ → Type 0
Packs line = Spells (digits_of line)

-- The digits of the line spell no record, for this fault.
abbrev pub PacksNone : List ℕ → PackFault → Type 0
PacksNone line = SpellsNone (digits_of line)
