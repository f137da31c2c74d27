-- The lines of pieces.
use Rattle.std.specs.Prelude.{◌≡◌, ℕ, zero, suc, ◌+◌, ◌-◌, ◌*◌, ◌/◌, nat_lt, if◌then◌else◌, List, [], ◌∷◌, ◌++◌, take, drop, length, replicate, codes}
use Rattle.std.specs.Fmt.{decimal}
use Rattle.bac_record.specs.Digits.{hexadecimal}
use Rattle.bac_explain.specs.declared.piece.Piece.{Piece}
use Rattle.bac_explain.specs.Tiles.{octets_of}
use Rattle.bac_explain.specs.Words.{IsSaid}

-- So many blanks.
abbrev pub blanks : ℕ → List ℕ
blanks count = replicate count 32

-- The blanks before an offset of fewer than four digits.
abbrev pub margin : ℕ → List ℕ
margin place = if nat_lt place 10 then codes "   " else (if nat_lt place 100 then codes "  " else (if nat_lt place 1000 then codes " " else []))

-- An offset at the right of at least four columns, and two blanks.
abbrev pub place_text : ℕ → List ℕ
place_text place = margin place ++ (decimal place ++ codes "  ")

-- What is between a tag head and its contents: a blank, if there are both.
abbrev pub gap : List ℕ → List ℕ → List ℕ
gap [] contents = []
gap (octet ∷ head) [] = []
gap (octet ∷ head) (first ∷ contents) = codes " "

-- A tag head and its contents as digits.
abbrev pub parted : List ℕ → List ℕ → List ℕ
parted head contents = hexadecimal head ++ (gap head contents ++ hexadecimal contents)

-- The first eight octets of a piece as digits.
abbrev pub front_text : Piece → List ℕ → List ℕ
front_text p own = parted (take p.head (take 8 own)) (drop p.head (take 8 own))

-- A text in at least eleven columns, and two blanks.
abbrev pub column : List ℕ → List ℕ
column text = text ++ (blanks (11 - length text) ++ codes "  ")

-- A line of the octets of a piece after its first line: the next eight.
abbrev pub further_line : Piece → List ℕ → ℕ → List ℕ
further_line p own k = place_text (p.place + 8 * k) ++ (hexadecimal (take 8 (drop (8 * k) own)) ++ codes "\n")

-- So many of these lines.
abbrev pub further_lines : Piece → List ℕ → ℕ → List ℕ
further_lines p own zero = []
further_lines p own (suc k) = further_lines p own k ++ further_line p own (suc k)

-- The lines of a piece with these octets, of which this is said: its offset, its octets, eight to a line, and the words on the
-- first line, farther to the right by two columns for each group around the piece.
abbrev pub piece_lines : Piece → List ℕ → List ℕ → List ℕ
piece_lines p own said =
    (place_text p.place ++ (column (front_text p own) ++ (blanks (2 * p.depth) ++ (said ++ codes "\n"))))
    ++ further_lines p own ((length own - 1) / 8)

-- They are the lines of the pieces of octets, in order.
abbrev pub AreLines : List ℕ → List Piece → List ℕ → Type 0
AreLines octets [] lines = lines ≡ []
AreLines octets (p ∷ ps) lines =
    (said : List ℕ) × IsSaid p (octets_of octets p) said
    × ((rest : List ℕ) × AreLines octets ps rest × (lines ≡ piece_lines p (octets_of octets p) said ++ rest))
