-- Character strings as contents (clause 20.2.9). Which octets are UTF-8 is defined by IsUtf8 of the kit.
use Rattle.std.specs.Prelude.{ℕ, List, ◌∷◌}
use Rattle.bac_value.specs.OctetStringContents.{IsOctetString}

-- A text is the number of a character set, and the octets of the text.
pub record TextValue : Type 0 where
  pub set : ℕ
  pub octets : List ℕ

-- The contents of a text are one octet with the set, then the octets.
abbrev pub text_octets : TextValue → List ℕ
text_octets text = text.set ∷ text.octets

-- The contents of the text are octets, together at most the 1,048,576 that a value may have.
abbrev pub IsText : TextValue → Type 0
IsText text = IsOctetString (text_octets text)
