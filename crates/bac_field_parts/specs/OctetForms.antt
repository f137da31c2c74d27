-- Numbers and octets without tags, as a field says them.
use Rattle.std.specs.Prelude.{◌≡◌, ℕ, ◌/◌, ◌%◌, ◌<◌, List, [], ◌∷◌, length}
use Rattle.bac_tag.specs.Spelling.{Joins}
use Rattle.bac_field_parts.specs.Opaques.{AreTheOctets}

-- The octets are a number of one octet.
abbrev pub IsOneOctet : ℕ → List ℕ → Type 0
IsOneOctet n b = (b ≡ n ∷ []) × (n < 256)

-- The octets are a number of two octets, the higher first.
abbrev pub AreTwoOctets : ℕ → List ℕ → Type 0
AreTwoOctets n b = (b ≡ n / 256 ∷ n % 256 ∷ []) × (n < 65536)

-- The list is octets after their number, which is one octet.
abbrev pub AreCounted : List ℕ → List ℕ → Type 0
AreCounted octets = Joins (IsOneOctet (length octets)) (AreTheOctets octets)
