-- Numbers and octets as digits. Decimal digits are those of std: decimal of a number has no leading zeros, and signed_decimal
-- has a minus at the front if the number is negative.
use Rattle.std.specs.Prelude.{ℕ, List, [], ◌∷◌, ◌++◌, ◌+◌, ◌/◌, ◌%◌, slice_index, codes}

-- The two decimal digits of a number below 100.
abbrev pub two : ℕ → List ℕ
two n = (48 + n / 10) ∷ (48 + n % 10) ∷ []

-- The four decimal digits of a number below 10,000.
abbrev pub four : ℕ → List ℕ
four n = two (n / 100) ++ two (n % 100)

-- The hexadecimal digit of a number below 16, in upper case.
abbrev pub digit : ℕ → ℕ
digit n = slice_index (codes "0123456789ABCDEF") n

-- The hexadecimal digits of octets, two for each octet.
abbrev pub hexadecimal : List ℕ → List ℕ
hexadecimal [] = []
hexadecimal (octet ∷ octets) = digit (octet / 16) ∷ digit (octet % 16) ∷ hexadecimal octets
