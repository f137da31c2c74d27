-- The value that octets spell as contents, by the application number of its type.
use Rattle.std.specs.Prelude.{nat_eq, ℕ, ◌/◌, ◌%◌, ◌^◌, List, [], ◌∷◌, drop, slice_index}
use Rattle.std.specs.List.{slice_index_or}
use Rattle.std.specs.Int.{w32, w64, from_be_bytes}
use Rattle.bac_tag.specs.Number.{number}
use Rattle.bac_value.specs.declared.prim.PrimitiveValue.{PrimitiveValue}
use Rattle.bac_value.specs.declared.prim.PrimitiveValue.TheVariants.{Null, Boolean, Unsigned, Signed, RealBits, DoubleBits, Octets, Text, Bits, Enumerated, Date, Time, ObjectId}
use Rattle.bac_numbers.specs.SignedContents.{signed_number}
use Rattle.bac_value.specs.BitsContents.{bits_of}
use Rattle.bac_value.specs.Identifier.{Identifier}

-- The identifier of four octets: 10 bits of kind, then 22 bits of instance.
abbrev pub identifier_of : List ℕ → Identifier
identifier_of octets = record { kind = from_be_bytes w32 octets / 2 ^ 22; instance = from_be_bytes w32 octets % 2 ^ 22 }

-- The values of the thirteen types that the octets would spell, a line for each application number, from 0 on.
abbrev pub values_of_contents : List ℕ → List PrimitiveValue
values_of_contents octets =
    Null (record {})
    ∷ Boolean (record { 0 = nat_eq (slice_index octets 0) 1 })
    ∷ Unsigned (record { 0 = number octets })
    ∷ Signed (record { 0 = signed_number octets })
    ∷ RealBits (record { 0 = from_be_bytes w32 octets })
    ∷ DoubleBits (record { 0 = from_be_bytes w64 octets })
    ∷ Octets octets
    ∷ Text (record { set = slice_index octets 0; octets = drop 1 octets })
    ∷ Bits (bits_of octets)
    ∷ Enumerated (record { 0 = number octets })
    ∷ Date (record { 0 = octets })
    ∷ Time (record { 0 = octets })
    ∷ ObjectId (identifier_of octets)
    ∷ []

-- The value of the type with that application number, computed from the octets. If the octets are contents of a value of the
-- type, it is that value (bac_value::laws::contents_tell_the_value). For other octets it has no meaning.
abbrev pub prim_of_contents : ℕ → List ℕ → PrimitiveValue
prim_of_contents n octets = slice_index_or (values_of_contents octets) n (Null (record {}))
