-- Fields of a production by the types of their contents (clause 21).
use Rattle.std.specs.Prelude.{ℕ, ◌-◌, ◌^◌, Bool, Some, None, List}
use Rattle.bac_value.specs.Primitives.{IsTheList}
use Rattle.bac_numbers.specs.Numbers.{NumberContents}
use Rattle.bac_value.specs.Identifier.{Identifier, IsIdentifier, identifier_octets}
use Rattle.bac_value.specs.BooleanContents.{IsBoolean, boolean_octets}
use Rattle.bac_value.specs.declared.types.enumeration.Enumerated.{Enumerated}
use Rattle.bac_productions.specs.Fields.{heading, IsField}

-- ---- under a context tag

-- The lists that spell an object identifier under a context tag.
abbrev pub ObjectField : ℕ → Identifier → List ℕ → Type 0
ObjectField number = IsField (heading (Some number) 12) (IsTheList IsIdentifier identifier_octets)

-- The lists that spell an Enumerated below 2^32 under a context tag, by the number in it.
abbrev pub EnumeratedField : ℕ → ℕ → List ℕ → Type 0
EnumeratedField number value = IsField (heading (Some number) 9) (λ (v : Enumerated) octets. NumberContents 0 (2 ^ 32 - 1) v.0 octets) (record { 0 = value })

-- The lists that spell an Unsigned below 2^32 under a context tag.
abbrev pub UnsignedField : ℕ → ℕ → List ℕ → Type 0
UnsignedField number = IsField (heading (Some number) 2) (λ value octets. NumberContents 0 (2 ^ 32 - 1) value octets)

-- The lists that spell an Unsigned from 0 to 4,194,303, which is an instance, under a context tag.
abbrev pub InstanceField : ℕ → ℕ → List ℕ → Type 0
InstanceField number = IsField (heading (Some number) 2) (λ value octets. NumberContents 0 4194303 value octets)

-- The lists that spell an Unsigned from 1 to 16, which is the priority of a command, under a context tag.
abbrev pub PriorityField : ℕ → ℕ → List ℕ → Type 0
PriorityField number = IsField (heading (Some number) 2) (λ value octets. NumberContents 1 16 value octets)

-- The lists that spell a Boolean under a context tag.
abbrev pub BooleanField : ℕ → Bool → List ℕ → Type 0
BooleanField number bit = IsField (heading (Some number) 1) (IsTheList IsBoolean boolean_octets) (record { 0 = bit })

-- ---- under the application tag of the type

-- The lists that spell an object identifier under the application tag of its type.
abbrev pub ApplicationObject : Identifier → List ℕ → Type 0
ApplicationObject = IsField (heading None 12) (IsTheList IsIdentifier identifier_octets)

-- The lists that spell an Unsigned below 2^32 under the application tag of its type.
abbrev pub ApplicationUnsigned : ℕ → List ℕ → Type 0
ApplicationUnsigned = IsField (heading None 2) (λ value octets. NumberContents 0 (2 ^ 32 - 1) value octets)

-- The lists that spell an Enumerated below 2^32 under the application tag of its type, by the number in it.
abbrev pub ApplicationEnumerated : ℕ → List ℕ → Type 0
ApplicationEnumerated value = IsField (heading None 9) (λ (v : Enumerated) octets. NumberContents 0 (2 ^ 32 - 1) v.0 octets) (record { 0 = value })

-- The lists that spell an Unsigned below 2^16 under the application tag of its type.
abbrev pub ApplicationUnsigned16 : ℕ → List ℕ → Type 0
ApplicationUnsigned16 = IsField (heading None 2) (λ value octets. NumberContents 0 (2 ^ 16 - 1) value octets)

-- The lists that spell an Enumerated under a context tag, by EnumeratedField. It is seen as the number in it.
abbrev pub EnumeratedPart : ℕ → Enumerated → List ℕ → Type 0
EnumeratedPart number value = EnumeratedField number value.0

-- The lists that spell an Enumerated under the application tag of its type, by ApplicationEnumerated. It is seen as the
-- number in it.
abbrev pub ApplicationEnumeratedPart : Enumerated → List ℕ → Type 0
ApplicationEnumeratedPart value = ApplicationEnumerated value.0

-- The Enumerated with that number in it.
abbrev pub of_number : ℕ → Enumerated
of_number number = record { 0 = number }
