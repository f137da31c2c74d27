-- References to properties of objects (clause 21): [0] the object, [1] the property, [2] the index, which may be
-- absent.
-- The numbers of tags in this production and in the others of this directory are those of section 5 of
-- docs/FORMATS.md. The IsRecordOf of each production is beside it, or in a file of its name in Laws. The relation of
-- a production with an open value in it takes first how many groups may nest there. Every contract has 32, except
-- those on former spellings.
use Rattle.std.specs.Prelude.{ℕ, List, Option}
use Rattle.bac_tag.specs.Spelling.{Joined}
use Rattle.bac_value.specs.Identifier.{Identifier}
use Rattle.bac_value.specs.declared.types.enumeration.Enumerated.{Enumerated}
use Rattle.bac_productions.specs.Contents.{ObjectField, EnumeratedField, UnsignedField, EnumeratedPart}
use Rattle.bac_productions.specs.Productions.{Optional}

-- A reference to a property of an object: the object, the property, and the index or none.
abbrev pub ObjectProperty : Type 0
ObjectProperty = Identifier × (ℕ × Option ℕ)

-- The lists that spell a reference to a property of an object: the object, the property, and the index if there is
-- one.
abbrev pub SpellsObjectProperty : ObjectProperty → List ℕ → Type 0
SpellsObjectProperty = Joined (ObjectField 0) (Joined (EnumeratedField 1) (Optional (UnsignedField 2)))

-- The lists that spell the parts of a reference to a property of an object, where the property is an Enumerated.
abbrev pub ObjectPropertyParts : Identifier × (Enumerated × Option ℕ) → List ℕ → Type 0
ObjectPropertyParts = Joined (ObjectField 0) (Joined (EnumeratedPart 1) (Optional (UnsignedField 2)))
