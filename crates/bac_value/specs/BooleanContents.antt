-- A Boolean as contents, those of the context form (clause 20.2.3).
use Rattle.std.specs.Prelude.{ℕ, List, [], ◌∷◌, if◌then◌else◌}
use Rattle.bac_value.specs.declared.types.boolean_value.Boolean.{Boolean}

-- This holds of both values of a Boolean.
abbrev pub IsBoolean : Boolean → Type 0
IsBoolean value = Unit {0}

-- The contents of a Boolean are one octet, 1 for true and 0 for false. They are the contents of the context form; in the
-- application form the head says which.
abbrev pub boolean_octets : Boolean → List ℕ
boolean_octets value = (if value.0 then 1 else 0) ∷ []
