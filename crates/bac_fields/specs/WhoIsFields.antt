-- The fields of Who-Is (clause 16.10).
use Rattle.std.specs.Prelude.{ℕ, Option, None, Some, List, [], ◌∷◌}
use Rattle.bac_service.specs.declared.service.who_is.WhoIs.{WhoIs}
use Rattle.bac_field_parts.specs.declared.names.Name.TheVariants as name
use Rattle.bac_field_parts.specs.Fields.{Step, next, octet_field}
use Rattle.bac_field_parts.specs.PrimitiveFields.{number_under}

-- The steps of the lowest and the highest instance, if there are limits.
abbrev pub limits_steps : Option (ℕ × ℕ) → List Step
limits_steps None = []
limits_steps (Some limits) = next (number_under name.Low 0 limits.0) ∷ next (number_under name.High 1 limits.1) ∷ []

-- The steps of Who-Is: the service choice, and the limits, if there are any.
abbrev pub who_is_steps : WhoIs → List Step
who_is_steps request = next (octet_field name.WhoIs 8) ∷ limits_steps request.limits
