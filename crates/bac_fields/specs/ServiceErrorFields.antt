-- The fields of errors of typed services (clause 18).
use Rattle.std.specs.Prelude.{ℕ, List, ◌∷◌}
use Rattle.bac_service.specs.declared.service.error_cause.ErrorCause.{ErrorCause}
use Rattle.bac_field_parts.specs.declared.names.Name.TheVariants as name
use Rattle.bac_field_parts.specs.Fields.{Step, next, octet_field}
use Rattle.bac_fields.specs.PropertyFields.{cause_steps}

-- The steps of an error of a typed service: the service choice, the class and the code.
abbrev pub service_error_steps : ℕ → ErrorCause → List Step
service_error_steps choice cause = next (octet_field name.Choice choice) ∷ cause_steps cause.class cause.code
