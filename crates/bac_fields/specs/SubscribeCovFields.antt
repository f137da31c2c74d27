-- The fields of SubscribeCOV (clause 13.14).
use Rattle.std.specs.Prelude.{List, ◌∷◌, ◌++◌}
use Rattle.bac_service.specs.declared.service.subscribe_cov.SubscribeCov.{SubscribeCov}
use Rattle.bac_field_parts.specs.declared.names.Name.TheVariants as name
use Rattle.bac_field_parts.specs.Fields.{Step, next, optional, octet_field}
use Rattle.bac_field_parts.specs.PrimitiveFields.{object_under, number_under, truth_under}

-- The steps of SubscribeCOV: the service choice, the process, the object, whether notifications are
-- confirmed, and the lifetime.
abbrev pub subscribe_cov_steps : SubscribeCov → List Step
subscribe_cov_steps request =
    next (octet_field name.SubscribeCov 5) ∷ next (number_under name.Process 0 request.process) ∷ next (object_under name.Object 1 request.object)
    ∷ (optional (truth_under name.Confirmed 2) request.confirmed ++ optional (number_under name.Lifetime 3) request.lifetime)
