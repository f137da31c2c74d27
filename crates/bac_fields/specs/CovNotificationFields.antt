-- The fields of notifications of changed values (clauses 13.6 and 13.7).
use Rattle.std.specs.Prelude.{List, ◌∷◌}
use Rattle.bac_service.specs.declared.kind.Kind.{Kind}
use Rattle.bac_service.specs.declared.kind.Kind.TheVariants.{Confirmed}
use Rattle.bac_service.specs.CovNotification.{Notification}
use Rattle.bac_field_parts.specs.declared.names.Name.TheVariants as name
use Rattle.bac_field_parts.specs.Fields.{FieldValue, Step, next, octet_field, listed_in}
use Rattle.bac_field_parts.specs.PrimitiveFields.{object_under, number_under}
use Rattle.bac_fields.specs.PropertyFields.{property_value_steps}

-- The field with the service choice of a notification, which is one of the two kinds of request.
abbrev pub notification_field : Kind → FieldValue
notification_field Confirmed = octet_field name.ConfirmedCovNotification 1
notification_field _ = octet_field name.UnconfirmedCovNotification 2

-- The steps of a notification of changed values.
abbrev pub notification_steps : Kind → Notification → List Step
notification_steps kind notification =
    next (notification_field kind) ∷ next (number_under name.Process 0 notification.process) ∷ next (object_under name.Device 1 notification.device)
    ∷ next (object_under name.Object 2 notification.object) ∷ next (number_under name.Remaining 3 notification.remaining)
    ∷ listed_in name.Values 4 property_value_steps notification.values
