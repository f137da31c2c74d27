-- The fields of a service, from its service choice on. Each service has a file with its name beside this one. It can be
-- compared with the table of section 8.2 of FORMATS.
use Rattle.std.specs.Prelude.{ℕ, Option, None, Some, List}
use Rattle.bac_service.specs.declared.kind.Kind.{Kind}
use Rattle.bac_service.specs.ServiceTable.{ServiceProduction, read_property, read_property_ack, read_property_multiple, read_property_multiple_ack, write_property, write_property_multiple, write_property_multiple_error, who_is, i_am, subscribe_cov, cov_notification, service_error}
use Rattle.bac_service.specs.Services.{SaidBy, Said, ServiceValue}
use Rattle.bac_field_parts.specs.Fields.{Step}
use Rattle.bac_fields.specs.ReadPropertyFields.{read_property_steps, read_property_ack_steps}
use Rattle.bac_fields.specs.ReadPropertyMultipleFields.{read_multiple_steps, read_multiple_ack_steps}
use Rattle.bac_fields.specs.WritePropertyFields.{write_property_steps}
use Rattle.bac_fields.specs.WritePropertyMultipleFields.{write_multiple_steps, write_error_steps}
use Rattle.bac_fields.specs.WhoIsFields.{who_is_steps}
use Rattle.bac_fields.specs.IAmFields.{i_am_steps}
use Rattle.bac_fields.specs.SubscribeCovFields.{subscribe_cov_steps}
use Rattle.bac_fields.specs.CovNotificationFields.{notification_steps}
use Rattle.bac_fields.specs.ServiceErrorFields.{service_error_steps}
use Rattle.bac_field_parts.specs.OpaqueFields.{opaque_steps}

-- The steps of what a service of this kind and this choice says by its production.
abbrev pub steps_by : Kind → ℕ → (production : ServiceProduction) → SaidBy production → List Step
steps_by kind choice read_property = read_property_steps
steps_by kind choice read_property_ack = read_property_ack_steps
steps_by kind choice read_property_multiple = read_multiple_steps
steps_by kind choice read_property_multiple_ack = read_multiple_ack_steps
steps_by kind choice write_property = write_property_steps
steps_by kind choice write_property_multiple = write_multiple_steps
steps_by kind choice write_property_multiple_error = write_error_steps
steps_by kind choice who_is = who_is_steps
steps_by kind choice i_am = i_am_steps
steps_by kind choice subscribe_cov = subscribe_cov_steps
steps_by kind choice cov_notification = notification_steps kind
steps_by kind choice service_error = service_error_steps choice

-- The steps of what a service says, by its production, or if it has none, of its choice and octets.
abbrev pub said_steps : Kind → ℕ → (production : Option ServiceProduction) → Said production → List Step
said_steps kind choice (Some production) said = steps_by kind choice production said
said_steps kind choice None octets = opaque_steps kind choice octets

-- The steps of a service, from the service choice on. They are by its production (steps_by), or if it has none,
-- those of choice and octets.
abbrev pub service_steps : ServiceValue → List Step
service_steps service = said_steps service.kind service.choice service.production service.said
