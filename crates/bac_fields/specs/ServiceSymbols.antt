-- The symbols of services, and which name begins which service.
use Rattle.std.specs.Prelude.{ℕ, nat_eq, true, Option, Some, List, [], ◌∷◌, ◌++◌}
use Rattle.std.specs.Map.{lookup}
use Rattle.bac_tag.specs.Spelling.{Joins}
use Rattle.bac_service.specs.ServiceTable.{ServiceProduction, read_property, read_property_ack, read_property_multiple, read_property_multiple_ack, write_property, write_property_multiple, write_property_multiple_error, who_is, i_am, subscribe_cov, cov_notification, service_error}
use Rattle.bac_service.specs.Services.{ServiceValue, SpellsService}
use Rattle.bac_service.specs.declared.kind.Kind.{Kind}
use Rattle.bac_service.specs.declared.kind.Kind.TheVariants.{Confirmed, Unconfirmed, ComplexAck, Error}
use Rattle.bac_fields.specs.ServiceFields.{service_steps}
use Rattle.bac_field_parts.specs.Symbols.{Symbol, finished, steps_said, the_octet}

-- The symbols of a service, to the end of the fields.
abbrev pub service_said : ServiceValue → List Symbol
service_said x = steps_said (service_steps x) ++ finished ∷ []

-- The lists that spell what is after the head of an APDU: the service choice, and the service.
abbrev pub SpellsAfterHead : Kind → ServiceValue → List ℕ → Type 0
SpellsAfterHead kind x = Joins (the_octet x.choice tt) (SpellsService true 32 kind x.choice x)

-- The number of the name that a service of this kind begins with if it has this production.
abbrev pub first_name : Kind → ServiceProduction → ℕ
first_name kind read_property = 60
first_name kind read_property_ack = 60
first_name kind read_property_multiple = 61
first_name kind read_property_multiple_ack = 61
first_name kind write_property = 62
first_name kind write_property_multiple = 63
first_name kind who_is = 64
first_name kind i_am = 65
first_name kind subscribe_cov = 66
first_name Confirmed cov_notification = 67
first_name kind cov_notification = 68
first_name kind service_error = 30
first_name kind write_property_multiple_error = 30

-- The numbers of the names that determine a service of this kind, each with its service choice and its production.
abbrev pub names_told : Kind → List (ℕ × (ℕ × ServiceProduction))
names_told Confirmed = (67, (1, cov_notification)) ∷ (66, (5, subscribe_cov)) ∷ (60, (12, read_property)) ∷ (61, (14, read_property_multiple)) ∷ (62, (15, write_property)) ∷ (63, (16, write_property_multiple)) ∷ []
names_told Unconfirmed = (65, (0, i_am)) ∷ (68, (2, cov_notification)) ∷ (64, (8, who_is)) ∷ []
names_told ComplexAck = (60, (12, read_property_ack)) ∷ (61, (14, read_property_multiple_ack)) ∷ []
names_told Error = []

-- The service choice and the production that the name with this number determines, or None if it determines none.
abbrev pub named_choice : Kind → ℕ → Option (ℕ × ServiceProduction)
named_choice kind name = lookup (λ n. nat_eq n name) (names_told kind)

-- The leads of the services of a kind, which are the numbers of the names that they begin with.
abbrev pub service_leads : Kind → List (Option ℕ)
service_leads Confirmed = Some 60 ∷ Some 61 ∷ Some 62 ∷ Some 63 ∷ Some 66 ∷ Some 67 ∷ Some 69 ∷ []
service_leads Unconfirmed = Some 64 ∷ Some 65 ∷ Some 68 ∷ Some 69 ∷ []
service_leads ComplexAck = Some 60 ∷ Some 61 ∷ Some 69 ∷ []
service_leads Error = Some 30 ∷ []
