-- Services, as values, and the lists that spell one of a kind and a choice (clause 21).
use Rattle.std.specs.Prelude.{ℕ, Bool, true, false, Option, None, Some, List, map, ◌≡◌, ◌↔◌, ◌<◌}
use Rattle.bac_tag.specs.Octets.{IsOctets}
use Rattle.bac_productions.specs.Productions.{Items}
use Rattle.bac_service.specs.declared.kind.Kind.{Kind}
use Rattle.bac_service.specs.declared.kind.Kind.TheVariants as kind
use Rattle.bac_service.specs.declared.service.Service.{Service}
use Rattle.bac_service.specs.declared.service.Service.TheVariants as held
use Rattle.bac_service.specs.declared.service.read_property.ReadProperty.{ReadProperty}
use Rattle.bac_service.specs.declared.service.read_property_ack.ReadPropertyAck.{ReadPropertyAck}
use Rattle.bac_service.specs.declared.service.write_property.WriteProperty.{WriteProperty}
use Rattle.bac_service.specs.declared.service.who_is.WhoIs.{WhoIs}
use Rattle.bac_service.specs.declared.service.i_am.IAm.{IAm}
use Rattle.bac_service.specs.declared.service.subscribe_cov.SubscribeCov.{SubscribeCov}
use Rattle.bac_service.specs.declared.service.error_cause.ErrorCause.{ErrorCause}
use Rattle.bac_service.specs.declared.service.write_property_multiple_error.WritePropertyMultipleError.{WritePropertyMultipleError}
use Rattle.bac_service.specs.ReadAccessSpecification.{Specification, specification_of, SpellsSpecification}
use Rattle.bac_service.specs.ReadAccessResult.{AccessResult, access_result_of, SpellsAccessResult}
use Rattle.bac_service.specs.WriteAccessSpecification.{WriteSpecification, write_specification_of, SpellsWriteSpecification}
use Rattle.bac_service.specs.CovNotification.{Notification, notification_of, SpellsNotification}
use Rattle.bac_service.specs.ServiceTable.{ServiceProduction, read_property, read_property_ack, read_property_multiple, read_property_multiple_ack, write_property, write_property_multiple, write_property_multiple_error, who_is, i_am, subscribe_cov, cov_notification, service_error, production_of}
use Rattle.bac_service.specs.ReadProperty.{SpellsReadProperty}
use Rattle.bac_service.specs.ReadPropertyAck.{SpellsReadPropertyAck}
use Rattle.bac_service.specs.WriteProperty.{SpellsWriteProperty}
use Rattle.bac_service.specs.WritePropertyMultipleError.{SpellsWriteError}
use Rattle.bac_service.specs.WhoIs.{SpellsWhoIs}
use Rattle.bac_service.specs.IAm.{SpellsIAm}
use Rattle.bac_service.specs.SubscribeCov.{SpellsSubscribeCov}
use Rattle.bac_service.specs.ErrorCause.{SpellsErrorCause}

-- What a service of a production says.
abbrev pub SaidBy : ServiceProduction → Type 0
SaidBy read_property = ReadProperty
SaidBy read_property_ack = ReadPropertyAck
SaidBy read_property_multiple = List Specification
SaidBy read_property_multiple_ack = List AccessResult
SaidBy write_property = WriteProperty
SaidBy write_property_multiple = List WriteSpecification
SaidBy write_property_multiple_error = WritePropertyMultipleError
SaidBy who_is = WhoIs
SaidBy i_am = IAm
SaidBy subscribe_cov = SubscribeCov
SaidBy cov_notification = Notification
SaidBy service_error = ErrorCause

-- What a service says: by its production if it has one, else octets.
abbrev pub Said : Option ServiceProduction → Type 0
Said (Some production) = SaidBy production
Said None = List ℕ

-- A service as a value: a kind, a service choice, a production or none, and what the service says by it.
pub record ServiceValue : Type 0 where
  pub kind : Kind
  pub choice : ℕ
  pub production : Option ServiceProduction
  pub said : Said production

-- A service that has a production.
abbrev pub typed : Kind → ℕ → (production : ServiceProduction) → SaidBy production → ServiceValue
typed kind choice production said = record { kind = kind; choice = choice; production = Some production; said = said }

-- A service that has no production, so it says octets.
abbrev pub opaque : Kind → ℕ → List ℕ → ServiceValue
opaque kind choice octets = record { kind = kind; choice = choice; production = None; said = octets }

-- The kind of a notification: Confirmed if it is confirmed, else Unconfirmed.
abbrev pub notification_kind : Bool → Kind
notification_kind true = kind.Confirmed
notification_kind false = kind.Unconfirmed

-- The service choice of a notification: 1 if it is confirmed, else 2.
abbrev pub notification_choice : Bool → ℕ
notification_choice true = 1
notification_choice false = 2

-- The value that a Service holds, with a line for each variant. A notification has notification_kind and
-- notification_choice. An error of a class and a code has kind Error and its own choice. An opaque service has its
-- own kind and choice. The other services have those of their row.
abbrev pub value_of : Service → ServiceValue
value_of (held.ReadProperty request) = typed kind.Confirmed 12 read_property request
value_of (held.ReadPropertyAck ack) = typed kind.ComplexAck 12 read_property_ack ack
value_of (held.WriteProperty request) = typed kind.Confirmed 15 write_property request
value_of (held.ReadPropertyMultiple request) = typed kind.Confirmed 14 read_property_multiple (map specification_of request.specs.items)
value_of (held.ReadPropertyMultipleAck ack) = typed kind.ComplexAck 14 read_property_multiple_ack (map access_result_of ack.results.items)
value_of (held.WritePropertyMultiple request) = typed kind.Confirmed 16 write_property_multiple (map write_specification_of request.specs.items)
value_of (held.WhoIs request) = typed kind.Unconfirmed 8 who_is request
value_of (held.IAm request) = typed kind.Unconfirmed 0 i_am request
value_of (held.SubscribeCov request) = typed kind.Confirmed 5 subscribe_cov request
value_of (held.CovNotification request) = typed (notification_kind request.confirmed) (notification_choice request.confirmed) cov_notification (notification_of request)
value_of (held.ServiceError error) = typed kind.Error error.choice service_error error.cause
value_of (held.WritePropertyMultipleError error) = typed kind.Error 16 write_property_multiple_error error
value_of (held.Opaque service) = opaque service.kind service.choice service.octets

-- The lists that spell what a service of a production says. The first argument is how many groups may nest in an open
-- value.
abbrev pub SpellsBy : ℕ → (production : ServiceProduction) → SaidBy production → List ℕ → Type 0
SpellsBy groups read_property = SpellsReadProperty
SpellsBy groups read_property_ack = SpellsReadPropertyAck groups
SpellsBy groups read_property_multiple = Items SpellsSpecification
SpellsBy groups read_property_multiple_ack = Items (SpellsAccessResult groups)
SpellsBy groups write_property = SpellsWriteProperty groups
SpellsBy groups write_property_multiple = Items (SpellsWriteSpecification groups)
SpellsBy groups write_property_multiple_error = SpellsWriteError
SpellsBy groups who_is = SpellsWhoIs
SpellsBy groups i_am = SpellsIAm
SpellsBy groups subscribe_cov = SpellsSubscribeCov
SpellsBy groups cov_notification = SpellsNotification groups
SpellsBy groups service_error = SpellsErrorCause

-- The lists that spell what a service says: by SpellsBy if there is a production. If there is none, the octets that
-- are said are themselves the only such list. The first argument is how many groups may nest in an open value.
abbrev pub SpellsSaid : ℕ → (production : Option ServiceProduction) → Said production → List ℕ → Type 0
SpellsSaid groups (Some production) said b = SpellsBy groups production said b
SpellsSaid groups None octets b = (b ≡ octets) × IsOctets octets

-- The list b spells the service, which has this kind and this choice. The choice is below 256. The service has the
-- production that the table has for the two, or none if the table has none. The list spells what the service says.
-- The settings are multiple, which says whether WritePropertyMultiple is typed, and groups, which is how many groups
-- may nest in an open value. They are true and 32, and in contracts on former spellings false and 16.
pub record SpellsService (multiple : Bool) (groups : ℕ) (kind : Kind) (choice : ℕ) (service : ServiceValue) (b : List ℕ) : Type 0 where
  pub kind_is : service.kind ≡ kind
  pub choice_is : service.choice ≡ choice
  pub choice_fits : choice < 256
  pub production_is : service.production ≡ production_of multiple kind choice
  pub spelled : SpellsSaid groups service.production service.said b

-- The service has a choice below 256 and the production that the table has for its kind and its choice. It has none
-- if the table has none.
pub record IsPlaced (service : ServiceValue) : Type 0 where
  pub choice_fits : service.choice < 256
  pub production_is : service.production ≡ production_of true service.kind service.choice

-- The same lists spell the values of a production, and the services of this kind and this choice.
pub record IsServiceOf {V : Type 0} (spells : V → List ℕ → Type 0) (kind : Kind) (choice : ℕ) : Type 0 where
  pub every : (v : V) → (x : ServiceValue) × ((b : List ℕ) → spells v b ↔ SpellsService true 32 kind choice x b)
  pub only : (x : ServiceValue) (b : List ℕ) → SpellsService true 32 kind choice x b → (v : V) × spells v b
