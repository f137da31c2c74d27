-- The text of services.
use Rattle.std.specs.Prelude.{ℕ, List, ◌++◌, codes, Option, None, Some, []}
use Rattle.bac_service.specs.declared.service.read_property.ReadProperty.{ReadProperty}
use Rattle.bac_service.specs.declared.service.read_property_ack.ReadPropertyAck.{ReadPropertyAck}
use Rattle.bac_service.specs.ReadAccessSpecification.{Specification}
use Rattle.bac_service.specs.ReadAccessResult.{AccessResult}
use Rattle.bac_service.specs.declared.service.write_property.WriteProperty.{WriteProperty}
use Rattle.bac_service.specs.WriteAccessSpecification.{WriteSpecification}
use Rattle.bac_service.specs.declared.service.write_property_multiple_error.WritePropertyMultipleError.{WritePropertyMultipleError}
use Rattle.bac_service.specs.declared.service.who_is.WhoIs.{WhoIs}
use Rattle.bac_service.specs.declared.service.i_am.IAm.{IAm}
use Rattle.bac_service.specs.declared.service.subscribe_cov.SubscribeCov.{SubscribeCov}
use Rattle.bac_service.specs.declared.kind.Kind.{Kind}
use Rattle.bac_service.specs.declared.kind.Kind.TheVariants.{Confirmed, Error}
use Rattle.bac_service.specs.CovNotification.{Notification}
use Rattle.bac_service.specs.declared.service.error_cause.ErrorCause.{ErrorCause}
use Rattle.bac_service.specs.ServiceTable.{ServiceProduction, read_property, read_property_ack, read_property_multiple, read_property_multiple_ack, write_property, write_property_multiple, write_property_multiple_error, who_is, i_am, subscribe_cov, cov_notification, service_error}
use Rattle.bac_service.specs.Services.{SaidBy, Said, ServiceValue}
use Rattle.bac_record.specs.Digits.{hexadecimal}
use Rattle.bac_text.specs.Words.{field, object_text, optional, listed, number, truth}
use Rattle.bac_text.specs.OpenValueText.{open_text}
use Rattle.bac_text.specs.PropertyText.{property_text, reference_text, property_result_text, cause_text, property_value_text}

-- ---- ReadProperty and its answer

-- The text of a ReadProperty: the object and the property.
abbrev pub read_property_text : ReadProperty → List ℕ
read_property_text request = field "ReadProperty object=" (object_text request.object) ++ field " property=" (property_text request.property request.index)

-- The text of an answer to ReadProperty: the object, the property and the value.
abbrev pub read_property_ack_text : ReadPropertyAck → List ℕ
read_property_ack_text ack =
    field "ReadProperty object=" (object_text ack.object) ++ field " property=" (property_text ack.property ack.index) ++ field " value=" (open_text ack.value)

-- ---- ReadPropertyMultiple and its answer

-- The text of what is asked for of an object, in parentheses: the object and the list of properties.
abbrev pub specification_text : Specification → List ℕ
specification_text specification =
    field "(object=" (object_text specification.object) ++ field " properties=" (listed reference_text specification.properties) ++ codes ")"

-- The text of a ReadPropertyMultiple: the list of what is asked for.
abbrev pub read_multiple_text : List Specification → List ℕ
read_multiple_text specs = field "ReadPropertyMultiple specs=" (listed specification_text specs)

-- The text of what reading properties of an object gave, in parentheses: the object, and the list of results if there
-- is one.
abbrev pub access_result_text : AccessResult → List ℕ
access_result_text result = field "(object=" (object_text result.object) ++ optional " results=" (listed property_result_text) result.results ++ codes ")"

-- The text of an answer to ReadPropertyMultiple: the list of what reading gave.
abbrev pub read_multiple_ack_text : List AccessResult → List ℕ
read_multiple_ack_text results = field "ReadPropertyMultiple results=" (listed access_result_text results)

-- ---- WriteProperty

-- The text of a WriteProperty: the object, the property, the value, and the priority if there is one.
abbrev pub write_property_text : WriteProperty → List ℕ
write_property_text request =
    field "WriteProperty object=" (object_text request.object) ++ field " property=" (property_text request.property request.index) ++ field " value=" (open_text request.value)
    ++ optional " priority=" number request.priority

-- ---- WritePropertyMultiple and its error

-- The text of what is written to an object, in parentheses: the object and the list of values.
abbrev pub write_specification_text : WriteSpecification → List ℕ
write_specification_text specification =
    field "(object=" (object_text specification.object) ++ field " values=" (listed property_value_text specification.values) ++ codes ")"

-- The text of a WritePropertyMultiple: the list of what is written.
abbrev pub write_multiple_text : List WriteSpecification → List ℕ
write_multiple_text specs = field "WritePropertyMultiple specs=" (listed write_specification_text specs)

-- The text of an error of WritePropertyMultiple: the choice, the class, the code, the object and the property.
abbrev pub write_error_text : WritePropertyMultipleError → List ℕ
write_error_text error =
    field "choice=16 class=" (cause_text error.class error.code) ++ field " object=" (object_text error.object) ++ field " property=" (property_text error.property error.index)

-- ---- Who-Is

-- The text of the limits of a Who-Is: the lowest and the highest instance, or nothing.
abbrev pub limits_text : Option (ℕ × ℕ) → List ℕ
limits_text None = []
limits_text (Some limits) = field " low=" (number limits.0) ++ field " high=" (number limits.1)

-- The text of a Who-Is: its name, and the limits if there are any.
abbrev pub who_is_text : WhoIs → List ℕ
who_is_text request = codes "Who-Is" ++ limits_text request.limits

-- ---- I-Am

-- The text of an I-Am: the device, the most octets of an APDU, the segmentation and the vendor.
abbrev pub i_am_text : IAm → List ℕ
i_am_text request =
    field "I-Am object=" (object_text request.object) ++ field " apdu=" (number request.apdu) ++ field " segmentation=" (number request.segmentation)
    ++ field " vendor=" (number request.vendor)

-- ---- SubscribeCOV

-- The text of a SubscribeCOV: the process and the object. After them, each if it is there: whether notifications are
-- to be confirmed, and the lifetime.
abbrev pub subscribe_cov_text : SubscribeCov → List ℕ
subscribe_cov_text request =
    field "SubscribeCOV process=" (number request.process) ++ field " object=" (object_text request.object) ++ optional " confirmed=" truth request.confirmed
    ++ optional " lifetime=" number request.lifetime

-- ---- notifications of changed values

-- The name of a notification, which is one of the two kinds of request.
abbrev pub notification_name : Kind → List ℕ
notification_name Confirmed = codes "ConfirmedCOVNotification"
notification_name _ = codes "UnconfirmedCOVNotification"

-- The text of a notification: its name, the process, the device, the object, the time remaining and the values.
abbrev pub notification_text : Kind → Notification → List ℕ
notification_text kind notification =
    notification_name kind ++ field " process=" (number notification.process) ++ field " device=" (object_text notification.device)
    ++ field " object=" (object_text notification.object) ++ field " remaining=" (number notification.remaining) ++ field " values=" (listed property_value_text notification.values)

-- ---- errors of typed services

-- The text of an error of a typed service: the choice, the class and the code.
abbrev pub service_error_text : ℕ → ErrorCause → List ℕ
service_error_text choice cause = field "choice=" (number choice) ++ field " class=" (cause_text cause.class cause.code)

-- ---- services without a production

-- What is before the service choice of a service without a production. An error has a name before it already.
abbrev pub choice_name : Kind → List ℕ
choice_name Error = codes "choice="
choice_name _ = codes "opaque choice="

-- The text of a service without a production: its choice and its octets.
abbrev pub opaque_text : Kind → ℕ → List ℕ → List ℕ
opaque_text kind choice octets = choice_name kind ++ number choice ++ field " octets=" (hexadecimal octets)

-- ---- by production

-- The text of what a service of this kind and this choice says by its production, which is before it in this file.
abbrev pub text_by : Kind → ℕ → (production : ServiceProduction) → SaidBy production → List ℕ
text_by kind choice read_property = read_property_text
text_by kind choice read_property_ack = read_property_ack_text
text_by kind choice read_property_multiple = read_multiple_text
text_by kind choice read_property_multiple_ack = read_multiple_ack_text
text_by kind choice write_property = write_property_text
text_by kind choice write_property_multiple = write_multiple_text
text_by kind choice write_property_multiple_error = write_error_text
text_by kind choice who_is = who_is_text
text_by kind choice i_am = i_am_text
text_by kind choice subscribe_cov = subscribe_cov_text
text_by kind choice cov_notification = notification_text kind
text_by kind choice service_error = service_error_text choice

-- The text of what a service says: by text_by if there is a production, else the choice and the octets.
abbrev pub said_text : Kind → ℕ → (production : Option ServiceProduction) → Said production → List ℕ
said_text kind choice (Some production) said = text_by kind choice production said
said_text kind choice None octets = opaque_text kind choice octets

-- The text of a service.
abbrev pub service_text : ServiceValue → List ℕ
service_text service = said_text service.kind service.choice service.production service.said
