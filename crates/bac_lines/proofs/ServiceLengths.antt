-- How many octets the texts of services have.
use Rattle.std.specs.Prelude.{Option, None, Some}
use Rattle.std.proofs.Common.{ℕ, ◌+◌, ◌*◌, ◌<◌, ◌≤◌, Bool, List, length, ap, arith}
use Rattle.std.proofs.lemmas.List.{length-append}
use Rattle.bac_tag.specs.Spelling.{Joined}
use Rattle.bac_productions.specs.Contents.{UnsignedField, InstanceField, BooleanField}
use Rattle.bac_productions.specs.Productions.{Optional}
use Rattle.bac_service.specs.declared.kind.Kind.{Kind}
use Rattle.bac_service.specs.declared.kind.Kind.TheVariants as kind
use Rattle.bac_service.specs.declared.service.error_cause.ErrorCause.{ErrorCause}
use Rattle.bac_service.specs.declared.service.read_property.ReadProperty.{ReadProperty}
use Rattle.bac_service.specs.declared.service.read_property_ack.ReadPropertyAck.{ReadPropertyAck}
use Rattle.bac_service.specs.declared.service.write_property.WriteProperty.{WriteProperty}
use Rattle.bac_service.specs.declared.service.write_property_multiple_error.WritePropertyMultipleError.{WritePropertyMultipleError}
use Rattle.bac_service.specs.declared.service.i_am.IAm.{IAm}
use Rattle.bac_service.specs.declared.service.subscribe_cov.SubscribeCov.{SubscribeCov}
use Rattle.bac_service.specs.ReadAccessSpecification.{SpellsSpecification}
use Rattle.bac_service.specs.ReadAccessResult.{SpellsAccessResult}
use Rattle.bac_service.specs.WriteAccessSpecification.{SpellsWriteSpecification}
use Rattle.bac_service.specs.CovNotification.{Notification, SpellsNotification}
use Rattle.bac_service.specs.ErrorCause.{SpellsErrorCause}
use Rattle.bac_service.specs.PropertyValue.{SpellsPropertyValue}
use Rattle.bac_service.specs.ReadProperty.{SpellsReadProperty}
use Rattle.bac_service.specs.ReadPropertyAck.{SpellsReadPropertyAck}
use Rattle.bac_service.specs.WriteProperty.{SpellsWriteProperty}
use Rattle.bac_service.specs.WritePropertyMultipleError.{SpellsWriteError}
use Rattle.bac_service.specs.IAm.{SpellsIAm}
use Rattle.bac_service.specs.SubscribeCov.{SpellsSubscribeCov}
use Rattle.bac_service.specs.ServiceTable.{ServiceProduction, read_property, read_property_ack, read_property_multiple, read_property_multiple_ack, write_property, write_property_multiple, write_property_multiple_error, who_is, i_am, subscribe_cov, cov_notification, service_error}
use Rattle.bac_service.specs.Services.{Said, ServiceValue, SpellsSaid, SpellsService}
use Rattle.bac_record.specs.Digits.{hexadecimal}
use Rattle.bac_text.specs.Words.{number, truth, field, optional, listed, object_text}
use Rattle.bac_text.specs.OpenValueText.{open_text}
use Rattle.bac_text.specs.PropertyText.{property_text, cause_text, property_value_text}
use Rattle.bac_text.specs.ServiceText.{read_property_text, read_property_ack_text, specification_text, access_result_text, write_property_text, write_specification_text, write_error_text, limits_text, i_am_text, subscribe_cov_text, notification_name, notification_text, choice_name, service_error_text, opaque_text, said_text, service_text}
use Rattle.bac_lines.proofs.Hexes.{hex_length}
use Rattle.bac_lines.proofs.ValueLengths.{three_digits, three_parts, four_parts, six_parts, joined_length, open_paid}
use Rattle.bac_lines.proofs.FieldLengths.{unsigned_paid, instance_paid, boolean_paid, object_paid, application_object_paid, application_enumerated_paid, application_unsigned_paid, application_unsigned16_paid, optional_paid, listed_paid, list_paid}
use Rattle.bac_lines.proofs.PropertyLengths.{command_paid, property_value_paid, specification_paid, access_result_paid, write_specification_paid, cause_paid, object_property_paid}

-- ---- services by production

-- ReadProperty
read_property_short : (r : ReadProperty) (b : List ℕ) → SpellsReadProperty r b → length (read_property_text r) ≤ 15 * length b
read_property_short r b h =
    omega (arith, object_property_paid r.object r.property r.index b h, length-append (object_text r.object) (field " property=" (property_text r.property r.index)))

-- its answer
read_property_ack_short : (groups : ℕ) (r : ReadPropertyAck) (b : List ℕ) → SpellsReadPropertyAck groups r b → length (read_property_ack_text r) ≤ 15 * length b
read_property_ack_short groups r b h =
    let value = open_paid groups 3 r.value h.back h.second in
    omega (
      arith,
      object_property_paid r.object r.property r.index h.front h.first,
      value,
      joined_length h,
      three_parts (field "ReadProperty object=" (object_text r.object)) (field " property=" (property_text r.property r.index)) (field " value=" (open_text r.value)),
    )

-- WriteProperty
write_property_short : (groups : ℕ) (r : WriteProperty) (b : List ℕ) → SpellsWriteProperty groups r b → length (write_property_text r) ≤ 15 * length b
write_property_short groups r b h =
    let value = open_paid groups 3 r.value h.second.front h.second.first in
    let priority = command_paid 4 r.priority h.second.back h.second.second in
    omega (
      arith,
      object_property_paid r.object r.property r.index h.front h.first,
      value,
      priority,
      joined_length h,
      joined_length h.second,
      four_parts (field "WriteProperty object=" (object_text r.object)) (field " property=" (property_text r.property r.index)) (field " value=" (open_text r.value)) (optional " priority=" number r.priority),
    )

-- the error of WritePropertyMultiple
write_error_short : (e : WritePropertyMultipleError) (b : List ℕ) → SpellsWriteError e b → length (write_error_text e) ≤ 15 * length b
write_error_short e b h =
    let cause : ErrorCause = record { class = e.class; code = e.code } in
    let first = cause_paid cause h.first.second.front h.first.second.first in
    let second = object_property_paid e.object e.property e.index h.second.second.front h.second.second.first in
    omega (
      arith,
      first,
      second,
      joined_length h,
      joined_length h.first,
      joined_length h.first.second,
      joined_length h.second,
      joined_length h.second.second,
      three_parts (field "choice=16 class=" (cause_text e.class e.code)) (field " object=" (object_text e.object)) (field " property=" (property_text e.property e.index)),
    )

-- the limits of a Who-Is
limits_short : (limits : Option (ℕ × ℕ)) (b : List ℕ) → Optional (Joined (InstanceField 0) (InstanceField 1)) limits b → length (limits_text limits) ≤ 15 * length b
limits_short None b h = omega arith
limits_short (Some limits) b h =
    omega (arith, joined_length h, instance_paid 0 limits.0 h.front h.first, instance_paid 1 limits.1 h.back h.second, length-append (number limits.0) (field " high=" (number limits.1)))

-- I-Am
i_am_short : (r : IAm) (b : List ℕ) → SpellsIAm r b → length (i_am_text r) ≤ 15 * length b
i_am_short r b h =
    let object = application_object_paid r.object h.front h.first in
    let apdu = application_unsigned_paid r.apdu h.second.front h.second.first in
    let segmentation = application_enumerated_paid r.segmentation h.second.second.front h.second.second.first in
    let vendor = application_unsigned16_paid r.vendor h.second.second.back h.second.second.second in
    omega (
      arith,
      object,
      apdu,
      segmentation,
      vendor,
      joined_length h,
      joined_length h.second,
      joined_length h.second.second,
      four_parts (field "I-Am object=" (object_text r.object)) (field " apdu=" (number r.apdu)) (field " segmentation=" (number r.segmentation)) (field " vendor=" (number r.vendor)),
    )

-- SubscribeCOV
subscribe_cov_short : (r : SubscribeCov) (b : List ℕ) → SpellsSubscribeCov r b → length (subscribe_cov_text r) ≤ 15 * length b
subscribe_cov_short r b h =
    let process = unsigned_paid 0 r.process h.front h.first in
    let object = object_paid 1 r.object h.second.front h.second.first in
    let confirmed = optional_paid (BooleanField 2) " confirmed=" truth (λ v c s. omega (arith, boolean_paid 2 v c s)) r.confirmed h.second.second.front h.second.second.first in
    let lifetime = optional_paid (UnsignedField 3) " lifetime=" number (λ v c s. omega (arith, unsigned_paid 3 v c s)) r.lifetime h.second.second.back h.second.second.second in
    omega (
      arith,
      process,
      object,
      confirmed,
      lifetime,
      joined_length h,
      joined_length h.second,
      joined_length h.second.second,
      four_parts (field "SubscribeCOV process=" (number r.process)) (field " object=" (object_text r.object)) (optional " confirmed=" truth r.confirmed) (optional " lifetime=" number r.lifetime),
    )

-- the name of a notification
name_short : (k : Kind) → length (notification_name k) ≤ 26
name_short kind.Confirmed = omega arith
name_short kind.Unconfirmed = omega arith
name_short kind.ComplexAck = omega arith
name_short kind.Error = omega arith

-- a notification
notification_short : (k : Kind) (groups : ℕ) (n : Notification) (b : List ℕ) → SpellsNotification groups n b → length (notification_text k n) ≤ 15 * length b
notification_short k groups n b h =
    let process = unsigned_paid 0 n.process h.first.front h.first.first in
    let device = object_paid 1 n.device h.first.second.front h.first.second.first in
    let object = object_paid 2 n.object h.first.second.back h.first.second.second in
    let remaining = unsigned_paid 3 n.remaining h.second.front h.second.first in
    let values = list_paid (SpellsPropertyValue groups) property_value_text (property_value_paid groups) 4 n.values h.second.back h.second.second in
    omega (
      arith,
      process,
      device,
      object,
      remaining,
      values,
      name_short k,
      joined_length h,
      joined_length h.first,
      joined_length h.first.second,
      joined_length h.second,
      six_parts (notification_name k) (field " process=" (number n.process)) (field " device=" (object_text n.device)) (field " object=" (object_text n.object)) (field " remaining=" (number n.remaining)) (field " values=" (listed property_value_text n.values)),
    )

-- an error of a typed service
service_error_short : (choice : ℕ) (cause : ErrorCause) (b : List ℕ) → choice < 256 → SpellsErrorCause cause b → length (service_error_text choice cause) ≤ 15 * length b
service_error_short choice cause b small h =
    let digits = three_digits choice small in
    omega (arith, digits, cause_paid cause b h, length-append (number choice) (field " class=" (cause_text cause.class cause.code)))

-- what is before the choice of a service without a production
choice_short : (k : Kind) → length (choice_name k) ≤ 14
choice_short kind.Confirmed = omega arith
choice_short kind.Unconfirmed = omega arith
choice_short kind.ComplexAck = omega arith
choice_short kind.Error = omega arith

-- a service without a production
opaque_short : (k : Kind) (choice : ℕ) (octets : List ℕ) → choice < 256 → length (opaque_text k choice octets) ≤ 15 * length octets + 40
opaque_short k choice octets small =
    let digits = three_digits choice small in
    omega (arith, digits, choice_short k, hex_length octets, three_parts (choice_name k) (number choice) (field " octets=" (hexadecimal octets)))

-- what a service says
said_short : (k : Kind) (groups choice : ℕ) (production : Option ServiceProduction) (said : Said production) (b : List ℕ) → choice < 256 → SpellsSaid groups production said b
    → length (said_text k choice production said) ≤ 15 * length b + 40
said_short k groups choice (Some read_property) said b small h = omega (arith, read_property_short said b h)
said_short k groups choice (Some read_property_ack) said b small h = omega (arith, read_property_ack_short groups said b h)
said_short k groups choice (Some read_property_multiple) said b small h = omega (arith, listed_paid SpellsSpecification specification_text specification_paid said b h)
said_short k groups choice (Some read_property_multiple_ack) said b small h = omega (arith, listed_paid (SpellsAccessResult groups) access_result_text (access_result_paid groups) said b h)
said_short k groups choice (Some write_property) said b small h = omega (arith, write_property_short groups said b h)
said_short k groups choice (Some write_property_multiple) said b small h =
    omega (arith, listed_paid (SpellsWriteSpecification groups) write_specification_text (write_specification_paid groups) said b h)
said_short k groups choice (Some write_property_multiple_error) said b small h = omega (arith, write_error_short said b h)
said_short k groups choice (Some who_is) said b small h = omega (arith, limits_short said.limits b h)
said_short k groups choice (Some i_am) said b small h = omega (arith, i_am_short said b h)
said_short k groups choice (Some subscribe_cov) said b small h = omega (arith, subscribe_cov_short said b h)
said_short k groups choice (Some cov_notification) said b small h = omega (arith, notification_short k groups said b h)
said_short k groups choice (Some service_error) said b small h = omega (arith, service_error_short choice said b small h)
said_short k groups choice None octets b small h = omega (arith, opaque_short k choice octets small, ap length h.0)

-- a service has at most forty octets of text more than fifteen for each octet
pub service_short : (multiple : Bool) (groups : ℕ) (k : Kind) (choice : ℕ) (service : ServiceValue) (b : List ℕ) → SpellsService multiple groups k choice service b
    → length (service_text service) ≤ 15 * length b + 40
service_short multiple groups k choice service b h =
    let small : service.choice < 256 = omega (arith, h.choice_is, h.choice_fits) in
    said_short service.kind groups service.choice service.production service.said b small h.spelled
