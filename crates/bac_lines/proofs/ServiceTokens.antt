-- The fields of services are tokens.
use Rattle.std.specs.Prelude.{Option, None, Some}
use Rattle.std.specs.List.{flat_map}
use Rattle.std.specs.Option.{option_map_or}
use Rattle.std.proofs.Common.{ℕ, ◌-◌, ◌<◌, ◌≤◌, ◌^◌, Bool, true, List, [], ◌∷◌, ◌++◌, refl, arith}
use Rattle.bac_value.specs.Identifier.{Identifier}
use Rattle.bac_productions.specs.Contents.{ObjectField, EnumeratedField, UnsignedField, PriorityField, BooleanField, ApplicationEnumerated}
use Rattle.bac_productions.specs.Productions.{Items, Optional, Grouped}
use Rattle.bac_service.specs.declared.kind.Kind.{Kind}
use Rattle.bac_service.specs.declared.kind.Kind.TheVariants as kind
use Rattle.bac_service.specs.declared.service.error_cause.ErrorCause.{ErrorCause}
use Rattle.bac_service.specs.declared.service.property_reference.PropertyReference.{PropertyReference}
use Rattle.bac_service.specs.declared.service.property_value.PropertyValue.{PropertyValue}
use Rattle.bac_service.specs.declared.service.property_result.ReadResult.{ReadResult}
use Rattle.bac_service.specs.declared.service.property_result.ReadResult.TheVariants.{Value, Error}
use Rattle.bac_service.specs.declared.service.property_result.PropertyResult.{PropertyResult}
use Rattle.bac_service.specs.declared.service.read_property.ReadProperty.{ReadProperty}
use Rattle.bac_service.specs.declared.service.read_property_ack.ReadPropertyAck.{ReadPropertyAck}
use Rattle.bac_service.specs.declared.service.write_property.WriteProperty.{WriteProperty}
use Rattle.bac_service.specs.declared.service.write_property_multiple_error.WritePropertyMultipleError.{WritePropertyMultipleError}
use Rattle.bac_service.specs.declared.service.who_is.WhoIs.{WhoIs}
use Rattle.bac_service.specs.declared.service.i_am.IAm.{IAm}
use Rattle.bac_service.specs.declared.service.subscribe_cov.SubscribeCov.{SubscribeCov}
use Rattle.bac_service.specs.ReadAccessSpecification.{Specification, SpellsSpecification}
use Rattle.bac_service.specs.ReadAccessResult.{AccessResult, SpellsAccessResult}
use Rattle.bac_service.specs.WriteAccessSpecification.{WriteSpecification, SpellsWriteSpecification}
use Rattle.bac_service.specs.CovNotification.{Notification, SpellsNotification}
use Rattle.bac_service.specs.PropertyReference.{SpellsPropertyReference}
use Rattle.bac_service.specs.PropertyValue.{SpellsPropertyValue}
use Rattle.bac_service.specs.PropertyResult.{SpellsReadResult, SpellsPropertyResult}
use Rattle.bac_service.specs.ObjectProperty.{SpellsObjectProperty}
use Rattle.bac_service.specs.ErrorCause.{SpellsErrorCause}
use Rattle.bac_service.specs.ReadProperty.{SpellsReadProperty}
use Rattle.bac_service.specs.ReadPropertyAck.{SpellsReadPropertyAck}
use Rattle.bac_service.specs.WriteProperty.{SpellsWriteProperty}
use Rattle.bac_service.specs.WritePropertyMultipleError.{SpellsWriteError}
use Rattle.bac_service.specs.WhoIs.{SpellsWhoIs}
use Rattle.bac_service.specs.IAm.{SpellsIAm}
use Rattle.bac_service.specs.SubscribeCov.{SpellsSubscribeCov}
use Rattle.bac_service.specs.ServiceTable.{ServiceProduction, read_property, read_property_ack, read_property_multiple, read_property_multiple_ack, write_property, write_property_multiple, write_property_multiple_error, who_is, i_am, subscribe_cov, cov_notification, service_error}
use Rattle.bac_service.specs.Services.{Said, ServiceValue, SpellsSaid, SpellsService}
use Rattle.bac_field_parts.specs.declared.names.Name.TheVariants as name
use Rattle.bac_field_parts.specs.Fields.{Step, next, word, octet_field, octets_field, optional, opening_field, closing_field, item_steps, listed_in}
use Rattle.bac_field_parts.specs.PrimitiveFields.{number_under, truth_under, object_under, unsigned_field, enumerated_field, object_field}
use Rattle.bac_fields.specs.PropertyFields.{property_steps, cause_steps, reference_steps, read_result_steps, property_result_steps, property_value_steps}
use Rattle.bac_fields.specs.ReadPropertyFields.{read_property_steps, read_property_ack_steps}
use Rattle.bac_fields.specs.ReadPropertyMultipleFields.{specification_steps, read_multiple_steps, access_result_steps, read_multiple_ack_steps}
use Rattle.bac_fields.specs.WritePropertyFields.{write_property_steps}
use Rattle.bac_fields.specs.WritePropertyMultipleFields.{write_specification_steps, write_multiple_steps, write_error_steps}
use Rattle.bac_fields.specs.WhoIsFields.{limits_steps, who_is_steps}
use Rattle.bac_fields.specs.IAmFields.{i_am_steps}
use Rattle.bac_fields.specs.SubscribeCovFields.{subscribe_cov_steps}
use Rattle.bac_fields.specs.CovNotificationFields.{notification_field, notification_steps}
use Rattle.bac_fields.specs.ServiceErrorFields.{service_error_steps}
use Rattle.bac_field_parts.specs.OpaqueFields.{opaque_steps}
use Rattle.bac_fields.specs.ServiceFields.{said_steps, service_steps}
use Rattle.bac_lines.specs.declared.closing.Closing.{Closing}
use Rattle.bac_lines.specs.Scanning.{open_end}
use Rattle.bac_lines.proofs.TokenLemmas.{Lexes, both, nothing, edge, one, passed, closed, truth_below, object_below, optional_part, in_item, in_list, item, items, enclosed}
use Rattle.bac_lines.proofs.ValueTokens.{open_lexes}

-- ---- parts

-- a number of 32 bits
word_sized : (number : ℕ) → number ≤ 2 ^ 32 - 1 → number < 2 ^ 64
word_sized number h = omega (arith, h)

property_lexes : (ends : List Closing) (first second property : ℕ) (index : Option ℕ) (b c : List ℕ) → EnumeratedField first property b → Optional (UnsignedField second) index c
    → Lexes ends ends (property_steps first second property index)
property_lexes ends first second property index b c h i =
    both (one ends (number_under name.Property first property) (λ o. (word_sized property h.spelled.most, (tt, refl))))
    (optional_part ends (UnsignedField second) (number_under name.Index second) index c i (λ n d s. one ends (number_under name.Index second n) (λ o. (word_sized n s.spelled.most, (tt, refl)))))

cause_lexes : (ends : List Closing) (class code : ℕ) (b c : List ℕ) → ApplicationEnumerated class b → ApplicationEnumerated code c → Lexes ends ends (cause_steps class code)
cause_lexes ends class code b c h i =
    both (one ends (enumerated_field name.ErrorClass class) (λ o. (word_sized class h.spelled.most, (tt, refl))))
    (one ends (enumerated_field name.ErrorCode code) (λ o. (word_sized code i.spelled.most, (tt, refl))))

priority_lexes : (ends : List Closing) (tag : ℕ) (priority : Option ℕ) (b : List ℕ) → Optional (PriorityField tag) priority b → Lexes ends ends (optional (number_under name.Priority tag) priority)
priority_lexes ends tag priority b h =
    optional_part ends (PriorityField tag) (number_under name.Priority tag) priority b h (λ n c s. one ends (number_under name.Priority tag n) (λ o. (omega (arith, s.spelled.most), (tt, refl))))

object_lexes : (ends : List Closing) (tag : ℕ) (object : Identifier) (b : List ℕ) → ObjectField tag object b → Lexes ends ends (next (object_under name.Object tag object) ∷ [])
object_lexes ends tag object b h = one ends (object_under name.Object tag object) (λ o. (object_below object h.spelled.value_holds, refl))

reference_item : (ends : List Closing) (r : PropertyReference) (b : List ℕ) → SpellsPropertyReference r b → Lexes ends ends (item_steps reference_steps r)
reference_item ends r b h = item ends reference_steps r (property_lexes (in_item ends) 0 1 r.property r.index h.front h.back h.first h.second)

-- the ends inside of an error
abbrev in_error : List Closing → List Closing
in_error ends = ends ++ open_end name.PropertyErrorEnd 0 ∷ []

read_result_lexes : (ends : List Closing) (r : ReadResult) (b : List ℕ) → SpellsReadResult 32 r b → Lexes ends ends (read_result_steps r)
read_result_lexes ends (Value value) b h = open_lexes ends 4 value b h
read_result_lexes ends (Error cause) b h =
    let s = h.second.first in
    enclosed (edge ends (in_error ends) (opening_field name.PropertyError 5 0) (λ o. (refl, refl))) (cause_lexes (in_error ends) cause.class cause.code s.front s.back s.first s.second)
    (edge (in_error ends) ends (closing_field name.PropertyErrorEnd 5 0) (λ o. refl))

property_result_item : (ends : List Closing) (r : PropertyResult) (b : List ℕ) → SpellsPropertyResult 32 r b → Lexes ends ends (item_steps property_result_steps r)
property_result_item ends r b h =
    let rest = h.second in
    item ends property_result_steps r
    (both (property_lexes (in_item ends) 2 3 r.property r.index h.front rest.front h.first rest.first) (read_result_lexes (in_item ends) r.result rest.back rest.second))

property_value_item : (ends : List Closing) (v : PropertyValue) (b : List ℕ) → SpellsPropertyValue 32 v b → Lexes ends ends (item_steps property_value_steps v)
property_value_item ends v b h =
    let rest = h.second in
    let last = rest.second in
    item ends property_value_steps v
    (both (property_lexes (in_item ends) 0 1 v.property v.index h.front rest.front h.first rest.first)
    (both (open_lexes (in_item ends) 2 v.value last.front last.first) (priority_lexes (in_item ends) 3 v.priority last.back last.second)))

-- ---- lists

-- the items of a list
module _ {X : Type 0} (ends : List Closing) (Spells : X → List ℕ → Type 0) (steps : X → List Step)
    (each : (ends : List Closing) (x : X) (b : List ℕ) → Spells x b → Lexes ends ends (item_steps steps x)) where
  list_items : (xs : List X) (b : List ℕ) → Items Spells xs b → Lexes (in_list ends) (in_list ends) (flat_map (item_steps steps) xs)
  list_items xs b h = items (in_list ends) Spells (item_steps steps) (each (in_list ends)) xs b h

specification_item : (ends : List Closing) (s : Specification) (b : List ℕ) → SpellsSpecification s b → Lexes ends ends (item_steps specification_steps s)
specification_item ends s b h =
    let inside = in_item ends in
    let rest = h.second.second in
    item ends specification_steps s
    (both (object_lexes inside 0 s.object h.front h.first)
    (enclosed (edge inside (in_list inside) (opening_field name.Properties 1 0) (λ o. (refl, refl)))
    (list_items inside SpellsPropertyReference reference_steps reference_item s.properties rest.front rest.first)
    (edge (in_list inside) inside (closing_field name.ListEnd 1 0) (λ o. refl))))

results_lex : (ends : List Closing) (results : Option (List PropertyResult)) (b : List ℕ) → Optional (Grouped 1 (Items (SpellsPropertyResult 32))) results b
    → Lexes ends ends (option_map_or (listed_in name.Results 1 property_result_steps) results [])
results_lex ends None b h = nothing ends
results_lex ends (Some results) b h =
    enclosed (edge ends (in_list ends) (opening_field name.Results 1 0) (λ o. (refl, refl)))
    (list_items ends (SpellsPropertyResult 32) property_result_steps property_result_item results h.second.front h.second.first)
    (edge (in_list ends) ends (closing_field name.ListEnd 1 0) (λ o. refl))

access_result_item : (ends : List Closing) (r : AccessResult) (b : List ℕ) → SpellsAccessResult 32 r b → Lexes ends ends (item_steps access_result_steps r)
access_result_item ends r b h = item ends access_result_steps r (both (object_lexes (in_item ends) 0 r.object h.front h.first) (results_lex (in_item ends) r.results h.back h.second))

values_lex : (ends : List Closing) (tag : ℕ) (values : List PropertyValue) (b : List ℕ) → Items (SpellsPropertyValue 32) values b
    → Lexes ends ends (listed_in name.Values tag property_value_steps values)
values_lex ends tag values b h =
    enclosed (edge ends (in_list ends) (opening_field name.Values tag 0) (λ o. (refl, refl)))
    (list_items ends (SpellsPropertyValue 32) property_value_steps property_value_item values b h)
    (edge (in_list ends) ends (closing_field name.ListEnd tag 0) (λ o. refl))

write_specification_item : (ends : List Closing) (s : WriteSpecification) (b : List ℕ) → SpellsWriteSpecification 32 s b → Lexes ends ends (item_steps write_specification_steps s)
write_specification_item ends s b h =
    let rest = h.second.second in
    item ends write_specification_steps s (both (object_lexes (in_item ends) 0 s.object h.front h.first) (values_lex (in_item ends) 1 s.values rest.front rest.first))

-- ---- services

module _ (ends : List Closing) where
  object_property_lexes : (object : Identifier) (property : ℕ) (index : Option ℕ) (b : List ℕ) → SpellsObjectProperty (object, (property, index)) b
      → Lexes ends ends (next (object_under name.Object 0 object) ∷ property_steps 1 2 property index)
  object_property_lexes object property index b h =
      let rest = h.second in
      both (object_lexes ends 0 object h.front h.first) (property_lexes ends 1 2 property index rest.front rest.back rest.first rest.second)

  read_property_lexes : (r : ReadProperty) (b : List ℕ) → SpellsReadProperty r b → Lexes ends ends (read_property_steps r)
  read_property_lexes r b h = both (one ends (octet_field name.ReadProperty 12) (λ o. (refl, refl))) (object_property_lexes r.object r.property r.index b h)

  read_property_ack_lexes : (a : ReadPropertyAck) (b : List ℕ) → SpellsReadPropertyAck 32 a b → Lexes ends ends (read_property_ack_steps a)
  read_property_ack_lexes a b h =
      both (one ends (octet_field name.ReadProperty 12) (λ o. (refl, refl))) (both (object_property_lexes a.object a.property a.index h.front h.first) (open_lexes ends 3 a.value h.back h.second))

  read_multiple_lexes : (specs : List Specification) (b : List ℕ) → Items SpellsSpecification specs b → Lexes ends ends (read_multiple_steps specs)
  read_multiple_lexes specs b h =
      both (one ends (octet_field name.ReadPropertyMultiple 14) (λ o. (refl, refl)))
      (enclosed (edge ends (in_list ends) (word name.Specifications) (λ o. (refl, refl)))
      (list_items ends SpellsSpecification specification_steps specification_item specs b h)
      (edge (in_list ends) ends (word name.ListEnd) (λ o. refl)))

  read_multiple_ack_lexes : (results : List AccessResult) (b : List ℕ) → Items (SpellsAccessResult 32) results b → Lexes ends ends (read_multiple_ack_steps results)
  read_multiple_ack_lexes results b h =
      both (one ends (octet_field name.ReadPropertyMultiple 14) (λ o. (refl, refl)))
      (enclosed (edge ends (in_list ends) (word name.Results) (λ o. (refl, refl)))
      (list_items ends (SpellsAccessResult 32) access_result_steps access_result_item results b h)
      (edge (in_list ends) ends (word name.ListEnd) (λ o. refl)))

  write_property_lexes : (r : WriteProperty) (b : List ℕ) → SpellsWriteProperty 32 r b → Lexes ends ends (write_property_steps r)
  write_property_lexes r b h =
      let rest = h.second in
      both (one ends (octet_field name.WriteProperty 15) (λ o. (refl, refl)))
      (both (object_property_lexes r.object r.property r.index h.front h.first)
      (both (open_lexes ends 3 r.value rest.front rest.first) (priority_lexes ends 4 r.priority rest.back rest.second)))

  write_multiple_lexes : (specs : List WriteSpecification) (b : List ℕ) → Items (SpellsWriteSpecification 32) specs b → Lexes ends ends (write_multiple_steps specs)
  write_multiple_lexes specs b h =
      both (one ends (octet_field name.WritePropertyMultiple 16) (λ o. (refl, refl)))
      (enclosed (edge ends (in_list ends) (word name.Specifications) (λ o. (refl, refl)))
      (list_items ends (SpellsWriteSpecification 32) write_specification_steps write_specification_item specs b h)
      (edge (in_list ends) ends (word name.ListEnd) (λ o. refl)))

  choice_lexes : (choice : ℕ) → Lexes ends ends (next (octet_field name.Choice choice) ∷ [])
  choice_lexes choice = one ends (octet_field name.Choice choice) (λ o. (omega (arith, o.0), (tt, refl)))

  write_error_lexes : (e : WritePropertyMultipleError) (b : List ℕ) → SpellsWriteError e b → Lexes ends ends (write_error_steps e)
  write_error_lexes e b h =
      let cause = h.first.second.first in
      let reference = h.second.second in
      both (choice_lexes 16)
      (passed 1
      (both (cause_lexes ends e.class e.code cause.front cause.back cause.first cause.second)
      (passed 2 (closed 1 (object_property_lexes e.object e.property e.index reference.front reference.first)))))

  limits_lex : (limits : Option (ℕ × ℕ)) (b : List ℕ) → SpellsWhoIs (record { limits = limits }) b → Lexes ends ends (limits_steps limits)
  limits_lex None b h = nothing ends
  limits_lex (Some limits) b h =
      both (one ends (number_under name.Low 0 limits.0) (λ o. (omega (arith, h.first.spelled.most), (tt, refl))))
      (one ends (number_under name.High 1 limits.1) (λ o. (omega (arith, h.second.spelled.most), (tt, refl))))

  who_is_lexes : (r : WhoIs) (b : List ℕ) → SpellsWhoIs r b → Lexes ends ends (who_is_steps r)
  who_is_lexes r b h = both (one ends (octet_field name.WhoIs 8) (λ o. (refl, refl))) (limits_lex r.limits b h)

  i_am_lexes : (r : IAm) (b : List ℕ) → SpellsIAm r b → Lexes ends ends (i_am_steps r)
  i_am_lexes r b h =
      let rest = h.second in
      let last = rest.second in
      both (one ends (octet_field name.IAm 0) (λ o. (refl, refl)))
      (both (one ends (object_field name.Object r.object) (λ o. (object_below r.object h.first.spelled.value_holds, refl)))
      (both (one ends (unsigned_field name.MaxApdu r.apdu) (λ o. (word_sized r.apdu rest.first.spelled.most, (tt, refl))))
      (both (one ends (enumerated_field name.Segmentation r.segmentation) (λ o. (word_sized r.segmentation last.first.spelled.most, (tt, refl))))
      (one ends (unsigned_field name.Vendor r.vendor) (λ o. (omega (arith, last.second.spelled.most), (tt, refl)))))))

  confirmed_lexes : (confirmed : Option Bool) (b : List ℕ) → Optional (BooleanField 2) confirmed b → Lexes ends ends (optional (truth_under name.Confirmed 2) confirmed)
  confirmed_lexes confirmed b h =
      optional_part ends (BooleanField 2) (truth_under name.Confirmed 2) confirmed b h (λ value c s. one ends (truth_under name.Confirmed 2 value) (λ o. (truth_below value, (tt, refl))))

  process_lexes : (process : ℕ) (b : List ℕ) → UnsignedField 0 process b → Lexes ends ends (next (number_under name.Process 0 process) ∷ [])
  process_lexes process b h = one ends (number_under name.Process 0 process) (λ o. (word_sized process h.spelled.most, (tt, refl)))

  subscribe_cov_lexes : (r : SubscribeCov) (b : List ℕ) → SpellsSubscribeCov r b → Lexes ends ends (subscribe_cov_steps r)
  subscribe_cov_lexes r b h =
      let rest = h.second in
      let last = rest.second in
      both (one ends (octet_field name.SubscribeCov 5) (λ o. (refl, refl)))
      (both (process_lexes r.process h.front h.first)
      (both (object_lexes ends 1 r.object rest.front rest.first)
      (both (confirmed_lexes r.confirmed last.front last.first)
      (optional_part ends (UnsignedField 3) (number_under name.Lifetime 3) r.lifetime last.back last.second
      (λ n c s. one ends (number_under name.Lifetime 3 n) (λ o. (word_sized n s.spelled.most, (tt, refl))))))))

  notification_named : (k : Kind) → Lexes ends ends (next (notification_field k) ∷ [])
  notification_named kind.Confirmed = one ends (octet_field name.ConfirmedCovNotification 1) (λ o. (refl, refl))
  notification_named kind.Unconfirmed = one ends (octet_field name.UnconfirmedCovNotification 2) (λ o. (refl, refl))
  notification_named kind.ComplexAck = one ends (octet_field name.UnconfirmedCovNotification 2) (λ o. (refl, refl))
  notification_named kind.Error = one ends (octet_field name.UnconfirmedCovNotification 2) (λ o. (refl, refl))

  notification_lexes : (k : Kind) (n : Notification) (b : List ℕ) → SpellsNotification 32 n b → Lexes ends ends (notification_steps k n)
  notification_lexes k n b h =
      let objects = h.first.second in
      let rest = h.second in
      let values = rest.second.second in
      both (notification_named k)
      (both (process_lexes n.process h.first.front h.first.first)
      (both (one ends (object_under name.Device 1 n.device) (λ o. (object_below n.device objects.first.spelled.value_holds, refl)))
      (both (object_lexes ends 2 n.object objects.back objects.second)
      (both (one ends (number_under name.Remaining 3 n.remaining) (λ o. (word_sized n.remaining rest.first.spelled.most, (tt, refl))))
      (values_lex ends 4 n.values values.front values.first)))))

  service_error_lexes : (choice : ℕ) (cause : ErrorCause) (b : List ℕ) → SpellsErrorCause cause b → Lexes ends ends (service_error_steps choice cause)
  service_error_lexes choice cause b h = both (choice_lexes choice) (cause_lexes ends cause.class cause.code h.front h.back h.first h.second)

  octets_lex : (octets : List ℕ) → Lexes ends ends (next (octets_field name.Octets octets) ∷ [])
  octets_lex octets = one ends (octets_field name.Octets octets) (λ o. (refl, (o, refl)))

  opaque_named : (choice : ℕ) (octets : List ℕ) → Lexes ends ends (next (word name.Opaque) ∷ next (octet_field name.Choice choice) ∷ next (octets_field name.Octets octets) ∷ [])
  opaque_named choice octets = both (one ends (word name.Opaque) (λ o. (refl, refl))) (both (choice_lexes choice) (octets_lex octets))

  opaque_lexes : (k : Kind) (choice : ℕ) (octets : List ℕ) → Lexes ends ends (opaque_steps k choice octets)
  opaque_lexes kind.Confirmed choice octets = opaque_named choice octets
  opaque_lexes kind.Unconfirmed choice octets = opaque_named choice octets
  opaque_lexes kind.ComplexAck choice octets = opaque_named choice octets
  opaque_lexes kind.Error choice octets = both (choice_lexes choice) (octets_lex octets)

  said_lexes : (k : Kind) (choice : ℕ) (production : Option ServiceProduction) (said : Said production) (b : List ℕ) → SpellsSaid 32 production said b
      → Lexes ends ends (said_steps k choice production said)
  said_lexes k choice (Some read_property) said b h = read_property_lexes said b h
  said_lexes k choice (Some read_property_ack) said b h = read_property_ack_lexes said b h
  said_lexes k choice (Some read_property_multiple) said b h = read_multiple_lexes said b h
  said_lexes k choice (Some read_property_multiple_ack) said b h = read_multiple_ack_lexes said b h
  said_lexes k choice (Some write_property) said b h = write_property_lexes said b h
  said_lexes k choice (Some write_property_multiple) said b h = write_multiple_lexes said b h
  said_lexes k choice (Some write_property_multiple_error) said b h = write_error_lexes said b h
  said_lexes k choice (Some who_is) said b h = who_is_lexes said b h
  said_lexes k choice (Some i_am) said b h = i_am_lexes said b h
  said_lexes k choice (Some subscribe_cov) said b h = subscribe_cov_lexes said b h
  said_lexes k choice (Some cov_notification) said b h = notification_lexes k said b h
  said_lexes k choice (Some service_error) said b h = service_error_lexes choice said b h
  said_lexes k choice None said b h = opaque_lexes k choice said

  pub service_lexes : (k : Kind) (choice : ℕ) (service : ServiceValue) (b : List ℕ) → SpellsService true 32 k choice service b → Lexes ends ends (service_steps service)
  service_lexes k choice service b h = said_lexes service.kind service.choice service.production service.said b h.spelled
