-- What is printed of services.
use Rattle.std.specs.Prelude.{codes, Option, None, Some}
use Rattle.std.specs.List.{flat_map, join_by}
use Rattle.std.proofs.Common.{◌≡◌, ℕ, Bool, true, false, List, [], ◌∷◌, ◌++◌, refl, ap, ◌∙◌, append_assoc}
use Rattle.std.specs.Option.{option_map_or}
use Rattle.std.specs.Fmt.{digits}
use Rattle.bac_value.specs.Identifier.{Identifier, IsIdentifier}
use Rattle.bac_record.specs.Digits.{hexadecimal}
use Rattle.bac_data.specs.OpenValue.{Elements}
use Rattle.bac_data.specs.Spells.{SpellsOpen}
use Rattle.bac_data.proofs.ValueLemmas.{open_value_only}
use Rattle.bac_productions.specs.Productions.{Items, Optional, Grouped}
use Rattle.bac_service.specs.declared.kind.Kind.{Kind}
use Rattle.bac_service.specs.declared.kind.Kind.TheVariants as kind
use Rattle.bac_service.specs.declared.service.error_cause.ErrorCause.{ErrorCause}
use Rattle.bac_service.specs.declared.service.property_reference.PropertyReference.{PropertyReference}
use Rattle.bac_service.specs.declared.service.property_value.PropertyValue.{PropertyValue}
use Rattle.bac_service.specs.declared.service.property_result.ReadResult.{ReadResult}
use Rattle.bac_service.specs.declared.service.property_result.ReadResult.TheVariants.{Value, Error}
use Rattle.bac_service.specs.declared.service.property_result.PropertyResult.{PropertyResult}
use Rattle.bac_service.specs.declared.service.read_property.ReadProperty.{ReadProperty}
use Rattle.bac_service.specs.declared.service.read_property_ack.ReadPropertyAck.{ReadPropertyAck}
use Rattle.bac_service.specs.declared.service.write_property.WriteProperty.{WriteProperty}
use Rattle.bac_service.specs.declared.service.write_property_multiple_error.WritePropertyMultipleError.{WritePropertyMultipleError}
use Rattle.bac_service.specs.declared.service.who_is.WhoIs.{WhoIs}
use Rattle.bac_service.specs.declared.service.i_am.IAm.{IAm}
use Rattle.bac_service.specs.declared.service.subscribe_cov.SubscribeCov.{SubscribeCov}
use Rattle.bac_service.specs.ReadAccessSpecification.{Specification, SpellsSpecification}
use Rattle.bac_service.specs.ReadAccessResult.{AccessResult, SpellsAccessResult}
use Rattle.bac_service.specs.WriteAccessSpecification.{WriteSpecification, SpellsWriteSpecification}
use Rattle.bac_service.specs.CovNotification.{Notification, SpellsNotification}
use Rattle.bac_service.specs.PropertyReference.{SpellsPropertyReference}
use Rattle.bac_service.specs.PropertyValue.{SpellsPropertyValue}
use Rattle.bac_service.specs.PropertyResult.{SpellsReadResult, SpellsPropertyResult}
use Rattle.bac_service.specs.ReadProperty.{SpellsReadProperty}
use Rattle.bac_service.specs.ReadPropertyAck.{SpellsReadPropertyAck}
use Rattle.bac_service.specs.WriteProperty.{SpellsWriteProperty}
use Rattle.bac_service.specs.WritePropertyMultipleError.{SpellsWriteError}
use Rattle.bac_service.specs.IAm.{SpellsIAm}
use Rattle.bac_service.specs.SubscribeCov.{SpellsSubscribeCov}
use Rattle.bac_service.specs.ServiceTable.{ServiceProduction, read_property, read_property_ack, read_property_multiple, read_property_multiple_ack, write_property, write_property_multiple, write_property_multiple_error, who_is, i_am, subscribe_cov, cov_notification, service_error}
use Rattle.bac_service.specs.Services.{Said, ServiceValue, SpellsSaid, SpellsService}
use Rattle.bac_text.specs.Words.{number, object_text, truth as truth_text, listed as listed_text, optional as optional_text}
use Rattle.bac_text.specs.WalkText.{blank}
use Rattle.bac_text.specs.OpenValueText.{open_text}
use Rattle.bac_text.specs.PropertyText.{property_text, cause_text, reference_text, read_result_text, property_result_text, property_value_text}
use Rattle.bac_text.specs.ServiceText.{read_property_text, read_property_ack_text, specification_text, read_multiple_text, access_result_text, read_multiple_ack_text, write_property_text, write_specification_text, write_multiple_text, write_error_text, limits_text, who_is_text, i_am_text, subscribe_cov_text, notification_name, notification_text, service_error_text, opaque_text, said_text, service_text}
use Rattle.bac_field_parts.specs.declared.names.Name.{Name}
use Rattle.bac_field_parts.specs.declared.names.Name.TheVariants as name
use Rattle.bac_field_parts.specs.Fields.{FieldValue, Step, next, word, octet_field, octets_field, optional, opening_field, closing_field, item_steps, listed_in}
use Rattle.bac_field_parts.specs.PrimitiveFields.{number_under, truth_under, object_under, unsigned_field, enumerated_field, object_field}
use Rattle.bac_fields.specs.PropertyFields.{property_steps, cause_steps, reference_steps, read_result_steps, property_result_steps, property_value_steps}
use Rattle.bac_fields.specs.ReadPropertyFields.{read_property_steps, read_property_ack_steps}
use Rattle.bac_fields.specs.ReadPropertyMultipleFields.{specification_steps, read_multiple_steps, access_result_steps, read_multiple_ack_steps}
use Rattle.bac_fields.specs.WritePropertyFields.{write_property_steps}
use Rattle.bac_fields.specs.WritePropertyMultipleFields.{write_specification_steps, write_multiple_steps, write_error_steps}
use Rattle.bac_fields.specs.WhoIsFields.{limits_steps, who_is_steps}
use Rattle.bac_fields.specs.IAmFields.{i_am_steps}
use Rattle.bac_fields.specs.SubscribeCovFields.{subscribe_cov_steps}
use Rattle.bac_fields.specs.CovNotificationFields.{notification_field, notification_steps}
use Rattle.bac_fields.specs.ServiceErrorFields.{service_error_steps}
use Rattle.bac_field_parts.specs.OpaqueFields.{opaque_steps}
use Rattle.bac_fields.specs.ServiceFields.{said_steps, service_steps}
use Rattle.bac_field_parts.specs.Names.{word_of}
use Rattle.bac_fields.specs.Line.{form_of, as_object, as_list, as_parenthesis, lead, shown, begins}
use Rattle.bac_field_parts.specs.OpenValueFields.{open_steps}
use Rattle.bac_fields.proofs.EventRanges.{Each}
use Rattle.bac_fields.proofs.LineLemmas.{Prints, same_line, same_steps, both, opened, one, passed, nothing, closed, truth_in, object_in, optional_part, item, list_rest}
use Rattle.bac_fields.proofs.ValueLines.{open_line}

-- ---- lists of what is spelled

abbrev IsSpelled : {X : Type 0} → (X → List ℕ → Type 0) → X → Type 0
IsSpelled Spells x = (b : List ℕ) × Spells x b

each_spelled : {X : Type 0} (Spells : X → List ℕ → Type 0) (xs : List X) (b : List ℕ) → Items Spells xs b → Each (IsSpelled Spells) xs
each_spelled Spells [] b h = tt
each_spelled Spells (x ∷ xs) b h = ((h.front, h.first), each_spelled Spells xs h.back h.second)

module _ {X : Type 0} (Spells : X → List ℕ → Type 0) (steps : X → List Step) (text : X → List ℕ)
    (each : (first : Bool) (x : X) (b : List ℕ) → Spells x b → Prints first (item_steps steps x) (blank first ++ text x)) where
  rest_of : (end : FieldValue) (xs : List X) (b : List ℕ) → form_of end.name ≡ as_parenthesis → Items Spells xs b → Prints true (flat_map (item_steps steps) xs ++ next end ∷ []) (join_by text (codes " ") xs ++ codes ")")
  rest_of end xs b e h = list_rest (IsSpelled Spells) (item_steps steps) text (λ first x s. each first x s.0 s.1) end xs e (each_spelled Spells xs b h)

-- ---- parts

property_line : (first : Bool) (a b property : ℕ) (index : Option ℕ) → Prints first (property_steps a b property index) (blank first ++ (codes "property=" ++ property_text property index))
property_line first a b property index =
    same_line (append_assoc (blank first) (codes "property=" ++ number property) (optional_text " index=" number index))
    (both (one first (number_under name.Property a property) refl) (optional_part " index=" (number_under name.Index b) number index (λ n. one false (number_under name.Index b n) refl)))

cause_line : (first : Bool) (class code : ℕ) → Prints first (cause_steps class code) (blank first ++ (codes "class=" ++ cause_text class code))
cause_line first class code =
    same_line (append_assoc (blank first) (codes "class=" ++ number class) (codes " code=" ++ number code))
    (both (one first (enumerated_field name.ErrorClass class) refl) (one false (enumerated_field name.ErrorCode code) refl))

open_is : (tag : ℕ) (value : Elements) (b : List ℕ) → SpellsOpen 32 tag value b → Prints false (open_steps tag value) (codes " value=" ++ open_text value)
open_is tag value b h = open_line tag value (open_value_only 32 tag value b h).1.0

priority_line : (tag : ℕ) (priority : Option ℕ) → Prints false (optional (number_under name.Priority tag) priority) (optional_text " priority=" number priority)
priority_line tag priority = optional_part " priority=" (number_under name.Priority tag) number priority (λ n. one false (number_under name.Priority tag n) refl)

reference_item : (first : Bool) (r : PropertyReference) → Prints first (item_steps reference_steps r) (blank first ++ reference_text r)
reference_item first r = item first reference_steps r (property_line true 0 1 r.property r.index)

read_result_line : (r : ReadResult) (b : List ℕ) → SpellsReadResult 32 r b → Prints false (read_result_steps r) (codes " " ++ read_result_text r)
read_result_line (Value value) b h = open_is 4 value b h
read_result_line (Error cause) b h =
    opened false (opening_field name.PropertyError 5 0) refl (both (cause_line true cause.class cause.code) (one false (closing_field name.PropertyErrorEnd 5 0) refl))

property_result_item : (first : Bool) (r : PropertyResult) (b : List ℕ) → SpellsPropertyResult 32 r b → Prints first (item_steps property_result_steps r) (blank first ++ property_result_text r)
property_result_item first r b h =
    item first property_result_steps r (both (property_line true 2 3 r.property r.index) (read_result_line r.result h.second.back h.second.second))

property_value_item : (first : Bool) (v : PropertyValue) (b : List ℕ) → SpellsPropertyValue 32 v b → Prints first (item_steps property_value_steps v) (blank first ++ property_value_text v)
property_value_item first v b h =
    item first property_value_steps v
    (same_steps (append_assoc (property_steps 0 1 v.property v.index) (open_steps 2 v.value) (optional (number_under name.Priority 3) v.priority))
    (both (both (property_line true 0 1 v.property v.index) (open_is 2 v.value h.second.second.front h.second.second.first)) (priority_line 3 v.priority)))

-- an object under a context tag
object_one : (first : Bool) (name : Name) (tag : ℕ) (object : Identifier) → form_of name ≡ as_object → IsIdentifier object
    → Prints first (next (object_under name tag object) ∷ []) (blank first ++ (word_of name ++ (codes "=" ++ object_text object)))
object_one first name tag object e h = object_in (object_under name tag object) object e refl h (one first (object_under name tag object) (ap begins e))

-- a list of what is spelled
module _ {X : Type 0} (Spells : X → List ℕ → Type 0) (steps : X → List Step) (text : X → List ℕ)
    (each : (first : Bool) (x : X) (b : List ℕ) → Spells x b → Prints first (item_steps steps x) (blank first ++ text x)) where
  list_line : (v end : FieldValue) (xs : List X) (b : List ℕ) → form_of v.name ≡ as_list → form_of end.name ≡ as_parenthesis → Items Spells xs b
      → Prints false (next v ∷ (flat_map (item_steps steps) xs ++ next end ∷ [])) (codes " " ++ (word_of v.name ++ (codes "=" ++ listed_text text xs)))
  list_line v end xs b e f h =
      let rest : List ℕ = join_by text (codes " ") xs ++ codes ")" in
      same_line (ap (λ f. (lead false f ++ shown f v) ++ rest) e ∙ ap (λ l. codes " " ++ l) (append_assoc (word_of v.name) (codes "=(") rest))
      (opened false v (ap begins e) (rest_of Spells steps text each end xs b f h))

specification_item : (first : Bool) (s : Specification) (b : List ℕ) → SpellsSpecification s b → Prints first (item_steps specification_steps s) (blank first ++ specification_text s)
specification_item first s b h =
    item first specification_steps s
    (both (object_one true name.Object 0 s.object refl h.first.spelled.value_holds)
    (list_line SpellsPropertyReference reference_steps reference_text (λ first r b s. reference_item first r) (opening_field name.Properties 1 0) (closing_field name.ListEnd 1 0) s.properties h.second.second.front refl refl h.second.second.first))

results_line : (results : Option (List PropertyResult)) (b : List ℕ) → Optional (Grouped 1 (Items (SpellsPropertyResult 32))) results b
    → Prints false (option_map_or (listed_in name.Results 1 property_result_steps) results []) (optional_text " results=" (listed_text property_result_text) results)
results_line None b h = nothing
results_line (Some results) b h =
    list_line (SpellsPropertyResult 32) property_result_steps property_result_text property_result_item (opening_field name.Results 1 0) (closing_field name.ListEnd 1 0) results h.second.front refl refl h.second.first

access_result_item : (first : Bool) (r : AccessResult) (b : List ℕ) → SpellsAccessResult 32 r b → Prints first (item_steps access_result_steps r) (blank first ++ access_result_text r)
access_result_item first r b h =
    item first access_result_steps r (both (object_one true name.Object 0 r.object refl h.first.spelled.value_holds) (results_line r.results h.back h.second))

values_line : (tag : ℕ) (values : List PropertyValue) (b : List ℕ) → Items (SpellsPropertyValue 32) values b → Prints false (listed_in name.Values tag property_value_steps values) (codes " values=" ++ listed_text property_value_text values)
values_line tag values b h = list_line (SpellsPropertyValue 32) property_value_steps property_value_text property_value_item (opening_field name.Values tag 0) (closing_field name.ListEnd tag 0) values b refl refl h

write_specification_item : (first : Bool) (s : WriteSpecification) (b : List ℕ) → SpellsWriteSpecification 32 s b → Prints first (item_steps write_specification_steps s) (blank first ++ write_specification_text s)
write_specification_item first s b h =
    item first write_specification_steps s
    (both (object_one true name.Object 0 s.object refl h.first.spelled.value_holds) (values_line 1 s.values h.second.second.front h.second.second.first))

-- ---- services

read_property_line : (r : ReadProperty) (b : List ℕ) → SpellsReadProperty r b → Prints false (read_property_steps r) (codes " " ++ read_property_text r)
read_property_line r b h =
    both (both (one false (octet_field name.ReadProperty 12) refl) (object_one false name.Object 0 r.object refl h.first.spelled.value_holds)) (property_line false 1 2 r.property r.index)

read_property_ack_line : (a : ReadPropertyAck) (b : List ℕ) → SpellsReadPropertyAck 32 a b → Prints false (read_property_ack_steps a) (codes " " ++ read_property_ack_text a)
read_property_ack_line a b h =
    both (both (both (one false (octet_field name.ReadProperty 12) refl) (object_one false name.Object 0 a.object refl h.first.first.spelled.value_holds)) (property_line false 1 2 a.property a.index))
    (open_is 3 a.value h.back h.second)

read_multiple_line : (specs : List Specification) (b : List ℕ) → Items SpellsSpecification specs b → Prints false (read_multiple_steps specs) (codes " " ++ read_multiple_text specs)
read_multiple_line specs b h =
    both (one false (octet_field name.ReadPropertyMultiple 14) refl)
    (list_line SpellsSpecification specification_steps specification_text specification_item (word name.Specifications) (word name.ListEnd) specs b refl refl h)

read_multiple_ack_line : (results : List AccessResult) (b : List ℕ) → Items (SpellsAccessResult 32) results b → Prints false (read_multiple_ack_steps results) (codes " " ++ read_multiple_ack_text results)
read_multiple_ack_line results b h =
    both (one false (octet_field name.ReadPropertyMultiple 14) refl)
    (list_line (SpellsAccessResult 32) access_result_steps access_result_text access_result_item (word name.Results) (word name.ListEnd) results b refl refl h)

write_property_line : (r : WriteProperty) (b : List ℕ) → SpellsWriteProperty 32 r b → Prints false (write_property_steps r) (codes " " ++ write_property_text r)
write_property_line r b h =
    same_steps
    (ap (λ (l : List Step). next (octet_field name.WriteProperty 15) ∷ next (object_under name.Object 0 r.object) ∷ l)
    (append_assoc (property_steps 1 2 r.property r.index) (open_steps 3 r.value) (optional (number_under name.Priority 4) r.priority)))
    (both (both (both (both (one false (octet_field name.WriteProperty 15) refl) (object_one false name.Object 0 r.object refl h.first.first.spelled.value_holds)) (property_line false 1 2 r.property r.index))
    (open_is 3 r.value h.second.front h.second.first)) (priority_line 4 r.priority))

write_multiple_line : (specs : List WriteSpecification) (b : List ℕ) → Items (SpellsWriteSpecification 32) specs b → Prints false (write_multiple_steps specs) (codes " " ++ write_multiple_text specs)
write_multiple_line specs b h =
    both (one false (octet_field name.WritePropertyMultiple 16) refl)
    (list_line (SpellsWriteSpecification 32) write_specification_steps write_specification_text write_specification_item (word name.Specifications) (word name.ListEnd) specs b refl refl h)

sixteen : number 16 ≡ codes "16"
unfolding digits
sixteen = refl

write_error_line : (e : WritePropertyMultipleError) (b : List ℕ) → SpellsWriteError e b → Prints false (write_error_steps e) (codes " " ++ write_error_text e)
write_error_line e b h =
    both
    (both (both (same_line (ap (λ l. codes " choice=" ++ l) sixteen) (one false (octet_field name.Choice 16) refl)) (passed 1 (cause_line false e.class e.code)))
    (passed 2 (object_one false name.Object 0 e.object refl h.second.second.first.first.spelled.value_holds)))
    (closed 1 (property_line false 1 2 e.property e.index))

limits_line : (limits : Option (ℕ × ℕ)) → Prints false (limits_steps limits) (limits_text limits)
limits_line None = nothing
limits_line (Some limits) = both (one false (number_under name.Low 0 limits.0) refl) (one false (number_under name.High 1 limits.1) refl)

who_is_line : (r : WhoIs) → Prints false (who_is_steps r) (codes " " ++ who_is_text r)
who_is_line r = both (one false (octet_field name.WhoIs 8) refl) (limits_line r.limits)

i_am_line : (r : IAm) (b : List ℕ) → SpellsIAm r b → Prints false (i_am_steps r) (codes " " ++ i_am_text r)
i_am_line r b h =
    both (both (both (both (one false (octet_field name.IAm 0) refl)
    (object_in (object_field name.Object r.object) r.object refl refl h.first.spelled.value_holds (one false (object_field name.Object r.object) refl)))
    (one false (unsigned_field name.MaxApdu r.apdu) refl)) (one false (enumerated_field name.Segmentation r.segmentation) refl)) (one false (unsigned_field name.Vendor r.vendor) refl)

confirmed_line : (confirmed : Option Bool) → Prints false (optional (truth_under name.Confirmed 2) confirmed) (optional_text " confirmed=" truth_text confirmed)
confirmed_line confirmed =
    optional_part " confirmed=" (truth_under name.Confirmed 2) truth_text confirmed (λ value. truth_in (truth_under name.Confirmed 2 value) value refl refl (one false (truth_under name.Confirmed 2 value) refl))

subscribe_cov_line : (r : SubscribeCov) (b : List ℕ) → SpellsSubscribeCov r b → Prints false (subscribe_cov_steps r) (codes " " ++ subscribe_cov_text r)
subscribe_cov_line r b h =
    both (both (both (both (one false (octet_field name.SubscribeCov 5) refl) (one false (number_under name.Process 0 r.process) refl))
    (object_one false name.Object 1 r.object refl h.second.first.spelled.value_holds)) (confirmed_line r.confirmed))
    (optional_part " lifetime=" (number_under name.Lifetime 3) number r.lifetime (λ n. one false (number_under name.Lifetime 3 n) refl))

notification_name_line : (k : Kind) → Prints false (next (notification_field k) ∷ []) (codes " " ++ notification_name k)
notification_name_line kind.Confirmed = one false (octet_field name.ConfirmedCovNotification 1) refl
notification_name_line kind.Unconfirmed = one false (octet_field name.UnconfirmedCovNotification 2) refl
notification_name_line kind.ComplexAck = one false (octet_field name.UnconfirmedCovNotification 2) refl
notification_name_line kind.Error = one false (octet_field name.UnconfirmedCovNotification 2) refl

notification_line : (k : Kind) (n : Notification) (b : List ℕ) → SpellsNotification 32 n b → Prints false (notification_steps k n) (codes " " ++ notification_text k n)
notification_line k n b h =
    both (both (both (both (both (notification_name_line k) (one false (number_under name.Process 0 n.process) refl)) (object_one false name.Device 1 n.device refl h.first.second.first.spelled.value_holds))
    (object_one false name.Object 2 n.object refl h.first.second.second.spelled.value_holds)) (one false (number_under name.Remaining 3 n.remaining) refl))
    (values_line 4 n.values h.second.second.second.front h.second.second.second.first)

service_error_line : (choice : ℕ) (cause : ErrorCause) → Prints false (service_error_steps choice cause) (codes " " ++ service_error_text choice cause)
service_error_line choice cause = both (one false (octet_field name.Choice choice) refl) (cause_line false cause.class cause.code)

opaque_named : (choice : ℕ) (octets : List ℕ) → Prints false (next (word name.Opaque) ∷ next (octet_field name.Choice choice) ∷ next (octets_field name.Octets octets) ∷ [])
    ((codes " opaque choice=" ++ number choice) ++ (codes " octets=" ++ hexadecimal octets))
opaque_named choice octets = both (both (one false (word name.Opaque) refl) (one false (octet_field name.Choice choice) refl)) (one false (octets_field name.Octets octets) refl)

opaque_line : (k : Kind) (choice : ℕ) (octets : List ℕ) → Prints false (opaque_steps k choice octets) (codes " " ++ opaque_text k choice octets)
opaque_line kind.Confirmed choice octets = opaque_named choice octets
opaque_line kind.Unconfirmed choice octets = opaque_named choice octets
opaque_line kind.ComplexAck choice octets = opaque_named choice octets
opaque_line kind.Error choice octets = both (one false (octet_field name.Choice choice) refl) (one false (octets_field name.Octets octets) refl)

said_line : (k : Kind) (choice : ℕ) (production : Option ServiceProduction) (said : Said production) (b : List ℕ) → SpellsSaid 32 production said b
    → Prints false (said_steps k choice production said) (codes " " ++ said_text k choice production said)
said_line k choice (Some read_property) said b h = read_property_line said b h
said_line k choice (Some read_property_ack) said b h = read_property_ack_line said b h
said_line k choice (Some read_property_multiple) said b h = read_multiple_line said b h
said_line k choice (Some read_property_multiple_ack) said b h = read_multiple_ack_line said b h
said_line k choice (Some write_property) said b h = write_property_line said b h
said_line k choice (Some write_property_multiple) said b h = write_multiple_line said b h
said_line k choice (Some write_property_multiple_error) said b h = write_error_line said b h
said_line k choice (Some who_is) said b h = who_is_line said
said_line k choice (Some i_am) said b h = i_am_line said b h
said_line k choice (Some subscribe_cov) said b h = subscribe_cov_line said b h
said_line k choice (Some cov_notification) said b h = notification_line k said b h
said_line k choice (Some service_error) said b h = service_error_line choice said
said_line k choice None said b h = opaque_line k choice said

pub service_line : (k : Kind) (choice : ℕ) (service : ServiceValue) (b : List ℕ) → SpellsService true 32 k choice service b → Prints false (service_steps service) (codes " " ++ service_text service)
service_line k choice service b h = said_line service.kind service.choice service.production service.said b h.spelled
