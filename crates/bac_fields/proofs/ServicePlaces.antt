-- The octets of services.
use Rattle.std.specs.Prelude.{nat_eq, Option, None, Some, Bool, true, false, cond}
use Rattle.std.specs.List.{flat_map}
use Rattle.std.specs.Map.{lookup}
use Rattle.std.specs.Option.{option_map_or}
use Rattle.std.proofs.lemmas.List.{length-append}
use Rattle.std.proofs.Common.{◌≡◌, ℕ, ◌+◌, ◌*◌, ◌≤◌, List, [], ◌∷◌, ◌++◌, length, refl, sym, ap, subst, ◌∙◌, append_assoc, append-nil, arith, lit≤, eqb-true}
use Rattle.bac_tag.specs.Laws.Octets.{NoGreater-same}
use Rattle.bac_tag.specs.Spelling.{IsLeast, Joins, Joined}
use Rattle.bac_tag.proofs.WritingLemmas.{least_open as least_opening, least_close as least_closing}
use Rattle.bac_value.specs.Identifier.{Identifier}
use Rattle.bac_productions.specs.Productions.{Items, Optional, Grouped}
use Rattle.bac_productions.specs.Contents.{EnumeratedField, UnsignedField, InstanceField, PriorityField, BooleanField}
use Rattle.bac_productions.specs.Laws.Least.{least_joined, least_nothing}
use Rattle.bac_service.specs.declared.kind.Kind.{Kind}
use Rattle.bac_service.specs.declared.kind.Kind.TheVariants as kind
use Rattle.bac_service.specs.declared.service.error_cause.ErrorCause.{ErrorCause}
use Rattle.bac_service.specs.declared.service.property_reference.PropertyReference.{PropertyReference}
use Rattle.bac_service.specs.declared.service.property_value.PropertyValue.{PropertyValue}
use Rattle.bac_service.specs.declared.service.property_result.ReadResult.{ReadResult}
use Rattle.bac_service.specs.declared.service.property_result.ReadResult.TheVariants.{Value, Error}
use Rattle.bac_service.specs.declared.service.property_result.PropertyResult.{PropertyResult}
use Rattle.bac_service.specs.declared.service.write_property_multiple_error.WritePropertyMultipleError.{WritePropertyMultipleError}
use Rattle.bac_service.specs.ReadAccessSpecification.{Specification, SpellsSpecification}
use Rattle.bac_service.specs.ReadAccessResult.{AccessResult, SpellsAccessResult}
use Rattle.bac_service.specs.WriteAccessSpecification.{WriteSpecification, SpellsWriteSpecification}
use Rattle.bac_service.specs.ObjectProperty.{SpellsObjectProperty}
use Rattle.bac_service.specs.ErrorCause.{SpellsErrorCause}
use Rattle.bac_service.specs.PropertyReference.{SpellsPropertyReference}
use Rattle.bac_service.specs.PropertyValue.{SpellsPropertyValue}
use Rattle.bac_service.specs.PropertyResult.{SpellsReadResult, SpellsPropertyResult}
use Rattle.bac_service.specs.ServiceTable.{ServiceProduction, read_property, read_property_ack, read_property_multiple, read_property_multiple_ack, write_property, write_property_multiple, write_property_multiple_error, who_is, i_am, subscribe_cov, cov_notification, service_error, rows, production_of}
use Rattle.bac_service.specs.Services.{SaidBy, Said, ServiceValue, SpellsBy, SpellsSaid, SpellsService}
use Rattle.bac_field_parts.specs.declared.names.Name.{Name}
use Rattle.bac_field_parts.specs.declared.names.Name.TheVariants as name
use Rattle.bac_field_parts.specs.Fields.{FieldValue, Step, next, pass, word, octet_field, octets_field, optional, item_steps, opening_field, closing_field, listed_in}
use Rattle.bac_field_parts.specs.PrimitiveFields.{number_under, truth_under, object_under}
use Rattle.bac_fields.specs.PropertyFields.{property_steps, cause_steps, reference_steps, read_result_steps, property_result_steps, property_value_steps}
use Rattle.bac_fields.specs.ReadPropertyMultipleFields.{specification_steps, access_result_steps}
use Rattle.bac_fields.specs.WritePropertyMultipleFields.{write_specification_steps, write_error_steps}
use Rattle.bac_fields.specs.WhoIsFields.{limits_steps}
use Rattle.bac_fields.specs.CovNotificationFields.{notification_field}
use Rattle.bac_field_parts.specs.OpaqueFields.{opaque_steps}
use Rattle.bac_fields.specs.ServiceFields.{said_steps, service_steps}
use Rattle.bac_fields.proofs.EventRanges.{Each}
use Rattle.bac_fields.proofs.PlaceLemmas.{Lays, lays_next, lays_pass, lays_both, lays_same, Tells, tells_nothing, tells_next, tells_both, tells_same, count, count-append, Laid, laid_joined, Roomy, roomy_joined}
use Rattle.bac_fields.proofs.ValuePlaces.{object_laid, object_roomy, enumerated_roomy, unsigned_laid, instance_laid, priority_laid, boolean_laid, application_object_laid, application_unsigned_laid, application_unsigned16_laid, application_enumerated_laid, opening_laid, closing_laid, open_laid}

-- ---- optional parts, groups and lists

laid_nothing : Laid (λ (b : List ℕ). b ≡ []) []
laid_nothing = record { octets = []; is_least = least_nothing; tells = tells_nothing; few = omega arith }

optional_laid : {V : Type 0} (Spells : V → List ℕ → Type 0) (field : V → FieldValue) (part : Option V) (b : List ℕ) → ((v : V) (b : List ℕ) → Spells v b → Laid (Spells v) (next (field v) ∷ [])) → Optional Spells part b
    → Laid (Optional Spells part) (optional field part)
optional_laid Spells field None b each h = laid_nothing
optional_laid Spells field (Some v) b each h = each v b h

grouped_laid : {V : Type 0} (Spells : V → List ℕ → Type 0) (first last : Name) (tag : ℕ) (v : V) {steps : List Step} → tag ≤ 254 → Laid (Spells v) steps
    → Laid (Grouped tag Spells v) (next (opening_field first tag 0) ∷ (steps ++ next (closing_field last tag 0) ∷ []))
grouped_laid Spells first last tag v valid p = laid_joined (opening_laid first tag 0 valid) (laid_joined p (closing_laid last tag 0 valid))

-- the ends of an item have no octets
item_laid : {V : Type 0} (Spells : V → List ℕ → Type 0) (steps : V → List Step) (v : V) → Roomy (Spells v) (steps v) → Laid (Spells v) (item_steps steps v)
item_laid Spells steps v p = record {
  octets = p.laid.octets;
  is_least = p.laid.is_least;
  tells = tells_same (append-nil p.laid.octets) (tells_both (tells_next (word name.Item)) (tells_both p.laid.tells (tells_next (word name.ItemEnd))));
  few = omega (arith, p.roomy, count-append (steps v) (next (word name.ItemEnd) ∷ []));
}

module _ {V : Type 0} (Spells : V → List ℕ → Type 0) (steps : V → List Step) (each : (v : V) (b : List ℕ) → Spells v b → Roomy (Spells v) (steps v)) where
  items_laid : (vs : List V) (b : List ℕ) → Items Spells vs b → Laid (Items Spells vs) (flat_map (item_steps steps) vs)
  items_laid [] b h = laid_nothing
  items_laid (v ∷ vs) b h = laid_joined (item_laid Spells steps v (each v h.front h.first)) (items_laid vs h.back h.second)

  list_laid : (first : Name) (tag : ℕ) (vs : List V) (b : List ℕ) → tag ≤ 254 → Grouped tag (Items Spells) vs b → Laid (Grouped tag (Items Spells) vs) (listed_in first tag steps vs)
  list_laid first tag vs b valid h = grouped_laid (Items Spells) first name.ListEnd tag vs valid (items_laid vs h.second.front h.second.first)

-- ---- parts

property_roomy : (a b property : ℕ) (index : Option ℕ) (octets : List ℕ) → Joins (EnumeratedField a property) (Optional (UnsignedField b) index) octets
    → Roomy (Joins (EnumeratedField a property) (Optional (UnsignedField b) index)) (property_steps a b property index)
property_roomy a b property index octets h =
    roomy_joined (enumerated_roomy name.Property a property h.front h.first) (optional_laid (UnsignedField b) (number_under name.Index b) index h.back (unsigned_laid name.Index b) h.second)

priority_part : (tag : ℕ) (priority : Option ℕ) (b : List ℕ) → Optional (PriorityField tag) priority b → Laid (Optional (PriorityField tag) priority) (optional (number_under name.Priority tag) priority)
priority_part tag priority b h = optional_laid (PriorityField tag) (number_under name.Priority tag) priority b (priority_laid name.Priority tag) h

cause_laid : (cause : ErrorCause) (b : List ℕ) → SpellsErrorCause cause b → Laid (SpellsErrorCause cause) (cause_steps cause.class cause.code)
cause_laid cause b h = laid_joined (application_enumerated_laid name.ErrorClass cause.class h.front h.first) (application_enumerated_laid name.ErrorCode cause.code h.back h.second)

reference_roomy : (r : PropertyReference) (b : List ℕ) → SpellsPropertyReference r b → Roomy (SpellsPropertyReference r) (reference_steps r)
reference_roomy r b h = property_roomy 0 1 r.property r.index b h

read_result_laid : (r : ReadResult) (b : List ℕ) → SpellsReadResult 32 r b → Laid (SpellsReadResult 32 r) (read_result_steps r)
read_result_laid (Value value) b h = open_laid 4 value b h
read_result_laid (Error cause) b h = grouped_laid SpellsErrorCause name.PropertyError name.PropertyErrorEnd 5 cause (lit≤ tt) (cause_laid cause h.second.front h.second.first)

property_result_roomy : (r : PropertyResult) (b : List ℕ) → SpellsPropertyResult 32 r b → Roomy (SpellsPropertyResult 32 r) (property_result_steps r)
property_result_roomy r b h =
    roomy_joined (enumerated_roomy name.Property 2 r.property h.front h.first)
    (laid_joined (optional_laid (UnsignedField 3) (number_under name.Index 3) r.index h.second.front (unsigned_laid name.Index 3) h.second.first) (read_result_laid r.result h.second.back h.second.second))

property_value_roomy : (v : PropertyValue) (b : List ℕ) → SpellsPropertyValue 32 v b → Roomy (SpellsPropertyValue 32 v) (property_value_steps v)
property_value_roomy v b h =
    roomy_joined (enumerated_roomy name.Property 0 v.property h.front h.first)
    (laid_joined (optional_laid (UnsignedField 1) (number_under name.Index 1) v.index h.second.front (unsigned_laid name.Index 1) h.second.first)
    (laid_joined (open_laid 2 v.value h.second.second.front h.second.second.first) (priority_part 3 v.priority h.second.second.back h.second.second.second)))

specification_roomy : (s : Specification) (b : List ℕ) → SpellsSpecification s b → Roomy (SpellsSpecification s) (specification_steps s)
specification_roomy s b h = roomy_joined (object_roomy name.Object 0 s.object h.front h.first) (list_laid SpellsPropertyReference reference_steps reference_roomy name.Properties 1 s.properties h.back (lit≤ tt) h.second)

results_laid : (results : Option (List PropertyResult)) (b : List ℕ) → Optional (Grouped 1 (Items (SpellsPropertyResult 32))) results b
    → Laid (Optional (Grouped 1 (Items (SpellsPropertyResult 32))) results) (option_map_or (listed_in name.Results 1 property_result_steps) results [])
results_laid None b h = laid_nothing
results_laid (Some results) b h = list_laid (SpellsPropertyResult 32) property_result_steps property_result_roomy name.Results 1 results b (lit≤ tt) h

access_result_roomy : (r : AccessResult) (b : List ℕ) → SpellsAccessResult 32 r b → Roomy (SpellsAccessResult 32 r) (access_result_steps r)
access_result_roomy r b h = roomy_joined (object_roomy name.Object 0 r.object h.front h.first) (results_laid r.results h.back h.second)

write_specification_roomy : (s : WriteSpecification) (b : List ℕ) → SpellsWriteSpecification 32 s b → Roomy (SpellsWriteSpecification 32 s) (write_specification_steps s)
write_specification_roomy s b h =
    roomy_joined (object_roomy name.Object 0 s.object h.front h.first) (list_laid (SpellsPropertyValue 32) property_value_steps property_value_roomy name.Values 1 s.values h.back (lit≤ tt) h.second)

object_property_laid : (object : Identifier) (property : ℕ) (index : Option ℕ) (b : List ℕ) → SpellsObjectProperty (object, (property, index)) b
    → Laid (SpellsObjectProperty (object, (property, index))) (next (object_under name.Object 0 object) ∷ property_steps 1 2 property index)
object_property_laid object property index b h = laid_joined (object_laid name.Object 0 object h.front h.first) (property_roomy 1 2 property index h.back h.second).laid

limits_laid : (limits : Option (ℕ × ℕ)) (b : List ℕ) → Optional (Joined (InstanceField 0) (InstanceField 1)) limits b → Laid (Optional (Joined (InstanceField 0) (InstanceField 1)) limits) (limits_steps limits)
limits_laid None b h = laid_nothing
limits_laid (Some limits) b h = laid_joined (instance_laid name.Low 0 limits.0 h.front h.first) (instance_laid name.High 1 limits.1 h.back h.second)

-- ---- services

-- The steps lay out the service choice and the least octets of a set, and have all of them in fields.
pub record Led (choice : ℕ) (Among : List ℕ → Type 0) (steps : List Step) : Type 0 where
  pub octets : List ℕ
  pub is_least : IsLeast Among octets
  pub tells : Tells steps (choice ∷ octets)
  pub few : count steps ≤ 2 * length octets + 4

-- the same, where some octets are in no field
pub record Behind (choice : ℕ) (Among : List ℕ → Type 0) (steps : List Step) : Type 0 where
  pub octets : List ℕ
  pub is_least : IsLeast Among octets
  pub lays : Lays steps (choice ∷ octets)
  pub few : count steps ≤ 2 * length octets + 4

behind : {choice : ℕ} {Among : List ℕ → Type 0} {steps : List Step} → Led choice Among steps → Behind choice Among steps
behind p = record { octets = p.octets; is_least = p.is_least; lays = p.tells.lays; few = p.few }

led : {Among : List ℕ → Type 0} {steps : List Step} (of_name : Name) (choice number : ℕ) → choice ≡ number → Laid Among steps → Led choice Among (next (octet_field of_name number) ∷ steps)
led of_name choice number e p = record {
  octets = p.octets;
  is_least = p.is_least;
  tells = tells_same (ap (λ n. n ∷ p.octets) (sym e)) (tells_both (tells_next (octet_field of_name number)) p.tells);
  few = omega (arith, p.few);
}

-- a list without tags
led_list : {V : Type 0} (Spells : V → List ℕ → Type 0) (steps : V → List Step) (each : (v : V) (b : List ℕ) → Spells v b → Roomy (Spells v) (steps v)) (first of_name : Name) (choice number : ℕ) (vs : List V) (b : List ℕ) → choice ≡ number
    → Items Spells vs b → Led choice (Items Spells vs) (next (octet_field of_name number) ∷ next (word first) ∷ (flat_map (item_steps steps) vs ++ next (word name.ListEnd) ∷ []))
led_list Spells steps each first of_name choice number vs b e h =
    let items = items_laid Spells steps each vs b h in
    record {
      octets = items.octets;
      is_least = items.is_least;
      tells = tells_same (append-nil (choice ∷ items.octets)) (tells_same (ap (λ n. n ∷ (items.octets ++ [])) (sym e))
          (tells_both (tells_next (octet_field of_name number)) (tells_both (tells_next (word first)) (tells_both items.tells (tells_next (word name.ListEnd))))));
      few = omega (arith, items.few, count-append (flat_map (item_steps steps) vs) (next (word name.ListEnd) ∷ []));
    }

write_error_led : (choice : ℕ) (e : WritePropertyMultipleError) (b : List ℕ) → choice ≡ 16 → SpellsBy 32 write_property_multiple_error e b → Behind choice (SpellsBy 32 write_property_multiple_error e) (write_error_steps e)
write_error_led choice e b is h =
    let cause = cause_laid (record { class = e.class; code = e.code }) h.first.second.front h.first.second.first in
    let place = object_property_laid e.object e.property e.index h.second.second.front h.second.second.first in
    let error = least_joined (least_opening 0 (14 ∷ []) (lit≤ tt) refl) (least_joined cause.is_least (least_closing 0 (15 ∷ []) (lit≤ tt) refl)) in
    let reference = least_joined (least_opening 1 (30 ∷ []) (lit≤ tt) refl) (least_joined place.is_least (least_closing 1 (31 ∷ []) (lit≤ tt) refl)) in
    let behind : List ℕ = 30 ∷ (place.octets ++ 31 ∷ []) in
    record {
      octets = 14 ∷ ((cause.octets ++ 15 ∷ []) ++ behind);
      is_least = least_joined error reference;
      lays = lays_same (ap (λ n. n ∷ 14 ∷ ((cause.octets ++ 15 ∷ []) ++ behind)) (sym is)) (lays_both (lays_next (octet_field name.Choice 16))
          (lays_same (ap (λ l. 14 ∷ l) (sym (append_assoc cause.octets (15 ∷ []) behind)))
          (lays_both (lays_pass 1 (14 ∷ []) refl) (lays_both cause.tells.lays (lays_both (lays_pass 2 (15 ∷ 30 ∷ []) refl) (lays_both place.tells.lays (lays_pass 1 (31 ∷ []) refl)))))));
      few = omega (arith, cause.few, place.few, count-append (next (object_under name.Object 0 e.object) ∷ property_steps 1 2 e.property e.index) (pass 1 ∷ []), length-append (cause.octets ++ 15 ∷ []) behind, length-append cause.octets (15 ∷ []), length-append place.octets (31 ∷ []));
    }

-- ---- the table of services

none_some : {p : ServiceProduction} → None ≡ Some p → ⊥
none_some e = cc

some_is : {p q : ServiceProduction} → Some p ≡ Some q → p ≡ q
some_is e = cc

-- the choice that names a production in a kind
abbrev pub IsChoice : Kind → ServiceProduction → ℕ → Type 0
IsChoice k read_property n = n ≡ 12
IsChoice k read_property_ack n = n ≡ 12
IsChoice k read_property_multiple n = n ≡ 14
IsChoice k read_property_multiple_ack n = n ≡ 14
IsChoice k write_property n = n ≡ 15
IsChoice k write_property_multiple n = n ≡ 16
IsChoice k write_property_multiple_error n = n ≡ 16
IsChoice k who_is n = n ≡ 8
IsChoice k i_am n = n ≡ 0
IsChoice k subscribe_cov n = n ≡ 5
IsChoice kind.Confirmed cov_notification n = n ≡ 1
IsChoice kind.Unconfirmed cov_notification n = n ≡ 2
IsChoice kind.ComplexAck cov_notification n = n ≡ 2
IsChoice kind.Error cov_notification n = n ≡ 2
IsChoice k service_error n = Unit {0}

abbrev IsRow : Kind → ℕ × ServiceProduction → Type 0
IsRow k row = IsChoice k row.1 row.0

rows_are : (k : Kind) → Each (IsRow k) (rows true k)
rows_are kind.Confirmed = (refl, (refl, (refl, (refl, (refl, (refl, tt))))))
rows_are kind.Unconfirmed = (refl, (refl, (refl, tt)))
rows_are kind.ComplexAck = (refl, (refl, tt))
rows_are kind.Error = (tt, (tt, (tt, (tt, (tt, (refl, tt))))))

module _ (k : Kind) (choice : ℕ) (p : ServiceProduction) where
  row_case : (found : Bool) (row : ℕ × ServiceProduction) (others : Option ServiceProduction) → nat_eq row.0 choice ≡ found → IsRow k row → cond found (Some row.1) others ≡ Some p → (others ≡ Some p → IsChoice k p choice) → IsChoice k p choice
  row_case true row others f h e later = subst (λ (q : ServiceProduction). IsChoice k q choice) (some_is e) (subst (λ (n : ℕ). IsChoice k row.1 n) (eqb-true row.0 choice f) h)
  row_case false row others f h e later = later e

  row_is : (table : List (ℕ × ServiceProduction)) → Each (IsRow k) table → lookup (λ c. nat_eq c choice) table ≡ Some p → IsChoice k p choice
  row_is [] h e = absurd (none_some e)
  row_is (row ∷ table) h e = row_case (nat_eq row.0 choice) row (lookup (λ c. nat_eq c choice) table) refl h.0 e (row_is table h.1)

pub choice_is : (k : Kind) (choice : ℕ) (p : ServiceProduction) → Some p ≡ production_of true k choice → IsChoice k p choice
choice_is k choice p e = row_is k choice p (rows true k) (rows_are k) (sym e)

-- ---- services of a kind and a choice

notification_led : (k : Kind) (choice : ℕ) {Among : List ℕ → Type 0} {steps : List Step} → IsChoice k cov_notification choice → Laid Among steps → Led choice Among (next (notification_field k) ∷ steps)
notification_led kind.Confirmed choice e p = led name.ConfirmedCovNotification choice 1 e p
notification_led kind.Unconfirmed choice e p = led name.UnconfirmedCovNotification choice 2 e p
notification_led kind.ComplexAck choice e p = led name.UnconfirmedCovNotification choice 2 e p
notification_led kind.Error choice e p = led name.UnconfirmedCovNotification choice 2 e p

pub opaque_tells : (k : Kind) (choice : ℕ) (octets : List ℕ) → Tells (opaque_steps k choice octets) (choice ∷ octets)
opaque_tells kind.Confirmed choice octets = tells_both (tells_next (word name.Opaque)) (tells_both (tells_next (octet_field name.Choice choice)) (tells_next (octets_field name.Octets octets)))
opaque_tells kind.Unconfirmed choice octets = tells_both (tells_next (word name.Opaque)) (tells_both (tells_next (octet_field name.Choice choice)) (tells_next (octets_field name.Octets octets)))
opaque_tells kind.ComplexAck choice octets = tells_both (tells_next (word name.Opaque)) (tells_both (tells_next (octet_field name.Choice choice)) (tells_next (octets_field name.Octets octets)))
opaque_tells kind.Error choice octets = tells_both (tells_next (octet_field name.Choice choice)) (tells_next (octets_field name.Octets octets))

opaque_few : (k : Kind) (choice : ℕ) (octets : List ℕ) → count (opaque_steps k choice octets) ≤ 2 * length octets + 4
opaque_few kind.Confirmed choice octets = omega arith
opaque_few kind.Unconfirmed choice octets = omega arith
opaque_few kind.ComplexAck choice octets = omega arith
opaque_few kind.Error choice octets = omega arith

-- a production of which all octets are in fields
abbrev pub IsPlain : ServiceProduction → Type 0
IsPlain write_property_multiple_error = ⊥
IsPlain _ = Unit {0}

pub plain_led : (k : Kind) (choice : ℕ) (p : ServiceProduction) (said : SaidBy p) (b : List ℕ) → IsPlain p → IsChoice k p choice → SpellsBy 32 p said b → Led choice (SpellsBy 32 p said) (said_steps k choice (Some p) said)
plain_led k choice read_property said b plain e h = led name.ReadProperty choice 12 e (object_property_laid said.object said.property said.index b h)
plain_led k choice read_property_ack said b plain e h =
    led name.ReadProperty choice 12 e (laid_joined (object_property_laid said.object said.property said.index h.front h.first) (open_laid 3 said.value h.back h.second))
plain_led k choice read_property_multiple said b plain e h = led_list SpellsSpecification specification_steps specification_roomy name.Specifications name.ReadPropertyMultiple choice 14 said b e h
plain_led k choice read_property_multiple_ack said b plain e h = led_list (SpellsAccessResult 32) access_result_steps access_result_roomy name.Results name.ReadPropertyMultiple choice 14 said b e h
plain_led k choice write_property said b plain e h =
    led name.WriteProperty choice 15 e
    (laid_joined (object_property_laid said.object said.property said.index h.front h.first)
    (laid_joined (open_laid 3 said.value h.second.front h.second.first) (priority_part 4 said.priority h.second.back h.second.second)))
plain_led k choice write_property_multiple said b plain e h =
    led_list (SpellsWriteSpecification 32) write_specification_steps write_specification_roomy name.Specifications name.WritePropertyMultiple choice 16 said b e h
plain_led k choice write_property_multiple_error said b plain e h = absurd plain
plain_led k choice who_is said b plain e h = led name.WhoIs choice 8 e (limits_laid said.limits b h)
plain_led k choice i_am said b plain e h =
    led name.IAm choice 0 e
    (laid_joined (application_object_laid name.Object said.object h.front h.first)
    (laid_joined (application_unsigned_laid name.MaxApdu said.apdu h.second.front h.second.first)
    (laid_joined (application_enumerated_laid name.Segmentation said.segmentation h.second.second.front h.second.second.first)
    (application_unsigned16_laid name.Vendor said.vendor h.second.second.back h.second.second.second))))
plain_led k choice subscribe_cov said b plain e h =
    led name.SubscribeCov choice 5 e
    (laid_joined (unsigned_laid name.Process 0 said.process h.front h.first)
    (laid_joined (object_laid name.Object 1 said.object h.second.front h.second.first)
    (laid_joined (optional_laid (BooleanField 2) (truth_under name.Confirmed 2) said.confirmed h.second.second.front (boolean_laid name.Confirmed 2) h.second.second.first)
    (optional_laid (UnsignedField 3) (number_under name.Lifetime 3) said.lifetime h.second.second.back (unsigned_laid name.Lifetime 3) h.second.second.second))))
plain_led k choice cov_notification said b plain e h =
    notification_led k choice e
    (laid_joined
    (laid_joined (unsigned_laid name.Process 0 said.process h.first.front h.first.first)
    (laid_joined (object_laid name.Device 1 said.device h.first.second.front h.first.second.first) (object_laid name.Object 2 said.object h.first.second.back h.first.second.second)))
    (laid_joined (unsigned_laid name.Remaining 3 said.remaining h.second.front h.second.first)
    (list_laid (SpellsPropertyValue 32) property_value_steps property_value_roomy name.Values 4 said.values h.second.back (lit≤ tt) h.second.second)))
plain_led k choice service_error said b plain e h = led name.Choice choice choice refl (cause_laid said b h)

by_production : (k : Kind) (choice : ℕ) (p : ServiceProduction) (said : SaidBy p) (b : List ℕ) → IsChoice k p choice → SpellsBy 32 p said b → Behind choice (SpellsBy 32 p said) (said_steps k choice (Some p) said)
by_production k choice write_property_multiple_error said b e h = write_error_led choice said b e h
by_production k choice p said b e h = behind (plain_led k choice p said b tt e h)

said_led : (k : Kind) (choice : ℕ) (production : Option ServiceProduction) (said : Said production) (b : List ℕ) → production ≡ production_of true k choice → SpellsSaid 32 production said b
    → Behind choice (SpellsSaid 32 production said) (said_steps k choice production said)
said_led k choice (Some p) said b e h = by_production k choice p said b (choice_is k choice p e) h
said_led k choice None octets b e h = record {
  octets = octets;
  is_least = record { member = (refl, h.1); least = λ c s. NoGreater-same octets c (sym s.0) };
  lays = (opaque_tells k choice octets).lays;
  few = opaque_few k choice octets;
}

-- the canonical octets of a service, behind its choice
pub service_led : (k : Kind) (choice : ℕ) (service : ServiceValue) (b : List ℕ) → SpellsService true 32 k choice service b → Behind service.choice (SpellsService true 32 k choice service) (service_steps service)
service_led k choice service b h =
    let row = h.production_is ∙ ap (λ j. production_of true j choice) (sym h.kind_is) ∙ ap (λ c. production_of true service.kind c) (sym h.choice_is) in
    let p = said_led service.kind service.choice service.production service.said b row h.spelled in
    let spelled : (c : List ℕ) → SpellsSaid 32 service.production service.said c → SpellsService true 32 k choice service c =
    λ c s. record { kind_is = h.kind_is; choice_is = h.choice_is; choice_fits = h.choice_fits; production_is = h.production_is; spelled = s } in
    record {
      octets = p.octets;
      is_least = record { member = spelled p.octets p.is_least.member; least = λ c s. p.is_least.least c s.spelled };
      lays = p.lays;
      few = p.few;
    }
