-- Each service that a program holds is spelled: what is known of it by its type alone gives a spelling, part by part.
-- For each struct and each service, what its type says of its fields stands first, and then that it is spelled.
use Rattle.std.proofs.Common.{◌≡◌, ℕ, ◌<◌, ◌^◌, Option, None, Some, [], ◌∷◌, true, refl, ap, sym, subst, lit≤, lit<, w8, w16, w32}
use Rattle.std.specs.Option.{option_map}
use denote.Struct.Declared as struct_of
use denote.Struct.Tuple.{Tuple, tuple_type}
use denote.Builtin.{u32}
use denote.Enum.Declared as enum_of
use denote.Known.{Known, Knowns, nothing_known, uint_known, such_known, view_known, enum_known, declared_known, declared_enum_known}
use Rattle.std.specs.contracts.option.Option as option
use Rattle.std.specs.contracts.vec.Vec as vec
use Rattle.std.specs.contracts.alloc.Global as global
use Rattle.std.specs.contracts.impls.GlobalAllocator.TheImpl as allocator
use Rattle.std.specs.declared.vec.Vec.{Vec}
use Rattle.std.specs.declared.alloc.Global.{Global}
use Rattle.bac_tag.specs.Octets.{IsOctets}
use Rattle.bac_tag.specs.Spelling.{Joined}
use Rattle.bac_value.specs.Identifier.{Identifier}
use Rattle.bac_value.specs.contracts.types.instance.Instance as instance_row
use Rattle.bac_value.specs.contracts.types.priority.Priority as priority_row
use Rattle.bac_productions.specs.Contents.{InstanceField}
use Rattle.bac_productions.specs.Productions.{Optional, Items, Grouped}
use Rattle.bac_service.specs.ObjectProperty.{SpellsObjectProperty}
use Rattle.bac_service.specs.PropertyReference.{SpellsPropertyReference}
use Rattle.bac_service.specs.PropertyValue.{SpellsPropertyValue}
use Rattle.bac_service.specs.PropertyResult.{SpellsReadResult, SpellsPropertyResult}
use Rattle.bac_service.specs.ErrorCause.{SpellsErrorCause}
use Rattle.bac_service.specs.ReadAccessSpecification.{SpellsSpecification, specification_of}
use Rattle.bac_service.specs.ReadAccessResult.{SpellsAccessResult, access_result_of}
use Rattle.bac_service.specs.WriteAccessSpecification.{SpellsWriteSpecification, write_specification_of}
use Rattle.bac_service.specs.ReadPropertyAck.{SpellsReadPropertyAck}
use Rattle.bac_service.specs.WriteProperty.{SpellsWriteProperty}
use Rattle.bac_service.specs.IAm.{SpellsIAm}
use Rattle.bac_service.specs.SubscribeCov.{SpellsSubscribeCov}
use Rattle.bac_service.specs.CovNotification.{SpellsNotification, notification_of}
use Rattle.bac_service.specs.WritePropertyMultipleError.{SpellsWriteError}
use Rattle.bac_service.specs.Opaques.{OpaqueValue}
use Rattle.bac_service.specs.Services.{value_of, SpellsSaid, SpellsService, IsPlaced}
use Rattle.bac_service.specs.Laws.Service.{octets_held, no_row, notification_fits, notification_production}
use Rattle.bac_service.specs.declared.service.Service.{Service}
use Rattle.bac_service.specs.declared.service.Service.TheVariants as held
use Rattle.bac_service.specs.declared.service.error_cause.ErrorCause.{ErrorCause}
use Rattle.bac_service.specs.declared.service.property_reference.PropertyReference.{PropertyReference}
use Rattle.bac_service.specs.declared.service.property_value.PropertyValue.{PropertyValue}
use Rattle.bac_service.specs.declared.service.property_result.ReadResult.{ReadResult}
use Rattle.bac_service.specs.declared.service.property_result.ReadResult.TheVariants.{Value, Error}
use Rattle.bac_service.specs.declared.service.property_result.PropertyResult.{PropertyResult}
use Rattle.bac_service.specs.declared.service.read_property_multiple.ReadAccessSpecification.{ReadAccessSpecification}
use Rattle.bac_service.specs.declared.service.read_property_multiple_ack.ReadAccessResult.{ReadAccessResult}
use Rattle.bac_service.specs.declared.service.write_property_multiple.WriteAccessSpecification.{WriteAccessSpecification}
use Rattle.bac_service.specs.declared.service.read_property_ack.ReadPropertyAck.{ReadPropertyAck}
use Rattle.bac_service.specs.declared.service.write_property.WriteProperty.{WriteProperty}
use Rattle.bac_service.specs.declared.service.i_am.IAm.{IAm}
use Rattle.bac_service.specs.declared.service.subscribe_cov.SubscribeCov.{SubscribeCov}
use Rattle.bac_service.specs.declared.service.cov_notification.CovNotification.{CovNotification}
use Rattle.bac_service.specs.declared.service.write_property_multiple_error.WritePropertyMultipleError.{WritePropertyMultipleError}
use Rattle.bac_service.specs.declared.service.read_property.ReadProperty.{ReadProperty}
use Rattle.bac_service.specs.ReadProperty.{SpellsReadProperty}
use Rattle.bac_service.specs.contracts.service.property_reference.PropertyReference as reference_row
use Rattle.bac_service.specs.contracts.service.property_value.PropertyValue as value_row
use Rattle.bac_service.specs.contracts.service.property_result.ReadResult as read_result_row
use Rattle.bac_service.specs.contracts.service.property_result.PropertyResult as result_row
use Rattle.bac_service.specs.contracts.service.error_cause.ErrorCause as cause_row
use Rattle.bac_service.specs.contracts.service.read_property_multiple.ReadAccessSpecification as read_specification_row
use Rattle.bac_service.specs.contracts.service.read_property_multiple_ack.ReadAccessResult as access_result_row
use Rattle.bac_service.specs.contracts.service.write_property_multiple.WriteAccessSpecification as write_specification_row
use Rattle.bac_service.specs.contracts.service.read_property_ack.ReadPropertyAck as read_property_ack_row
use Rattle.bac_service.specs.contracts.service.write_property.WriteProperty as write_property_row
use Rattle.bac_service.specs.contracts.service.i_am.IAm as i_am_row
use Rattle.bac_service.specs.contracts.service.subscribe_cov.SubscribeCov as subscribe_cov_row
use Rattle.bac_service.specs.contracts.service.cov_notification.CovNotification as cov_notification_row
use Rattle.bac_service.specs.contracts.service.write_property_multiple_error.WritePropertyMultipleError as write_error_row
use Rattle.bac_service.specs.contracts.service.read_property.ReadProperty as read_property_row
use Rattle.bac_service.specs.contracts.service.read_property_multiple.ReadPropertyMultiple as read_property_multiple_row
use Rattle.bac_service.specs.contracts.service.read_property_multiple_ack.ReadPropertyMultipleAck as read_property_multiple_ack_row
use Rattle.bac_service.specs.contracts.service.write_property_multiple.WritePropertyMultiple as write_property_multiple_row
use Rattle.bac_service.specs.contracts.service.who_is.WhoIs as who_is_row
use Rattle.bac_service.specs.contracts.service.service_error.ServiceError as service_error_row
use Rattle.bac_service.specs.contracts.service.opaque.Opaque as opaque_row
use Rattle.bac_service.specs.contracts.service.Service as service_row
use Rattle.bac_service.proofs.HeldParts.{some_known, items_known, fields_known, object_known, instance_known, priority_known, any_known, index_known}
use Rattle.bac_service.proofs.HeldFieldLemmas.{Spelled, joined, grouped, items_of, items, object, enumerated, unsigned, instance, open_value, application_object, application_enumerated, application_unsigned, index, command, bit}

-- what is known of the fields of a struct
abbrev FieldsHeld : (T : struct_of.Declared) → Knowns (struct_of.shape T).fields → T.D → Type 0
FieldsHeld T k d = (fields_known T k).Fact (T.to d)

-- ---- structs

abbrev cause_fields : Knowns (struct_of.shape cause_row.the_type).fields
cause_fields = (uint_known w32, (uint_known w32, tt))

cause : (c : ErrorCause) → FieldsHeld cause_row.the_type cause_fields c → Spelled (SpellsErrorCause c)
cause c f = joined (application_enumerated c.class f.0) (application_enumerated c.code f.1.0)

abbrev reference_fields : Knowns (struct_of.shape reference_row.the_type).fields
reference_fields = (uint_known w32, (index_known, tt))

reference : (r : PropertyReference) → FieldsHeld reference_row.the_type reference_fields r → Spelled (SpellsPropertyReference r)
reference r f = joined (enumerated 0 r.property (lit≤ tt) f.0) (index 1 r.index (lit≤ tt) f.1.0)

abbrev property_value_fields : Knowns (struct_of.shape value_row.the_type).fields
property_value_fields = (uint_known w32, (index_known, (any_known, (some_known priority_row.the_row priority_known, tt))))

property_value : (v : PropertyValue) → FieldsHeld value_row.the_type property_value_fields v → Spelled (SpellsPropertyValue 32 v)
property_value v f =
    joined (enumerated 0 v.property (lit≤ tt) f.0)
    (joined (index 1 v.index (lit≤ tt) f.1.0)
    (joined (open_value 2 v.value (lit≤ tt) f.1.1.0) (command 3 v.priority (lit≤ tt) f.1.1.1.0)))

abbrev result_known : Known (read_result_row.the_field).row
result_known = enum_known (enum_of.shape read_result_row.the_type) ((any_known, tt), ((fields_known cause_row.the_type cause_fields, tt), tt))

read_result : (r : ReadResult) → result_known.Fact ((read_result_row.the_type).to r) → Spelled (SpellsReadResult 32 r)
read_result (Value value) f = open_value 4 value (lit≤ tt) f.0
read_result (Error c) f = grouped 5 SpellsErrorCause c (lit≤ tt) (cause c f.0)

abbrev property_result_fields : Knowns (struct_of.shape result_row.the_type).fields
property_result_fields = (uint_known w32, (index_known, (result_known, tt)))

property_result : (r : PropertyResult) → FieldsHeld result_row.the_type property_result_fields r → Spelled (SpellsPropertyResult 32 r)
property_result r f = joined (enumerated 2 r.property (lit≤ tt) f.0) (joined (index 3 r.index (lit≤ tt) f.1.0) (read_result r.result f.1.1.0))

abbrev references_known : Known (vec.the_row reference_row.the_row global.the_row allocator.ghosts)
references_known = items_known reference_row.the_row (declared_known reference_row.the_type reference_fields)

abbrev read_specification_fields : Knowns (struct_of.shape read_specification_row.the_type).fields
read_specification_fields = (object_known, (references_known, tt))

read_specification : (s : ReadAccessSpecification) → FieldsHeld read_specification_row.the_type read_specification_fields s → Spelled (SpellsSpecification (specification_of s))
read_specification s f =
    joined (object 0 s.object (lit≤ tt) f.0)
    (grouped 1 (Items SpellsPropertyReference) s.properties.items (lit≤ tt) (items SpellsPropertyReference reference s.properties.items f.1.0))

abbrev values_known : Known (vec.the_row value_row.the_row global.the_row allocator.ghosts)
values_known = items_known value_row.the_row (declared_known value_row.the_type property_value_fields)

abbrev write_specification_fields : Knowns (struct_of.shape write_specification_row.the_type).fields
write_specification_fields = (object_known, (values_known, tt))

write_specification : (s : WriteAccessSpecification) → FieldsHeld write_specification_row.the_type write_specification_fields s → Spelled (SpellsWriteSpecification 32 (write_specification_of s))
write_specification s f =
    joined (object 0 s.object (lit≤ tt) f.0)
    (grouped 1 (Items (SpellsPropertyValue 32)) s.values.items (lit≤ tt) (items (SpellsPropertyValue 32) property_value s.values.items f.1.0))

abbrev results_known : Known (vec.the_row result_row.the_row global.the_row allocator.ghosts)
results_known = items_known result_row.the_row (declared_known result_row.the_type property_result_fields)

abbrev access_result_fields : Knowns (struct_of.shape access_result_row.the_type).fields
access_result_fields = (object_known, (some_known (vec.the_row result_row.the_row global.the_row allocator.ghosts) results_known, tt))

results : (o : Option (Vec PropertyResult Global)) → (some_known (vec.the_row result_row.the_row global.the_row allocator.ghosts) results_known).Fact ((option.the_type (vec.the_row result_row.the_row global.the_row allocator.ghosts)).to o)
    → Spelled (Optional (Grouped 1 (Items (SpellsPropertyResult 32))) (option_map (λ results. results.items) o))
results None f = ([], refl)
results (Some r) f = grouped 1 (Items (SpellsPropertyResult 32)) r.items (lit≤ tt) (items (SpellsPropertyResult 32) property_result r.items f.0)

access_result : (r : ReadAccessResult) → FieldsHeld access_result_row.the_type access_result_fields r → Spelled (SpellsAccessResult 32 (access_result_of r))
access_result r f = joined (object 0 r.object (lit≤ tt) f.0) (results r.results f.1.0)

-- ---- services

object_property : (id : Identifier) (property : ℕ) (o : Option ℕ) → object_known.Fact id → property < 2 ^ 32 → index_known.Fact ((option.the_type u32).to o) → Spelled (SpellsObjectProperty (id, (property, o)))
object_property id property o f g h = joined (object 0 id (lit≤ tt) f) (joined (enumerated 1 property (lit≤ tt) g) (index 2 o (lit≤ tt) h))

abbrev read_property_fields : Knowns (struct_of.shape read_property_row.the_type).fields
read_property_fields = (object_known, (uint_known w32, (index_known, tt)))

read_property : (r : ReadProperty) → FieldsHeld read_property_row.the_type read_property_fields r → Spelled (SpellsReadProperty r)
read_property r f = object_property r.object r.property r.index f.0 f.1.0 f.1.1.0

abbrev read_property_ack_fields : Knowns (struct_of.shape read_property_ack_row.the_type).fields
read_property_ack_fields = (object_known, (uint_known w32, (index_known, (any_known, tt))))

read_property_ack : (a : ReadPropertyAck) → FieldsHeld read_property_ack_row.the_type read_property_ack_fields a → Spelled (SpellsReadPropertyAck 32 a)
read_property_ack a f = joined (object_property a.object a.property a.index f.0 f.1.0 f.1.1.0) (open_value 3 a.value (lit≤ tt) f.1.1.1.0)

abbrev write_property_fields : Knowns (struct_of.shape write_property_row.the_type).fields
write_property_fields = (object_known, (uint_known w32, (index_known, (any_known, (some_known priority_row.the_row priority_known, tt)))))

write_property : (r : WriteProperty) → FieldsHeld write_property_row.the_type write_property_fields r → Spelled (SpellsWriteProperty 32 r)
write_property r f =
    joined (object_property r.object r.property r.index f.0 f.1.0 f.1.1.0)
    (joined (open_value 3 r.value (lit≤ tt) f.1.1.1.0) (command 4 r.priority (lit≤ tt) f.1.1.1.1.0))

abbrev read_property_multiple_fields : Knowns (struct_of.shape read_property_multiple_row.the_type).fields
read_property_multiple_fields = (items_known read_specification_row.the_row (declared_known read_specification_row.the_type read_specification_fields), tt)

abbrev read_property_multiple_ack_fields : Knowns (struct_of.shape read_property_multiple_ack_row.the_type).fields
read_property_multiple_ack_fields = (items_known access_result_row.the_row (declared_known access_result_row.the_type access_result_fields), tt)

abbrev write_property_multiple_fields : Knowns (struct_of.shape write_property_multiple_row.the_type).fields
write_property_multiple_fields = (items_known write_specification_row.the_row (declared_known write_specification_row.the_type write_specification_fields), tt)

abbrev limits_known : Known (option.the_field (struct_of.row (tuple_type (instance_row.the_row ∷ instance_row.the_row ∷ [])))).row
limits_known = some_known _ (declared_known (tuple_type (instance_row.the_row ∷ instance_row.the_row ∷ [])) (instance_known, (instance_known, tt)))

abbrev who_is_fields : Knowns (struct_of.shape who_is_row.the_type).fields
who_is_fields = (limits_known, tt)

limits : (o : Option (ℕ × ℕ)) → limits_known.Fact ((option.the_type (Tuple (instance_row.the_row ∷ instance_row.the_row ∷ []))).to o) → Spelled (Optional (Joined (InstanceField 0) (InstanceField 1)) o)
limits None f = ([], refl)
limits (Some l) f = joined (instance 0 l.0 (lit≤ tt) f.0.0) (instance 1 l.1 (lit≤ tt) f.0.1.0)

abbrev i_am_fields : Knowns (struct_of.shape i_am_row.the_type).fields
i_am_fields = (object_known, (uint_known w32, (uint_known w32, (uint_known w16, tt))))

i_am : (r : IAm) → FieldsHeld i_am_row.the_type i_am_fields r → Spelled (SpellsIAm r)
i_am r f =
    joined (application_object r.object f.0)
    (joined (application_unsigned 32 r.apdu (lit≤ tt) f.1.0)
    (joined (application_enumerated r.segmentation f.1.1.0) (application_unsigned 16 r.vendor (lit≤ tt) f.1.1.1.0)))

abbrev subscribe_cov_fields : Knowns (struct_of.shape subscribe_cov_row.the_type).fields
subscribe_cov_fields = (uint_known w32, (object_known, (nothing_known _, (index_known, tt))))

subscribe_cov : (r : SubscribeCov) → FieldsHeld subscribe_cov_row.the_type subscribe_cov_fields r → Spelled (SpellsSubscribeCov r)
subscribe_cov r f =
    joined (unsigned 0 r.process (lit≤ tt) f.0)
    (joined (object 1 r.object (lit≤ tt) f.1.0)
    (joined (bit 2 r.confirmed (lit≤ tt)) (index 3 r.lifetime (lit≤ tt) f.1.1.1.0)))

abbrev cov_notification_fields : Knowns (struct_of.shape cov_notification_row.the_type).fields
cov_notification_fields = (nothing_known _, (uint_known w32, (object_known, (object_known, (uint_known w32, (values_known, tt))))))

notification : (n : CovNotification) → FieldsHeld cov_notification_row.the_type cov_notification_fields n → Spelled (SpellsNotification 32 (notification_of n))
notification n f =
    joined (joined (unsigned 0 n.process (lit≤ tt) f.1.0) (joined (object 1 n.device (lit≤ tt) f.1.1.0) (object 2 n.object (lit≤ tt) f.1.1.1.0)))
    (joined (unsigned 3 n.remaining (lit≤ tt) f.1.1.1.1.0)
    (grouped 4 (Items (SpellsPropertyValue 32)) n.values.items (lit≤ tt) (items (SpellsPropertyValue 32) property_value n.values.items f.1.1.1.1.1.0)))

abbrev write_error_fields : Knowns (struct_of.shape write_error_row.the_type).fields
write_error_fields = (uint_known w32, (uint_known w32, (object_known, (uint_known w32, (index_known, tt)))))

write_error : (e : WritePropertyMultipleError) → FieldsHeld write_error_row.the_type write_error_fields e → Spelled (SpellsWriteError e)
write_error e f =
    joined (grouped 0 SpellsErrorCause (record { class = e.class; code = e.code }) (lit≤ tt) (joined (application_enumerated e.class f.0) (application_enumerated e.code f.1.0)))
    (grouped 1 SpellsObjectProperty (e.object, (e.property, e.index)) (lit≤ tt) (object_property e.object e.property e.index f.1.1.0 f.1.1.1.0 f.1.1.1.1.0))

-- of an error and an opaque service: what is known of their private fields, and the invariant
abbrev error_held : Known service_error_row.TheInside.the_row
error_held = declared_known service_error_row.TheInside.the_type (uint_known w8, (fields_known cause_row.the_type cause_fields, tt))

abbrev error_known : Known service_error_row.the_row
error_known = such_known _ (record { Fact = λ d. error_held.Fact (service_error_row.the_inverse d); owned = λ d. error_held.owned (service_error_row.the_inverse d); shared = λ d. error_held.shared (service_error_row.the_inverse d) }) _ _

abbrev opaque_held : Known opaque_row.TheInside.the_row
opaque_held = declared_known opaque_row.TheInside.the_type (nothing_known _, (uint_known w8, (items_known _ (uint_known w8), tt)))

abbrev opaque_known : Known opaque_row.the_row
opaque_known = view_known opaque_row.TheInside.the_row opaque_held _ _ opaque_row.the_view opaque_row.the_invariant

-- an opaque service is its octets
opaque : (s : OpaqueValue) → opaque_known.Fact s → Spelled (SpellsSaid 32 None s.octets)
opaque s f =
    let octets : f.0.octets.items ≡ s.octets = ap (λ (v : OpaqueValue). v.octets) f.1.0 in
    (s.octets, (refl, subst IsOctets octets (octets_held f.0.octets.items (λ k lt. f.2.1.1.0 k 0 lt))))

-- and its kind and its choice have no production
opaque_placed : (s : OpaqueValue) → opaque_known.Fact s → IsPlaced (value_of (held.Opaque s))
opaque_placed s f =
    let as_held : IsPlaced (value_of (held.Opaque (record { kind = f.0.kind; choice = f.0.choice; octets = f.0.octets.items }))) = record { choice_fits = f.2.1.0; production_is = no_row _ f.1.1 } in
    subst (λ (v : OpaqueValue). IsPlaced (value_of (held.Opaque v))) f.1.0 as_held

-- ---- any service

abbrev pub service_known : Known service_row.the_row
service_known = declared_enum_known service_row.the_type (
  (fields_known read_property_row.the_type read_property_fields, tt),
  (
    (fields_known read_property_ack_row.the_type read_property_ack_fields, tt),
    (
      (fields_known write_property_row.the_type write_property_fields, tt),
      (
        (fields_known read_property_multiple_row.the_type read_property_multiple_fields, tt),
        (
          (fields_known read_property_multiple_ack_row.the_type read_property_multiple_ack_fields, tt),
          (
            (fields_known write_property_multiple_row.the_type write_property_multiple_fields, tt),
            (
              (fields_known who_is_row.the_type who_is_fields, tt),
              (
                (fields_known i_am_row.the_type i_am_fields, tt),
                (
                  (fields_known subscribe_cov_row.the_type subscribe_cov_fields, tt),
                  (
                    (fields_known cov_notification_row.the_type cov_notification_fields, tt),
                    (
                      (error_known, tt),
                      (
                        (fields_known write_error_row.the_type write_error_fields, tt),
                        (
                          (opaque_known, tt),
                          tt,
                        ),
                      ),
                    ),
                  ),
                ),
              ),
            ),
          ),
        ),
      ),
    ),
  ),
)

-- what it says
said : (s : Service) → service_known.Fact s → Spelled (SpellsSaid 32 (value_of s).production (value_of s).said)
said (held.ReadProperty r) f = read_property r f.0
said (held.ReadPropertyAck a) f = read_property_ack a f.0
said (held.WriteProperty r) f = write_property r f.0
said (held.ReadPropertyMultiple r) f = items_of specification_of SpellsSpecification read_specification r.specs.items f.0.0
said (held.ReadPropertyMultipleAck a) f = items_of access_result_of (SpellsAccessResult 32) access_result a.results.items f.0.0
said (held.WritePropertyMultiple r) f = items_of write_specification_of (SpellsWriteSpecification 32) write_specification r.specs.items f.0.0
said (held.WhoIs r) f = limits r.limits f.0.0
said (held.IAm r) f = i_am r f.0
said (held.SubscribeCov r) f = subscribe_cov r f.0
said (held.CovNotification n) f = notification n f.0
said (held.ServiceError e) f = cause e.cause f.0.0.1.0
said (held.WritePropertyMultipleError e) f = write_error e f.0
said (held.Opaque s) f = opaque s f.0

-- its kind and its choice name its production: where nothing else is said, by a row of the table
placed : (s : Service) → service_known.Fact s → IsPlaced (value_of s)
placed (held.CovNotification n) f = record { choice_fits = notification_fits n.confirmed; production_is = sym (notification_production n.confirmed) }
placed (held.ServiceError e) f = record { choice_fits = f.0.0.0; production_is = sym f.0.1.0.1 }
placed (held.Opaque s) f = opaque_placed s f.0
placed _ f = record { choice_fits = lit< tt; production_is = refl }

pub held_service : (s : Service) → service_known.Fact s → Spelled (SpellsService true 32 (value_of s).kind (value_of s).choice (value_of s))
held_service s f =
    let says = said s f in
    let fits = placed s f in
    (says.0, record { kind_is = refl; choice_is = refl; choice_fits = fits.choice_fits; production_is = fits.production_is; spelled = says.1 })
