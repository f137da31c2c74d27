-- What `==` answers for services: a test, field by field. The derives make it, and it says whether two services that
-- are spelled are the same service.
use Rattle.std.proofs.Common.{◌≡◌, ℕ, Bool, true, false, ◌&&◌, nat_eq, Option, None, Some, List, [], ◌∷◌, map, refl, sym, ◌∙◌, ap, subst}
use Rattle.std.specs.Bool.{Decides, beq}
use Rattle.std.specs.Option.{option_eq, option_map}
use Rattle.std.specs.Cmp.{unsigned_Decides, booleans_Decides}
use Rattle.std.specs.Cmp.Lexicographic.{pointwise, bytes_decides}
use mathlib.Core.Path.{subst_refl}
use mathlib.Core.Sum.{⊎_set}
use Rattle.bac_tag.specs.Spelling.{Joined}
use Rattle.bac_value.specs.Identifier.{Identifier}
use Rattle.bac_value.specs.declared.types.enumeration.Enumerated.{Enumerated}
use Rattle.bac_data.specs.OpenValue.{Elements, AreElements}
use Rattle.bac_data.specs.Spells.{SpellsOpen}
use Rattle.bac_data.specs.Same.{same_values}
use Rattle.bac_data.specs.Laws.Same.{same_values_tell}
use Rattle.bac_productions.specs.Productions.{Optional, Items, Grouped, IsRecordOf}
use Rattle.bac_productions.specs.Contents.{EnumeratedField, UnsignedField, PriorityField}
use Rattle.bac_service.specs.declared.kind.Kind.{Kind}
use Rattle.bac_service.specs.declared.service.property_result.ReadResult.TheVariants.{Value, Error}
use Rattle.bac_service.specs.declared.service.read_property_multiple.ReadAccessSpecification.{ReadAccessSpecification}
use Rattle.bac_service.specs.declared.service.read_property_multiple_ack.ReadAccessResult.{ReadAccessResult}
use Rattle.bac_service.specs.declared.service.write_property_multiple.WriteAccessSpecification.{WriteAccessSpecification}
use Rattle.bac_service.specs.declared.service.cov_notification.CovNotification.{CovNotification}
use Rattle.bac_service.specs.ErrorValues.{ErrorValue}
use Rattle.bac_service.specs.declared.service.Service.{Service}
use Rattle.bac_service.specs.PropertyValue.{SpellsPropertyValue}
use Rattle.bac_service.specs.PropertyResult.{SpellsReadResult, SpellsPropertyResult}
use Rattle.bac_service.specs.ReadPropertyAck.{SpellsReadPropertyAck, read_property_ack_parts}
use Rattle.bac_service.specs.WriteProperty.{SpellsWriteProperty, write_property_parts}
use Rattle.bac_service.specs.ReadAccessSpecification.{Specification, specification_of, SpellsSpecification, specification_parts}
use Rattle.bac_service.specs.ReadAccessResult.{AccessResult, access_result_of, SpellsAccessResult, access_result_parts}
use Rattle.bac_service.specs.WriteAccessSpecification.{WriteSpecification, write_specification_of, SpellsWriteSpecification, write_specification_parts}
use Rattle.bac_service.specs.CovNotification.{notification_of, SpellsNotification, notification_parts}
use Rattle.bac_service.specs.Opaques.{OpaqueValue, kind_number, opaque_key, same_opaque}
use Rattle.bac_service.specs.ServiceTable.{ServiceProduction, read_property, read_property_ack, read_property_multiple, read_property_multiple_ack, write_property, write_property_multiple, write_property_multiple_error, who_is, i_am, subscribe_cov, cov_notification, service_error}
use Rattle.bac_service.specs.Services.{SaidBy, Said, ServiceValue, typed, opaque, notification_kind, notification_choice, value_of, SpellsService}
use Rattle.bac_service.specs.Laws.Service.{never}
use Rattle.bac_service.specs.declared.service.error_cause.ErrorCause.{ErrorCause}
use Rattle.bac_service.specs.declared.service.property_reference.PropertyReference.{PropertyReference}
use Rattle.bac_service.specs.declared.service.property_value.PropertyValue.{PropertyValue}
use Rattle.bac_service.specs.declared.service.property_result.ReadResult.{ReadResult}
use Rattle.bac_service.specs.declared.service.property_result.PropertyResult.{PropertyResult}
use Rattle.bac_service.specs.declared.service.read_property.ReadProperty.{ReadProperty}
use Rattle.bac_service.specs.declared.service.read_property_ack.ReadPropertyAck.{ReadPropertyAck}
use Rattle.bac_service.specs.declared.service.write_property.WriteProperty.{WriteProperty}
use Rattle.bac_service.specs.declared.service.write_property_multiple_error.WritePropertyMultipleError.{WritePropertyMultipleError}
use Rattle.bac_service.specs.declared.service.who_is.WhoIs.{WhoIs}
use Rattle.bac_service.specs.declared.service.i_am.IAm.{IAm}
use Rattle.bac_service.specs.declared.service.subscribe_cov.SubscribeCov.{SubscribeCov}
use Rattle.bac_service.specs.ObjectProperty.{ObjectProperty}
use Rattle.bac_service.specs.declared.kind.Kind.TheVariants as kind
use Rattle.bac_service.specs.declared.service.Service.TheVariants as held
use Rattle.bac_service.specs.contracts.service.ServicePartialEq.TheImpl as derived
use Rattle.bac_service.specs.contracts.service.property_result.ReadResultPartialEq.TheImpl as of_result

-- ---- the tests: of parts

abbrev pub same_object : Identifier → Identifier → Bool
same_object a b = nat_eq a.kind b.kind && nat_eq a.instance b.instance

abbrev pub same_index : Option ℕ → Option ℕ → Bool
same_index = option_eq nat_eq

abbrev pub same_object_property : ObjectProperty → ObjectProperty → Bool
same_object_property a b = same_object a.0 b.0 && (nat_eq a.1.0 b.1.0 && same_index a.1.1 b.1.1)

abbrev pub same_cause : ErrorCause → ErrorCause → Bool
same_cause a b = nat_eq a.class b.class && nat_eq a.code b.code

abbrev pub same_reference : PropertyReference → PropertyReference → Bool
same_reference a b = nat_eq a.property b.property && same_index a.index b.index

abbrev pub same_property_value : PropertyValue → PropertyValue → Bool
same_property_value a b = nat_eq a.property b.property && (same_index a.index b.index && (same_values a.value b.value && option_eq nat_eq a.priority b.priority))

abbrev pub same_read_result : ReadResult → ReadResult → Bool
same_read_result (Value a) (Value b) = same_values a b
same_read_result (Error a) (Error b) = same_cause a b
same_read_result _ _ = false

abbrev pub same_property_result : PropertyResult → PropertyResult → Bool
same_property_result a b = nat_eq a.property b.property && (same_index a.index b.index && same_read_result a.result b.result)

-- ---- the tests: of services

abbrev pub same_read_property : ReadProperty → ReadProperty → Bool
same_read_property a b = same_object_property (a.object, (a.property, a.index)) (b.object, (b.property, b.index))

abbrev pub same_read_property_ack : ReadPropertyAck → ReadPropertyAck → Bool
same_read_property_ack a b = same_object_property (a.object, (a.property, a.index)) (b.object, (b.property, b.index)) && same_values a.value b.value

abbrev pub same_write_property : WriteProperty → WriteProperty → Bool
same_write_property a b =
    same_object_property (a.object, (a.property, a.index)) (b.object, (b.property, b.index)) && (same_values a.value b.value && option_eq nat_eq a.priority b.priority)

abbrev pub same_specification : ReadAccessSpecification → ReadAccessSpecification → Bool
same_specification a b = same_object a.object b.object && pointwise same_reference a.properties.items b.properties.items

abbrev pub same_access_result : ReadAccessResult → ReadAccessResult → Bool
same_access_result a b = same_object a.object b.object && option_eq (λ x y. pointwise same_property_result x.items y.items) a.results b.results

abbrev pub same_write_specification : WriteAccessSpecification → WriteAccessSpecification → Bool
same_write_specification a b = same_object a.object b.object && pointwise same_property_value a.values.items b.values.items

abbrev pub same_write_error : WritePropertyMultipleError → WritePropertyMultipleError → Bool
same_write_error a b = nat_eq a.class b.class && (nat_eq a.code b.code && same_object_property (a.object, (a.property, a.index)) (b.object, (b.property, b.index)))

abbrev pub same_who_is : WhoIs → WhoIs → Bool
same_who_is a b = option_eq (λ x y. nat_eq x.0 y.0 && nat_eq x.1 y.1) a.limits b.limits

abbrev pub same_i_am : IAm → IAm → Bool
same_i_am a b = same_object a.object b.object && (nat_eq a.apdu b.apdu && (nat_eq a.segmentation b.segmentation && nat_eq a.vendor b.vendor))

abbrev pub same_subscribe_cov : SubscribeCov → SubscribeCov → Bool
same_subscribe_cov a b =
    nat_eq a.process b.process && (same_object a.object b.object && (option_eq beq a.confirmed b.confirmed && same_index a.lifetime b.lifetime))

abbrev pub same_notification : CovNotification → CovNotification → Bool
same_notification a b =
    beq a.confirmed b.confirmed && ((nat_eq a.process b.process && (same_object a.device b.device && same_object a.object b.object)) && (nat_eq a.remaining b.remaining && pointwise same_property_value a.values.items b.values.items))

abbrev pub same_service : Service → Service → Bool
same_service (held.ReadProperty a) (held.ReadProperty b) = same_read_property a b
same_service (held.ReadPropertyAck a) (held.ReadPropertyAck b) = same_read_property_ack a b
same_service (held.WriteProperty a) (held.WriteProperty b) = same_write_property a b
same_service (held.ReadPropertyMultiple a) (held.ReadPropertyMultiple b) = pointwise same_specification a.specs.items b.specs.items
same_service (held.ReadPropertyMultipleAck a) (held.ReadPropertyMultipleAck b) = pointwise same_access_result a.results.items b.results.items
same_service (held.WritePropertyMultiple a) (held.WritePropertyMultiple b) = pointwise same_write_specification a.specs.items b.specs.items
same_service (held.WhoIs a) (held.WhoIs b) = same_who_is a b
same_service (held.IAm a) (held.IAm b) = same_i_am a b
same_service (held.SubscribeCov a) (held.SubscribeCov b) = same_subscribe_cov a b
same_service (held.CovNotification a) (held.CovNotification b) = same_notification a b
same_service (held.ServiceError a) (held.ServiceError b) = nat_eq a.choice b.choice && same_cause a.cause b.cause
same_service (held.WritePropertyMultipleError a) (held.WritePropertyMultipleError b) = same_write_error a b
same_service (held.Opaque a) (held.Opaque b) = same_opaque a b
same_service _ _ = false

-- ---- what the derives of `==` make

-- what the derive says of an enum, variant by variant
result_is : (a b : ReadResult) → of_result.eq-value.it a b ≡ same_read_result a b
result_is (Value a) (Value b) = refl
result_is (Error a) (Error b) = refl
result_is (Value a) (Error b) = refl
result_is (Error a) (Value b) = refl

access_results_are : (test other : ReadResult → ReadResult → Bool) → test ≡ other → (a b : ReadAccessResult)
    → (same_object a.object b.object && option_eq (λ v w. pointwise (λ (p q : PropertyResult). nat_eq p.property q.property && (same_index p.index q.index && test p.result q.result)) v.items w.items) a.results b.results)
    ≡ (same_object a.object b.object && option_eq (λ v w. pointwise (λ (p q : PropertyResult). nat_eq p.property q.property && (same_index p.index q.index && other p.result q.result)) v.items w.items) a.results b.results)
access_results_are test other e a b =
    ap (λ (f : ReadResult → ReadResult → Bool). same_object a.object b.object && option_eq (λ v w. pointwise (λ (p q : PropertyResult). nat_eq p.property q.property && (same_index p.index q.index && f p.result q.result)) v.items w.items) a.results b.results) e

-- the derive goes field by field, the definition first by the first three: those of a reference to a property of an object,
-- or those that name the subscription of a notification
first_three : (a b c rest : Bool) → (a && (b && (c && rest))) ≡ ((a && (b && c)) && rest)
first_three true true c rest = refl
first_three true false c rest = refl
first_three false b c rest = refl

-- where nothing else is said, the derive and the test are one: the line of Opaque splits those by the second service too
pub service_is : (a b : Service) → derived.eq-value.it a b ≡ same_service a b
service_is (held.ReadPropertyMultipleAck a) (held.ReadPropertyMultipleAck b) =
    ap (λ (test : ReadAccessResult → ReadAccessResult → Bool). pointwise test a.results.items b.results.items) (λ i. λ v w. access_results_are of_result.eq-value.it same_read_result (λ j. λ p q. result_is p q j) v w i)
service_is (held.ReadPropertyAck a) (held.ReadPropertyAck b) =
    first_three (same_object a.object b.object) (nat_eq a.property b.property) (same_index a.index b.index) (same_values a.value b.value)
service_is (held.WriteProperty a) (held.WriteProperty b) =
    first_three (same_object a.object b.object) (nat_eq a.property b.property) (same_index a.index b.index) (same_values a.value b.value && option_eq nat_eq a.priority b.priority)
service_is (held.CovNotification a) (held.CovNotification b) =
    ap (λ fields. beq a.confirmed b.confirmed && fields)
    (first_three (nat_eq a.process b.process) (same_object a.device b.device) (same_object a.object b.object) (nat_eq a.remaining b.remaining && pointwise same_property_value a.values.items b.values.items))
service_is _ (held.Opaque b) = refl
service_is _ _ = refl

-- ---- tests that decide whether any two values are the same

abbrev pub Decided : {V : Type 0} → (V → V → Bool) → Type 0
Decided {V} test = (v w : V) → Decides (test v w) (v ≡ w)

pub by_parts : {P V : Type 0} {v w : V} (r : Bool) → Decides r P → (P → v ≡ w) → (v ≡ w → P) → Decides r (v ≡ w)
by_parts r d join split = (λ h. join (d.0 h), λ e. d.1 (split e))

pub both : {P Q : Type 0} (r s : Bool) → Decides r P → Decides s Q → Decides (r && s) (P × Q)
both true s d f = (λ h. (d.0 refl, f.0 h), λ p. f.1 p.1)
both false s d f = (λ h. absurd (cc h), λ p. d.1 p.0)

pub options : {V : Type 0} {test : V → V → Bool} → Decided test → Decided (option_eq test)
options d None None = (λ h. refl, λ e. refl)
options d None (Some w) = (λ h. absurd (cc h), λ e. absurd (cc e))
options d (Some v) None = (λ h. absurd (cc h), λ e. absurd (cc e))
options {test = test} d (Some v) (Some w) = by_parts (test v w) (d v w) (λ e. ap Some e) (λ e. cc)

pub pairs : {V W : Type 0} {test : V → V → Bool} {other : W → W → Bool} → Decided test → Decided other → Decided (λ (p q : V × W). test p.0 q.0 && other p.1 q.1)
pairs {test = test} {other = other} d f p q = by_parts (test p.0 q.0 && other p.1 q.1) (both (test p.0 q.0) (other p.1 q.1) (d p.0 q.0) (f p.1 q.1)) (λ e. λ i. (e.0 i, e.1 i)) (λ e. (λ i. (e i).0, λ i. (e i).1))

enumerated : Decided (λ (v w : Enumerated). nat_eq v.0 w.0)
enumerated v w = by_parts (nat_eq v.0 w.0) (unsigned_Decides v.0 w.0) (λ e. λ i. record { 0 = e i }) (λ e. λ i. (e i).0)

objects : Decided same_object
objects v w = by_parts (same_object v w) (pairs unsigned_Decides unsigned_Decides (v.kind, v.instance) (w.kind, w.instance)) (λ e. λ i. record { kind = (e i).0; instance = (e i).1 }) (λ e. λ i. ((e i).kind, (e i).instance))

indices : Decided same_index
indices = options unsigned_Decides

object_properties : Decided same_object_property
object_properties = pairs objects (pairs unsigned_Decides indices)

-- the parts of a reference to a property of an object
object_parts : Decided (λ (v w : Identifier × (Enumerated × Option ℕ)). same_object v.0 w.0 && (nat_eq v.1.0.0 w.1.0.0 && same_index v.1.1 w.1.1))
object_parts = pairs objects (pairs enumerated indices)

causes : Decided same_cause
causes v w = by_parts (same_cause v w) (pairs unsigned_Decides unsigned_Decides (v.class, v.code) (w.class, w.code)) (λ e. λ i. record { class = (e i).0; code = (e i).1 }) (λ e. λ i. ((e i).class, (e i).code))

references : Decided same_reference
references v w = by_parts (same_reference v w) (pairs unsigned_Decides indices (v.property, v.index) (w.property, w.index)) (λ e. λ i. record { property = (e i).0; index = (e i).1 }) (λ e. λ i. ((e i).property, (e i).index))

reads : Decided same_read_property
reads v w =
    by_parts (same_read_property v w) (object_properties (v.object, (v.property, v.index)) (w.object, (w.property, w.index)))
    (λ e. λ i. record { object = (e i).0; property = (e i).1.0; index = (e i).1.1 }) (λ e. λ i. ((e i).object, ((e i).property, (e i).index)))

write_errors : Decided same_write_error
write_errors v w =
    by_parts (same_write_error v w)
    (pairs unsigned_Decides (pairs unsigned_Decides object_properties) (v.class, (v.code, (v.object, (v.property, v.index)))) (w.class, (w.code, (w.object, (w.property, w.index)))))
    (λ e. λ i. record { class = (e i).0; code = (e i).1.0; object = (e i).1.1.0; property = (e i).1.1.1.0; index = (e i).1.1.1.1 })
    (λ e. λ i. ((e i).class, ((e i).code, ((e i).object, ((e i).property, (e i).index)))))

who_ises : Decided same_who_is
who_ises v w = by_parts (same_who_is v w) (options (pairs unsigned_Decides unsigned_Decides) v.limits w.limits) (λ e. λ i. record { limits = e i }) (λ e. λ i. (e i).limits)

i_ams : Decided same_i_am
i_ams v w =
    by_parts (same_i_am v w)
    (pairs objects (pairs unsigned_Decides (pairs unsigned_Decides unsigned_Decides)) (v.object, (v.apdu, (v.segmentation, v.vendor))) (w.object, (w.apdu, (w.segmentation, w.vendor))))
    (λ e. λ i. record { object = (e i).0; apdu = (e i).1.0; segmentation = (e i).1.1.0; vendor = (e i).1.1.1 })
    (λ e. λ i. ((e i).object, ((e i).apdu, ((e i).segmentation, (e i).vendor))))

subscriptions : Decided same_subscribe_cov
subscriptions v w =
    by_parts (same_subscribe_cov v w)
    (pairs unsigned_Decides (pairs objects (pairs (options booleans_Decides) indices)) (v.process, (v.object, (v.confirmed, v.lifetime))) (w.process, (w.object, (w.confirmed, w.lifetime))))
    (λ e. λ i. record { process = (e i).0; object = (e i).1.0; confirmed = (e i).1.1.0; lifetime = (e i).1.1.1 })
    (λ e. λ i. ((e i).process, ((e i).object, ((e i).confirmed, (e i).lifetime))))

-- ---- tests that decide it of values that are spelled

abbrev Tells : {V : Type 0} → (V → List ℕ → Type 0) → (V → V → Bool) → Type 0
Tells {V} spells test = (v w : V) (b c : List ℕ) → spells v b → spells w c → Decides (test v w) (v ≡ w)

tells_plain : {V : Type 0} (S : V → List ℕ → Type 0) {test : V → V → Bool} → Decided test → Tells S test
tells_plain S d v w b c s t = d v w

tells_joined : {V W : Type 0} {S : V → List ℕ → Type 0} {T : W → List ℕ → Type 0} {test : V → V → Bool} {other : W → W → Bool}
    → Tells S test → Tells T other → Tells (Joined S T) (λ p q. test p.0 q.0 && other p.1 q.1)
tells_joined {test = test} {other = other} d f p q b c s t =
    by_parts (test p.0 q.0 && other p.1 q.1) (both (test p.0 q.0) (other p.1 q.1) (d p.0 q.0 s.front t.front s.first t.first) (f p.1 q.1 s.back t.back s.second t.second))
    (λ e. λ i. (e.0 i, e.1 i)) (λ e. (λ i. (e i).0, λ i. (e i).1))

tells_optional : {V : Type 0} {S : V → List ℕ → Type 0} {test : V → V → Bool} → Tells S test → Tells (Optional S) (option_eq test)
tells_optional d None None b c s t = (λ h. refl, λ e. refl)
tells_optional d None (Some w) b c s t = (λ h. absurd (cc h), λ e. absurd (cc e))
tells_optional d (Some v) None b c s t = (λ h. absurd (cc h), λ e. absurd (cc e))
tells_optional {test = test} d (Some v) (Some w) b c s t = by_parts (test v w) (d v w b c s t) (λ e. ap Some e) (λ e. cc)

tells_items : {V : Type 0} {S : V → List ℕ → Type 0} {test : V → V → Bool} → Tells S test → Tells (Items S) (pointwise test)
tells_items d [] [] b c s t = (λ h. refl, λ e. refl)
tells_items d [] (w ∷ ws) b c s t = (λ h. absurd (cc h), λ e. absurd (cc e))
tells_items d (v ∷ vs) [] b c s t = (λ h. absurd (cc h), λ e. absurd (cc e))
tells_items {test = test} d (v ∷ vs) (w ∷ ws) b c s t =
    by_parts (test v w && pointwise test vs ws) (both (test v w) (pointwise test vs ws) (d v w s.front t.front s.first t.first) (tells_items d vs ws s.back t.back s.second t.second))
    (λ e. λ i. e.0 i ∷ e.1 i) (λ e. (cc, cc))

tells_grouped : {V : Type 0} {S : V → List ℕ → Type 0} {test : V → V → Bool} (number : ℕ) → Tells S test → Tells (Grouped number S) test
tells_grouped number d v w b c s t = d v w s.second.front t.second.front s.second.first t.second.first

tells_record : {V W : Type 0} {parts : W → List ℕ → Type 0} {whole : V → List ℕ → Type 0} {test : W → W → Bool} (r : IsRecordOf parts whole) → Tells parts test
    → Tells whole (λ v w. test (r.fields v) (r.fields w))
tells_record {test = test} r d v w b c s t =
    by_parts (test (r.fields v) (r.fields w)) (d (r.fields v) (r.fields w) b c (r.split v b s) (r.split w c t)) (λ e. sym (r.same v) ∙ ap r.of_fields e ∙ r.same w) (λ e. ap r.fields e)

-- ---- lists and options of what is held

mapped : {X V : Type 0} (f : X → V) (test : V → V → Bool) (xs ys : List X) → pointwise test (map f xs) (map f ys) ≡ pointwise (λ x y. test (f x) (f y)) xs ys
mapped f test [] [] = refl
mapped f test [] (y ∷ ys) = refl
mapped f test (x ∷ xs) [] = refl
mapped f test (x ∷ xs) (y ∷ ys) = ap (λ r. test (f x) (f y) && r) (mapped f test xs ys)

mapped_option : {X V : Type 0} (f : X → V) (test : V → V → Bool) (a b : Option X) → option_eq test (option_map f a) (option_map f b) ≡ option_eq (λ x y. test (f x) (f y)) a b
mapped_option f test None None = refl
mapped_option f test None (Some y) = refl
mapped_option f test (Some x) None = refl
mapped_option f test (Some x) (Some y) = refl

-- a list of what is held is the same where each item is seen as the same
tells_list : {X V : Type 0} {S : V → List ℕ → Type 0} {test : V → V → Bool} (view : X → V) (same : X → X → Bool) → ((x y : X) → test (view x) (view y) ≡ same x y) → Tells S test
    → (xs ys : List X) (b c : List ℕ) → Items S (map view xs) b → Items S (map view ys) c → Decides (pointwise same xs ys) (map view xs ≡ map view ys)
tells_list {X} {test = test} view same alike d xs ys b c s t =
    subst (λ r. Decides r (map view xs ≡ map view ys)) (mapped view test xs ys ∙ ap (λ (f : X → X → Bool). pointwise f xs ys) (λ i. λ x y. alike x y i))
    (tells_items d (map view xs) (map view ys) b c s t)

-- ---- what a service says

abbrev octets_of : (q : Option ServiceProduction) → Said q → List ℕ
octets_of None said = said
octets_of (Some p) said = []

production_set : IsSet (Option ServiceProduction)
production_set = hlevel ⊎_set

-- two services of one production that are the same say the same
said_is : (k l : Kind) (c d : ℕ) (p : ServiceProduction) (v w : SaidBy p) → typed k c p v ≡ typed l d p w → v ≡ w
said_is k l c d p v w e =
    let same : Some p ≡ Some p → SaidBy p → SaidBy p = λ h s. subst Said h s in
    let kept : (h : Some p ≡ Some p) → same h v ≡ v = λ h. ap (λ h. same h v) (production_set (Some p) (Some p) h refl) ∙ subst_refl Said {x = Some p} v in
    sym (kept refl)
    ∙ subst (λ (x : ServiceValue). (h : x.production ≡ Some p) → same refl v ≡ subst Said h x.said) e (λ h. subst_refl Said {x = Some p} v ∙ sym (kept h)) refl
    ∙ subst_refl Said {x = Some p} w

typed_tells : (k : Kind) (c : ℕ) (p : ServiceProduction) (v w : SaidBy p) (r : Bool) → Decides r (v ≡ w) → Decides r (typed k c p v ≡ typed k c p w)
typed_tells k c p v w r d = by_parts r d (λ h. ap (typed k c p) h) (said_is k k c c p v w)

abbrev production_number : Option ServiceProduction → ℕ
production_number None = 0
production_number (Some read_property) = 1
production_number (Some read_property_ack) = 2
production_number (Some read_property_multiple) = 3
production_number (Some read_property_multiple_ack) = 4
production_number (Some write_property) = 5
production_number (Some write_property_multiple) = 6
production_number (Some write_property_multiple_error) = 7
production_number (Some who_is) = 8
production_number (Some i_am) = 9
production_number (Some subscribe_cov) = 10
production_number (Some cov_notification) = 11
production_number (Some service_error) = 12

-- two services whose productions have different numbers are not the same: the numbers are compared, since a search for
-- each pair of productions takes long
other_productions : {P : Type 0} (v w : ServiceValue) → nat_eq (production_number v.production) (production_number w.production) ≡ false → v ≡ w → P
other_productions v w differ e =
    let same : production_number v.production ≡ production_number w.production = ap (λ (z : ServiceValue). production_number z.production) e in
    never (sym differ ∙ (unsigned_Decides _ _).1 same)

confirmed_tells : (x y : Bool) → notification_choice x ≡ notification_choice y → x ≡ y
confirmed_tells true true e = refl
confirmed_tells false false e = refl
confirmed_tells true false e = absurd (cc e)
confirmed_tells false true e = absurd (cc e)

kind_tells : (a b : Kind) → kind_number a ≡ kind_number b → a ≡ b
kind_tells kind.Confirmed kind.Confirmed e = refl
kind_tells kind.Unconfirmed kind.Unconfirmed e = refl
kind_tells kind.ComplexAck kind.ComplexAck e = refl
kind_tells kind.Error kind.Error e = refl
kind_tells a b e = absurd (cc e)

head_is : {X : Type 0} (x y : X) (xs ys : List X) → x ∷ xs ≡ y ∷ ys → x ≡ y
head_is x y xs ys e = cc

tail_is : {X : Type 0} (x y : X) (xs ys : List X) → x ∷ xs ≡ y ∷ ys → xs ≡ ys
tail_is x y xs ys e = cc

opaque_tells : (a b : OpaqueValue) → Decides (pointwise nat_eq (opaque_key a) (opaque_key b)) (opaque a.kind a.choice a.octets ≡ opaque b.kind b.choice b.octets)
opaque_tells a b =
    by_parts (pointwise nat_eq (opaque_key a) (opaque_key b)) (bytes_decides (opaque_key a) (opaque_key b))
    (
    λ e. let rest = tail_is _ _ _ _ e in
    let kinds : a.kind ≡ b.kind = kind_tells a.kind b.kind (head_is _ _ _ _ e) in
    let choices : a.choice ≡ b.choice = head_is _ _ _ _ rest in
    let octets : a.octets ≡ b.octets = tail_is _ _ _ _ rest in
    λ i. opaque (kinds i) (choices i) (octets i)
    )
    (λ h. ap (λ (x : ServiceValue). kind_number x.kind ∷ x.choice ∷ octets_of x.production x.said) h)

-- ---- services that are spelled

module _ (open_only : (number : ℕ) (v : Elements) (b : List ℕ) → SpellsOpen 32 number v b → AreElements v) where
  tells_open : (number : ℕ) → Tells (SpellsOpen 32 number) same_values
  tells_open number v w b c s t = same_values_tell v w (open_only number v b s) (open_only number w c t)

  abbrev property_value_fields : IsRecordOf (Joined (EnumeratedField 0) (Joined (Optional (UnsignedField 1)) (Joined (SpellsOpen 32 2) (Optional (PriorityField 3))))) (SpellsPropertyValue 32)
  property_value_fields = record {
    fields = λ v. (v.property, (v.index, (v.value, v.priority)));
    of_fields = λ p. record { property = p.0; index = p.1.0; value = p.1.1.0; priority = p.1.1.1 };
    same = λ v. refl;
    split = λ v b s. s;
    joined = λ p b s. s;
  }

  tells_property_value : Tells (SpellsPropertyValue 32) same_property_value
  tells_property_value = tells_record property_value_fields (tells_joined (tells_plain _ unsigned_Decides) (tells_joined (tells_optional (tells_plain _ unsigned_Decides)) (tells_joined (tells_open 2) (tells_optional (tells_plain _ unsigned_Decides)))))

  tells_read_result : Tells (SpellsReadResult 32) same_read_result
  tells_read_result (Value v) (Value w) b c s t = by_parts (same_values v w) (tells_open 4 v w b c s t) (λ e. ap Value e) (λ e. cc)
  tells_read_result (Error v) (Error w) b c s t = by_parts (same_cause v w) (causes v w) (λ e. ap Error e) (λ e. cc)
  tells_read_result (Value v) (Error w) b c s t = (λ h. absurd (cc h), λ e. absurd (cc e))
  tells_read_result (Error v) (Value w) b c s t = (λ h. absurd (cc h), λ e. absurd (cc e))

  abbrev property_result_fields : IsRecordOf (Joined (EnumeratedField 2) (Joined (Optional (UnsignedField 3)) (SpellsReadResult 32))) (SpellsPropertyResult 32)
  property_result_fields = record {
    fields = λ r. (r.property, (r.index, r.result));
    of_fields = λ p. record { property = p.0; index = p.1.0; result = p.1.1 };
    same = λ r. refl;
    split = λ r b s. s;
    joined = λ p b s. s;
  }

  tells_property_result : Tells (SpellsPropertyResult 32) same_property_result
  tells_property_result = tells_record property_result_fields (tells_joined (tells_plain _ unsigned_Decides) (tells_joined (tells_optional (tells_plain _ unsigned_Decides)) tells_read_result))

  tells_read_property_ack : Tells (SpellsReadPropertyAck 32) (λ v w. same_service (held.ReadPropertyAck v) (held.ReadPropertyAck w))
  unfolding read_property_ack_parts
  tells_read_property_ack = tells_record (read_property_ack_parts 32) (tells_joined (tells_plain _ object_parts) (tells_open 3))

  tells_write_property : Tells (SpellsWriteProperty 32) (λ v w. same_service (held.WriteProperty v) (held.WriteProperty w))
  unfolding write_property_parts
  tells_write_property = tells_record (write_property_parts 32) (tells_joined (tells_plain _ object_parts) (tells_joined (tells_open 3) (tells_optional (tells_plain _ unsigned_Decides))))

  abbrev specification_test : Specification → Specification → Bool
  specification_test v w = same_object v.object w.object && pointwise same_reference v.properties w.properties

  tells_specification : Tells SpellsSpecification specification_test
  unfolding specification_parts
  tells_specification = tells_record specification_parts (tells_joined (tells_plain _ objects) (tells_grouped 1 (tells_items (tells_plain _ references))))

  abbrev access_result_test : AccessResult → AccessResult → Bool
  access_result_test v w = same_object v.object w.object && option_eq (pointwise same_property_result) v.results w.results

  tells_access_result : Tells (SpellsAccessResult 32) access_result_test
  unfolding access_result_parts
  tells_access_result = tells_record (access_result_parts 32) (tells_joined (tells_plain _ objects) (tells_optional (tells_grouped 1 (tells_items tells_property_result))))

  access_result_is : (v w : ReadAccessResult) → access_result_test (access_result_of v) (access_result_of w) ≡ same_access_result v w
  access_result_is v w = ap (λ r. same_object v.object w.object && r) (mapped_option (λ results. results.items) (pointwise same_property_result) v.results w.results)

  abbrev write_specification_test : WriteSpecification → WriteSpecification → Bool
  write_specification_test v w = same_object v.object w.object && pointwise same_property_value v.values w.values

  tells_write_specification : Tells (SpellsWriteSpecification 32) write_specification_test
  unfolding write_specification_parts
  tells_write_specification = tells_record (write_specification_parts 32) (tells_joined (tells_plain _ objects) (tells_grouped 1 (tells_items tells_property_value)))

  tells_notification : Tells (SpellsNotification 32) (λ v w. (nat_eq v.process w.process && (same_object v.device w.device && same_object v.object w.object)) && (nat_eq v.remaining w.remaining && pointwise same_property_value v.values w.values))
  unfolding notification_parts
  tells_notification =
      tells_record (notification_parts 32)
      (tells_joined (tells_joined (tells_plain _ unsigned_Decides) (tells_joined (tells_plain _ objects) (tells_plain _ objects))) (tells_joined (tells_plain _ unsigned_Decides) (tells_grouped 4 (tells_items tells_property_value))))

  tells_cov : (v w : CovNotification) (s t : List ℕ) → SpellsNotification 32 (notification_of v) s → SpellsNotification 32 (notification_of w) t
      → Decides (same_notification v w) (value_of (held.CovNotification v) ≡ value_of (held.CovNotification w))
  tells_cov v w s t x y =
      by_parts (same_notification v w) (both (beq v.confirmed w.confirmed) _ (booleans_Decides v.confirmed w.confirmed) (tells_notification (notification_of v) (notification_of w) s t x y))
      (λ e. λ i. typed (notification_kind (e.0 i)) (notification_choice (e.0 i)) cov_notification (e.1 i))
      (λ h. (confirmed_tells v.confirmed w.confirmed (ap (λ (z : ServiceValue). z.choice) h), said_is _ _ _ _ cov_notification _ _ h))

  tells_error : (v w : ErrorValue) → Decides (nat_eq v.choice w.choice && same_cause v.cause w.cause) (typed kind.Error v.choice service_error v.cause ≡ typed kind.Error w.choice service_error w.cause)
  tells_error v w =
      by_parts (nat_eq v.choice w.choice && same_cause v.cause w.cause) (both (nat_eq v.choice w.choice) (same_cause v.cause w.cause) (unsigned_Decides v.choice w.choice) (causes v.cause w.cause))
      (λ e. λ i. typed kind.Error (e.0 i) service_error (e.1 i))
      (λ h. (ap (λ (z : ServiceValue). z.choice) h, said_is _ _ _ _ service_error _ _ h))

  pub services_tell : (a b : Service) (k l : Kind) (c d : ℕ) (s t : List ℕ) → SpellsService true 32 k c (value_of a) s → SpellsService true 32 l d (value_of b) t → Decides (same_service a b) (value_of a ≡ value_of b)
  services_tell (held.ReadProperty v) (held.ReadProperty w) k l c d s t x y = typed_tells _ _ read_property v w _ (reads v w)
  services_tell (held.ReadPropertyAck v) (held.ReadPropertyAck w) k l c d s t x y = typed_tells _ _ read_property_ack v w _ (tells_read_property_ack v w s t x.spelled y.spelled)
  services_tell (held.WriteProperty v) (held.WriteProperty w) k l c d s t x y = typed_tells _ _ write_property v w _ (tells_write_property v w s t x.spelled y.spelled)
  services_tell (held.ReadPropertyMultiple v) (held.ReadPropertyMultiple w) k l c d s t x y =
      typed_tells _ _ read_property_multiple _ _ _ (tells_list specification_of same_specification (λ p q. refl) tells_specification v.specs.items w.specs.items s t x.spelled y.spelled)
  services_tell (held.ReadPropertyMultipleAck v) (held.ReadPropertyMultipleAck w) k l c d s t x y =
      typed_tells _ _ read_property_multiple_ack _ _ _ (tells_list access_result_of same_access_result access_result_is tells_access_result v.results.items w.results.items s t x.spelled y.spelled)
  services_tell (held.WritePropertyMultiple v) (held.WritePropertyMultiple w) k l c d s t x y =
      typed_tells _ _ write_property_multiple _ _ _ (tells_list write_specification_of same_write_specification (λ p q. refl) tells_write_specification v.specs.items w.specs.items s t x.spelled y.spelled)
  services_tell (held.WhoIs v) (held.WhoIs w) k l c d s t x y = typed_tells _ _ who_is v w _ (who_ises v w)
  services_tell (held.IAm v) (held.IAm w) k l c d s t x y = typed_tells _ _ i_am v w _ (i_ams v w)
  services_tell (held.SubscribeCov v) (held.SubscribeCov w) k l c d s t x y = typed_tells _ _ subscribe_cov v w _ (subscriptions v w)
  services_tell (held.CovNotification v) (held.CovNotification w) k l c d s t x y = tells_cov v w s t x.spelled y.spelled
  services_tell (held.ServiceError v) (held.ServiceError w) k l c d s t x y = tells_error v w
  services_tell (held.WritePropertyMultipleError v) (held.WritePropertyMultipleError w) k l c d s t x y = typed_tells _ _ write_property_multiple_error v w _ (write_errors v w)
  services_tell (held.Opaque v) (held.Opaque w) k l c d s t x y = opaque_tells v w
  services_tell a b k l c d s t x y = (λ h. never h, λ e. other_productions (value_of a) (value_of b) refl e)
