-- Services that were spelled in the former setting are spelled alike.
use Rattle.std.specs.Prelude.{◌≡◌, ◌↔◌, ℕ, true, false, cond, nat_eq, Option, None, Some, IsNone, List, [], ◌∷◌, ◌++◌}
use Rattle.std.specs.Map.{lookup}
use Rattle.std.proofs.Common.{◌∙◌, ap, arith}
use Rattle.bac_tag.specs.Spelling.{Joined}
use Rattle.bac_data.specs.Spells.{SpellsOpen}
use Rattle.bac_productions.specs.Contents.{ObjectField, EnumeratedField, UnsignedField, PriorityField}
use Rattle.bac_productions.specs.Productions.{Optional, Items, Grouped}
use Rattle.bac_service.specs.declared.kind.Kind.{Kind}
use Rattle.bac_service.specs.declared.service.read_property_ack.ReadPropertyAck.{ReadPropertyAck}
use Rattle.bac_service.specs.declared.service.write_property.WriteProperty.{WriteProperty}
use Rattle.bac_service.specs.declared.service.property_value.PropertyValue.{PropertyValue}
use Rattle.bac_service.specs.declared.service.property_result.ReadResult.{ReadResult}
use Rattle.bac_service.specs.declared.service.property_result.ReadResult.TheVariants as result
use Rattle.bac_service.specs.declared.service.property_result.PropertyResult.{PropertyResult}
use Rattle.bac_service.specs.ObjectProperty.{SpellsObjectProperty}
use Rattle.bac_service.specs.ReadPropertyAck.{SpellsReadPropertyAck}
use Rattle.bac_service.specs.WriteProperty.{SpellsWriteProperty}
use Rattle.bac_service.specs.PropertyValue.{SpellsPropertyValue}
use Rattle.bac_service.specs.PropertyResult.{SpellsReadResult, SpellsPropertyResult}
use Rattle.bac_service.specs.ReadAccessResult.{AccessResult, SpellsAccessResult}
use Rattle.bac_service.specs.WriteAccessSpecification.{WriteSpecification, SpellsWriteSpecification}
use Rattle.bac_service.specs.CovNotification.{Notification, SpellsNotification}
use Rattle.bac_service.specs.ServiceTable.{ServiceProduction, read_property_ack, read_property_multiple_ack, write_property, write_property_multiple, cov_notification, former_rows, later_rows, production_of, IsUnchanged}
use Rattle.bac_service.specs.Services.{ServiceValue, SpellsBy, SpellsSaid, SpellsService}
use Rattle.bac_service.specs.Laws.Service.{no_row}

-- ---- the parts

-- what the first spells the second does too, and of such a value it spells no other list
record Widens {V : Type 0} (S T : V → List ℕ → Type 0) : Type 0 where
  wider : (v : V) (b : List ℕ) → S v b → T v b
  back : (v : V) (b c : List ℕ) → S v b → T v c → S v c

same : {V : Type 0} (S : V → List ℕ → Type 0) → Widens S S
same S = record { wider = λ v b s. s; back = λ v b c s t. t }

both : {V W : Type 0} {S S' : V → List ℕ → Type 0} {T T' : W → List ℕ → Type 0} → Widens S S' → Widens T T' → Widens (Joined S T) (Joined S' T')
both {V} {W} {S} {S'} {T} {T'} f g = record {
  wider = λ p b j. record { front = j.front; back = j.back; first = f.wider p.0 j.front j.first; second = g.wider p.1 j.back j.second; octets = j.octets };
  back = λ p b c j k. record { front = k.front; back = k.back; first = f.back p.0 j.front k.front j.first k.first; second = g.back p.1 j.back k.back j.second k.second; octets = k.octets };
}

items : {V : Type 0} {S T : V → List ℕ → Type 0} → Widens S T → Widens (Items S) (Items T)
items {V} {S} {T} f = record { wider = wider_items; back = back_items }
  where
    wider_items : (vs : List V) (b : List ℕ) → Items S vs b → Items T vs b
    wider_items [] b s = s
    wider_items (v ∷ vs) b j = record { front = j.front; back = j.back; first = f.wider v j.front j.first; second = wider_items vs j.back j.second; octets = j.octets }

    back_items : (vs : List V) (b c : List ℕ) → Items S vs b → Items T vs c → Items S vs c
    back_items [] b c s t = t
    back_items (v ∷ vs) b c j k = record { front = k.front; back = k.back; first = f.back v j.front k.front j.first k.first; second = back_items vs j.back k.back j.second k.second; octets = k.octets }

optional : {V : Type 0} {S T : V → List ℕ → Type 0} → Widens S T → Widens (Optional S) (Optional T)
optional {V} {S} {T} f = record { wider = wider_part; back = back_part }
  where
    wider_part : (o : Option V) (b : List ℕ) → Optional S o b → Optional T o b
    wider_part None b s = s
    wider_part (Some v) b s = f.wider v b s

    back_part : (o : Option V) (b c : List ℕ) → Optional S o b → Optional T o c → Optional S o c
    back_part None b c s t = t
    back_part (Some v) b c s t = f.back v b c s t

grouped : {V : Type 0} {S T : V → List ℕ → Type 0} (number : ℕ) → Widens S T → Widens (Grouped number S) (Grouped number T)
grouped {V} {S} {T} number f = record {
  wider = λ v b j. let i = j.second in record { front = j.front; back = j.back; first = j.first; second = record { front = i.front; back = i.back; first = f.wider v i.front i.first; second = i.second; octets = i.octets }; octets = j.octets };
  back = λ v b c j k. let i = k.second in record { front = k.front; back = k.back; first = k.first; second = record { front = i.front; back = i.back; first = f.back v j.second.front i.front j.second.first i.first; second = i.second; octets = i.octets }; octets = k.octets };
}

open_value : (number : ℕ) → Widens (SpellsOpen 16 number) (SpellsOpen 32 number)
open_value number = record {
  wider = λ v b s. record { enclosed = s.enclosed; nested = omega (arith, s.nested) };
  back = λ v b c s t. record { enclosed = t.enclosed; nested = s.nested };
}

-- a value by its fields
by_fields : {V W : Type 0} {S T : W → List ℕ → Type 0} (fields : V → W) → Widens S T → Widens (λ (v : V). S (fields v)) (λ (v : V). T (fields v))
by_fields fields f = record { wider = λ v. f.wider (fields v); back = λ v. f.back (fields v) }

-- ---- the productions

ack : Widens (SpellsReadPropertyAck 16) (SpellsReadPropertyAck 32)
ack = by_fields (λ (a : ReadPropertyAck). ((a.object, (a.property, a.index)), a.value)) (both (same SpellsObjectProperty) (open_value 3))

write_parts : Widens (Joined SpellsObjectProperty (Joined (SpellsOpen 16 3) (Optional (PriorityField 4)))) (Joined SpellsObjectProperty (Joined (SpellsOpen 32 3) (Optional (PriorityField 4))))
write_parts = both (same SpellsObjectProperty) (both (open_value 3) (same (Optional (PriorityField 4))))

write : Widens (SpellsWriteProperty 16) (SpellsWriteProperty 32)
write = by_fields (λ (r : WriteProperty). ((r.object, (r.property, r.index)), (r.value, r.priority))) write_parts

value_parts : Widens (Joined (EnumeratedField 0) (Joined (Optional (UnsignedField 1)) (Joined (SpellsOpen 16 2) (Optional (PriorityField 3))))) (Joined (EnumeratedField 0) (Joined (Optional (UnsignedField 1)) (Joined (SpellsOpen 32 2) (Optional (PriorityField 3)))))
value_parts = both (same (EnumeratedField 0)) (both (same (Optional (UnsignedField 1))) (both (open_value 2) (same (Optional (PriorityField 3)))))

property_value : Widens (SpellsPropertyValue 16) (SpellsPropertyValue 32)
property_value = by_fields (λ (v : PropertyValue). (v.property, (v.index, (v.value, v.priority)))) value_parts

read_result : Widens (SpellsReadResult 16) (SpellsReadResult 32)
read_result = record { wider = wider_result; back = back_result }
  where
    wider_result : (r : ReadResult) (b : List ℕ) → SpellsReadResult 16 r b → SpellsReadResult 32 r b
    wider_result (result.Value value) b s = (open_value 4).wider value b s
    wider_result (result.Error cause) b s = s

    back_result : (r : ReadResult) (b c : List ℕ) → SpellsReadResult 16 r b → SpellsReadResult 32 r c → SpellsReadResult 16 r c
    back_result (result.Value value) b c s t = (open_value 4).back value b c s t
    back_result (result.Error cause) b c s t = t

result_parts : Widens (Joined (EnumeratedField 2) (Joined (Optional (UnsignedField 3)) (SpellsReadResult 16))) (Joined (EnumeratedField 2) (Joined (Optional (UnsignedField 3)) (SpellsReadResult 32)))
result_parts = both (same (EnumeratedField 2)) (both (same (Optional (UnsignedField 3))) read_result)

property_result : Widens (SpellsPropertyResult 16) (SpellsPropertyResult 32)
property_result = by_fields (λ (r : PropertyResult). (r.property, (r.index, r.result))) result_parts

access_result_parts : Widens (Joined (ObjectField 0) (Optional (Grouped 1 (Items (SpellsPropertyResult 16))))) (Joined (ObjectField 0) (Optional (Grouped 1 (Items (SpellsPropertyResult 32)))))
access_result_parts = both (same (ObjectField 0)) (optional (grouped 1 (items property_result)))

access_result : Widens (SpellsAccessResult 16) (SpellsAccessResult 32)
access_result = by_fields (λ (r : AccessResult). (r.object, r.results)) access_result_parts

specification_parts : Widens (Joined (ObjectField 0) (Grouped 1 (Items (SpellsPropertyValue 16)))) (Joined (ObjectField 0) (Grouped 1 (Items (SpellsPropertyValue 32))))
specification_parts = both (same (ObjectField 0)) (grouped 1 (items property_value))

write_specification : Widens (SpellsWriteSpecification 16) (SpellsWriteSpecification 32)
write_specification = by_fields (λ (s : WriteSpecification). (s.object, s.values)) specification_parts

notification_parts : Widens (Joined (Joined (UnsignedField 0) (Joined (ObjectField 1) (ObjectField 2))) (Joined (UnsignedField 3) (Grouped 4 (Items (SpellsPropertyValue 16)))))
    (Joined (Joined (UnsignedField 0) (Joined (ObjectField 1) (ObjectField 2))) (Joined (UnsignedField 3) (Grouped 4 (Items (SpellsPropertyValue 32)))))
notification_parts = both (same (Joined (UnsignedField 0) (Joined (ObjectField 1) (ObjectField 2)))) (both (same (UnsignedField 3)) (grouped 4 (items property_value)))

notification : Widens (SpellsNotification 16) (SpellsNotification 32)
notification = by_fields (λ (n : Notification). ((n.process, (n.device, n.object)), (n.remaining, n.values))) notification_parts

-- ---- services

-- where nothing is said, the production has no open value
by : (p : ServiceProduction) → Widens (SpellsBy 16 p) (SpellsBy 32 p)
by read_property_ack = ack
by read_property_multiple_ack = items access_result
by write_property = write
by write_property_multiple = items write_specification
by cov_notification = notification
by p = same (SpellsBy 16 p)

said : (p : Option ServiceProduction) → Widens (SpellsSaid 16 p) (SpellsSaid 32 p)
said (Some p) = record { wider = (by p).wider; back = (by p).back }
said None = record { wider = λ v b s. s; back = λ v b c s t. t }

-- a choice without a row behind is found in front or nowhere
found_in_front : (choice : ℕ) (front behind : List (ℕ × ServiceProduction)) → IsNone (lookup (λ c. nat_eq c choice) behind)
    → lookup (λ c. nat_eq c choice) front ≡ lookup (λ c. nat_eq c choice) (front ++ behind)
found_in_front choice [] behind none = no_row (lookup (λ c. nat_eq c choice) behind) none
found_in_front choice (row ∷ front) behind none = ap (λ r. cond (nat_eq row.0 choice) (Some row.1) r) (found_in_front choice front behind none)

same_production : (kind : Kind) (choice : ℕ) → IsUnchanged kind choice → production_of false kind choice ≡ production_of true kind choice
same_production kind choice other = found_in_front choice (former_rows kind) (later_rows kind) other

former_spelled : (kind : Kind) (choice : ℕ) (v : ServiceValue) (b : List ℕ) → IsUnchanged kind choice → SpellsService false 16 kind choice v b → SpellsService true 32 kind choice v b
former_spelled kind choice v b other s = record {
  kind_is = s.kind_is;
  choice_is = s.choice_is;
  choice_fits = s.choice_fits;
  production_is = s.production_is ∙ same_production kind choice other;
  spelled = (said v.production).wider v.said b s.spelled;
}

former_back : (kind : Kind) (choice : ℕ) (v : ServiceValue) (b c : List ℕ) → SpellsService false 16 kind choice v b → SpellsService true 32 kind choice v c → SpellsService false 16 kind choice v c
former_back kind choice v b c s t = record {
  kind_is = t.kind_is;
  choice_is = t.choice_is;
  choice_fits = t.choice_fits;
  production_is = s.production_is;
  spelled = (said v.production).back v.said b c s.spelled t.spelled;
}

pub former_same : (kind : Kind) (choice : ℕ) (v : ServiceValue) (b c : List ℕ) → IsUnchanged kind choice → SpellsService false 16 kind choice v b → SpellsService false 16 kind choice v c ↔ SpellsService true 32 kind choice v c
former_same kind choice v b c other s = (former_spelled kind choice v c other, former_back kind choice v b c s)
