-- Notifications as their parts.
use Rattle.std.specs.Prelude.{◌≡◌, ℕ, List, [], ◌∷◌, ◌++◌, refl}
use Rattle.std.proofs.Common.{ap}
use Rattle.std.specs.List.{flat_map}
use Rattle.bac_tag.specs.Spelling.{Joined}
use Rattle.bac_tag.specs.declared.heads.TagHead.TheVariants.{Open, Close}
use Rattle.bac_value.specs.Identifier.{Identifier}
use Rattle.bac_productions.specs.Contents.{ObjectField, UnsignedField}
use Rattle.bac_productions.specs.Productions.{Head, Items}
use Rattle.bac_service.specs.CovNotification.{Notification, SpellsNotification}
use Rattle.bac_service.specs.PropertyValue.{SpellsPropertyValue}
use Rattle.bac_service.specs.declared.kind.Kind.{Kind}
use Rattle.bac_service.specs.declared.kind.Kind.TheVariants.{Confirmed, Unconfirmed}
use Rattle.bac_service.specs.declared.service.property_value.PropertyValue.{PropertyValue}
use Rattle.bac_field_parts.specs.declared.names.Name.TheVariants as name
use Rattle.bac_fields.specs.CovNotificationFields.{notification_steps}
use Rattle.bac_field_parts.specs.Fields.{next, item_steps, closing_field}
use Rattle.bac_field_parts.specs.PrimitiveFields.{object_number}
use Rattle.bac_fields.specs.PropertyFields.{property_value_steps}
use Rattle.bac_field_parts.specs.Symbols.{Symbol, finished, IsMessage, the_octet, the_number, no_octets, number_said, end_said, steps_said}
use Rattle.bac_field_parts.specs.Laws.Messages.{last_part, second_alike, then_alike, grouped_first}
use Rattle.bac_fields.specs.Laws.ServiceMessages.{SpellsChosen, items_told, value_said}

-- the values, between their tags
abbrev pub ValuesParts : Type 0
ValuesParts = Unit {0} × (List PropertyValue × Unit {0})

abbrev pub values_said : ValuesParts → List Symbol
values_said w = number_said 113 (the_number 0) w.0 ++ (flat_map value_said w.1.0 ++ number_said 114 (the_number 0) w.1.1)

abbrev pub SpellsValues : ValuesParts → List ℕ → Type 0
SpellsValues = Joined (Head (Open 4)) (Joined (Items (SpellsPropertyValue 32)) (Head (Close 4)))

abbrev pub NotificationParts : Type 0
NotificationParts = Unit {0} × (ℕ × (Identifier × (Identifier × (ℕ × (ValuesParts × Unit {0})))))

abbrev pub notification_said : Kind → Notification → List Symbol
notification_said kind n = steps_said (notification_steps kind n) ++ finished ∷ []

abbrev pub notification_parts_said : ℕ → ℕ → NotificationParts → List Symbol
notification_parts_said name choice w =
    number_said name (the_number choice) w.0 ++ (number_said 84 (λ n. n) w.1.0 ++ (number_said 85 object_number w.1.1.0 ++ (number_said 80 object_number w.1.1.1.0
    ++ (number_said 88 (λ n. n) w.1.1.1.1.0 ++ (values_said w.1.1.1.1.1.0 ++ end_said w.1.1.1.1.1.1)))))

abbrev pub SpellsNotificationParts : ℕ → NotificationParts → List ℕ → Type 0
SpellsNotificationParts choice =
    Joined (the_octet choice) (Joined (UnsignedField 0) (Joined (ObjectField 1) (Joined (ObjectField 2) (Joined (UnsignedField 3) (Joined SpellsValues no_octets)))))

-- what is after the last number
values_told : (kind choice process remaining : ℕ) (device object : Identifier) (values : List PropertyValue)
    → number_said kind (the_number choice) tt ++ (number_said 84 (λ n. n) process ++ (number_said 85 object_number device ++ (number_said 80 object_number object ++ (number_said 88 (λ n. n) remaining
    ++ (number_said 113 (the_number 0) tt ++ (steps_said (flat_map (item_steps property_value_steps) values ++ next (closing_field name.ListEnd 4 0) ∷ []) ++ finished ∷ []))))))
    ≡ notification_parts_said kind choice (tt, (process, (device, (object, (remaining, ((tt, (values, tt)), tt))))))
values_told kind choice process remaining device object values =
    ap (λ (l : List Symbol). number_said kind (the_number choice) tt ++ (number_said 84 (λ n. n) process ++ (number_said 85 object_number device ++ (number_said 80 object_number object ++ (number_said 88 (λ n. n) remaining ++ (number_said 113 (the_number 0) tt ++ (l ++ finished ∷ [])))))))
    (items_told property_value_steps values (next (closing_field name.ListEnd 4 0) ∷ []))

pub confirmed_message : IsMessage (notification_said Confirmed) (notification_parts_said 67 1) (λ n. SpellsChosen 1 (SpellsNotification 32 n)) (SpellsNotificationParts 1)
confirmed_message = record {
  of_parts = λ w. record { process = w.1.0; device = w.1.1.0; object = w.1.1.1.0; remaining = w.1.1.1.1.0; values = w.1.1.1.1.1.0.1.0 };
  parts_of = λ n b spelled. ((tt, (n.process, (n.device, (n.object, (n.remaining, ((tt, (n.values, tt)), tt)))))), refl);
  said = λ w. values_told 67 1 w.1.0 w.1.1.1.1.0 w.1.1.0 w.1.1.1.0 w.1.1.1.1.1.0.1.0;
  spelled = λ w. second_alike (then_alike (second_alike (second_alike (second_alike (second_alike last_part)))) (then_alike (second_alike grouped_first) grouped_first));
}

pub unconfirmed_message : IsMessage (notification_said Unconfirmed) (notification_parts_said 68 2) (λ n. SpellsChosen 2 (SpellsNotification 32 n)) (SpellsNotificationParts 2)
unconfirmed_message = record {
  of_parts = λ w. record { process = w.1.0; device = w.1.1.0; object = w.1.1.1.0; remaining = w.1.1.1.1.0; values = w.1.1.1.1.1.0.1.0 };
  parts_of = λ n b spelled. ((tt, (n.process, (n.device, (n.object, (n.remaining, ((tt, (n.values, tt)), tt)))))), refl);
  said = λ w. values_told 68 2 w.1.0 w.1.1.1.1.0 w.1.1.0 w.1.1.1.0 w.1.1.1.1.1.0.1.0;
  spelled = λ w. second_alike (then_alike (second_alike (second_alike (second_alike (second_alike last_part)))) (then_alike (second_alike grouped_first) grouped_first));
}
