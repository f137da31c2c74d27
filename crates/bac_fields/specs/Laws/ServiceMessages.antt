-- Services as their parts.
use Rattle.std.specs.Prelude.{◌≡◌, ℕ, Option, None, Some, List, [], ◌∷◌, ◌++◌, refl, ◌⊎◌, Bool}
use Rattle.std.specs.Option.{option_map_or, option_map}
use Rattle.bac_tag.specs.Spelling.{Joined, Joins, OneOf}
use Rattle.bac_productions.specs.Productions.{Optional, Head, Items, Grouped}
use Rattle.bac_productions.specs.Contents.{ObjectField, UnsignedField, EnumeratedPart, of_number, PriorityField, InstanceField, ApplicationObject, ApplicationUnsigned, ApplicationUnsigned16, ApplicationEnumeratedPart}
use Rattle.bac_service.specs.declared.service.read_property.ReadProperty.{ReadProperty}
use Rattle.bac_value.specs.Identifier.{Identifier}
use Rattle.bac_service.specs.ReadProperty.{SpellsReadProperty}
use Rattle.bac_value.specs.declared.types.enumeration.Enumerated.{Enumerated}
use Rattle.bac_field_parts.specs.declared.names.Name.TheVariants as name
use Rattle.bac_field_parts.specs.PrimitiveFields.{object_number, truth, number_under}
use Rattle.bac_fields.specs.ReadPropertyFields.{read_property_steps, read_property_ack_steps}
use Rattle.bac_field_parts.specs.Symbols.{Symbol, finished, IsMessage, the_octet, the_number, no_number, no_octets, number_said, end_said, steps_said, field_said}
use Rattle.bac_field_parts.specs.Fields.{Step, next, aside, pass, held_field, word, item_steps, closing_field}
use Rattle.std.proofs.Common.{ap, sym, ◌∙◌, append_assoc, inl, inr}
use Rattle.std.specs.List.{flat_map}
use Rattle.bac_tag.specs.declared.heads.TagHead.TheVariants.{Open, Close}
use Rattle.bac_service.specs.ReadAccessSpecification.{Specification, SpellsSpecification}
use Rattle.bac_service.specs.declared.service.property_reference.PropertyReference.{PropertyReference}
use Rattle.bac_service.specs.PropertyReference.{SpellsPropertyReference}
use Rattle.bac_service.specs.declared.service.property_value.PropertyValue.{PropertyValue}
use Rattle.bac_service.specs.PropertyValue.{SpellsPropertyValue}
use Rattle.bac_service.specs.WriteAccessSpecification.{WriteSpecification, SpellsWriteSpecification}
use Rattle.bac_fields.specs.WritePropertyMultipleFields.{write_specification_steps, write_multiple_steps}
use Rattle.bac_service.specs.declared.service.error_cause.ErrorCause.{ErrorCause}
use Rattle.bac_service.specs.ErrorCause.{SpellsErrorCause}
use Rattle.bac_service.specs.declared.service.property_result.ReadResult.{ReadResult}
use Rattle.bac_service.specs.declared.service.property_result.ReadResult.TheVariants.{Value, Error}
use Rattle.bac_service.specs.declared.service.property_result.PropertyResult.{PropertyResult}
use Rattle.bac_service.specs.PropertyResult.{SpellsReadResult, SpellsPropertyResult}
use Rattle.bac_service.specs.ReadAccessResult.{AccessResult, SpellsAccessResult}
use Rattle.bac_field_parts.specs.Laws.Parts.{either_said}
use Rattle.bac_fields.specs.PropertyFields.{reference_steps, property_value_steps, property_result_steps, error_steps}
use Rattle.bac_fields.specs.ReadPropertyMultipleFields.{specification_steps, read_multiple_steps, access_result_steps, read_multiple_ack_steps}
use Rattle.bac_value.specs.declared.types.boolean_value.Boolean.{Boolean as BooleanType}
use Rattle.bac_service.specs.Laws.SubscribeCov.{BitField, bit_of, boolean_of, subscribe_cov_of, subscribe_cov_alike}
use Rattle.bac_field_parts.specs.Laws.Messages.{Alike, first_part, last_part, second_alike, then_alike, grouped_first}
use Rattle.bac_data.specs.OpenValue.{Elements}
use Rattle.bac_data.specs.Spells.{SpellsOpen}
use Rattle.bac_service.specs.declared.service.read_property_ack.ReadPropertyAck.{ReadPropertyAck}
use Rattle.bac_service.specs.declared.service.write_property.WriteProperty.{WriteProperty}
use Rattle.bac_service.specs.declared.service.subscribe_cov.SubscribeCov.{SubscribeCov}
use Rattle.bac_service.specs.declared.service.who_is.WhoIs.{WhoIs}
use Rattle.bac_service.specs.declared.service.i_am.IAm.{IAm}
use Rattle.bac_service.specs.ReadPropertyAck.{SpellsReadPropertyAck}
use Rattle.bac_service.specs.WriteProperty.{SpellsWriteProperty}
use Rattle.bac_service.specs.SubscribeCov.{SpellsSubscribeCov}
use Rattle.bac_service.specs.WhoIs.{SpellsWhoIs}
use Rattle.bac_service.specs.IAm.{SpellsIAm}
use Rattle.bac_field_parts.specs.OpenValueFields.{open_steps}
use Rattle.bac_fields.specs.WritePropertyFields.{write_property_steps}
use Rattle.bac_fields.specs.SubscribeCovFields.{subscribe_cov_steps}
use Rattle.bac_fields.specs.WhoIsFields.{who_is_steps}
use Rattle.bac_fields.specs.IAmFields.{i_am_steps}

abbrev pub ReadPropertyParts : Type 0
ReadPropertyParts = Unit {0} × (Identifier × (Enumerated × (Option ℕ × Unit {0})))

abbrev pub read_property_said : ReadProperty → List Symbol
read_property_said request = steps_said (read_property_steps request) ++ finished ∷ []

abbrev pub SpellsChosen : ℕ → (List ℕ → Type 0) → List ℕ → Type 0
SpellsChosen choice = Joins (the_octet choice tt)

abbrev pub read_property_parts_said : ReadPropertyParts → List Symbol
read_property_parts_said w =
    number_said 60 (the_number 12) w.0 ++ (number_said 80 object_number w.1.0 ++ (number_said 81 (λ (e : Enumerated). e.0) w.1.1.0 ++ (option_map_or (number_said 82 (λ n. n)) w.1.1.1.0 [] ++ end_said w.1.1.1.1)))

abbrev pub SpellsReadPropertyParts : ReadPropertyParts → List ℕ → Type 0
SpellsReadPropertyParts = Joined (the_octet 12) (Joined (ObjectField 0) (Joined (EnumeratedPart 1) (Joined (Optional (UnsignedField 2)) no_octets)))

pub read_property_message : IsMessage read_property_said read_property_parts_said (λ request. SpellsChosen 12 (SpellsReadProperty request)) SpellsReadPropertyParts
read_property_message = record {
  of_parts = λ w. record { object = w.1.0; property = w.1.1.0.0; index = w.1.1.1.0 };
  parts_of = λ r b spelled. ((tt, (r.object, (of_number r.property, (r.index, tt)))), refl);
  said = λ w. said w.1.0 w.1.1.0 w.1.1.1.0;
  spelled = λ w. second_alike (second_alike (second_alike last_part));
}
  where
    said : (object : Identifier) (property : Enumerated) (index : Option ℕ) → read_property_said (record { object = object; property = property.0; index = index }) ≡ read_property_parts_said (tt, (object, (property, (index, tt))))
    said object property None = refl
    said object property (Some index) = refl

-- ---- the answer to a ReadProperty

abbrev pub ReadPropertyAckParts : Type 0
ReadPropertyAckParts = Unit {0} × (Identifier × (Enumerated × (Option ℕ × (Elements × Unit {0}))))

abbrev pub read_property_ack_said : ReadPropertyAck → List Symbol
read_property_ack_said ack = steps_said (read_property_ack_steps ack) ++ finished ∷ []

abbrev pub read_property_ack_parts_said : ReadPropertyAckParts → List Symbol
read_property_ack_parts_said w =
    number_said 60 (the_number 12) w.0 ++ (number_said 80 object_number w.1.0 ++ (number_said 81 (λ (e : Enumerated). e.0) w.1.1.0
    ++ (option_map_or (number_said 82 (λ n. n)) w.1.1.1.0 [] ++ (steps_said (open_steps 3 w.1.1.1.1.0) ++ end_said w.1.1.1.1.1))))

abbrev pub SpellsReadPropertyAckParts : ReadPropertyAckParts → List ℕ → Type 0
SpellsReadPropertyAckParts = Joined (the_octet 12) (Joined (ObjectField 0) (Joined (EnumeratedPart 1) (Joined (Optional (UnsignedField 2)) (Joined (SpellsOpen 32 3) no_octets))))

pub steps_append : (a b : List Step) → steps_said (a ++ b) ≡ steps_said a ++ steps_said b
steps_append [] b = refl
steps_append (next v ∷ a) b = ap (λ (l : List Symbol). field_said v ++ l) (steps_append a b)
steps_append (aside n name number ∷ a) b = ap (λ (l : List Symbol). field_said (held_field name number) ++ l) (steps_append a b)
steps_append (pass n ∷ a) b = steps_append a b

pub read_property_ack_message : IsMessage read_property_ack_said read_property_ack_parts_said (λ ack. SpellsChosen 12 (SpellsReadPropertyAck 32 ack)) SpellsReadPropertyAckParts
read_property_ack_message = record {
  of_parts = λ w. record { object = w.1.0; property = w.1.1.0.0; index = w.1.1.1.0; value = w.1.1.1.1.0 };
  parts_of = λ a b spelled. ((tt, (a.object, (of_number a.property, (a.index, (a.value, tt))))), refl);
  said = λ w. said w.1.0 w.1.1.0 w.1.1.1.0 w.1.1.1.1.0;
  spelled = λ w. second_alike (then_alike (second_alike (then_alike (second_alike (second_alike last_part)) grouped_first)) grouped_first);
}
  where
    said : (object : Identifier) (property : Enumerated) (index : Option ℕ) (value : Elements) → read_property_ack_said (record { object = object; property = property.0; index = index; value = value }) ≡ read_property_ack_parts_said (tt, (object, (property, (index, (value, tt)))))
    said object property None value = refl
    said object property (Some index) value = refl

-- ---- WriteProperty

abbrev pub WritePropertyParts : Type 0
WritePropertyParts = Unit {0} × (Identifier × (Enumerated × (Option ℕ × (Elements × (Option ℕ × Unit {0})))))

abbrev pub write_property_said : WriteProperty → List Symbol
write_property_said request = steps_said (write_property_steps request) ++ finished ∷ []

abbrev pub write_property_parts_said : WritePropertyParts → List Symbol
write_property_parts_said w =
    number_said 62 (the_number 15) w.0 ++ (number_said 80 object_number w.1.0 ++ (number_said 81 (λ (e : Enumerated). e.0) w.1.1.0
    ++ (option_map_or (number_said 82 (λ n. n)) w.1.1.1.0 [] ++ (steps_said (open_steps 3 w.1.1.1.1.0) ++ (option_map_or (number_said 83 (λ n. n)) w.1.1.1.1.1.0 [] ++ end_said w.1.1.1.1.1.1)))))

abbrev pub SpellsWritePropertyParts : WritePropertyParts → List ℕ → Type 0
SpellsWritePropertyParts =
    Joined (the_octet 15) (Joined (ObjectField 0) (Joined (EnumeratedPart 1) (Joined (Optional (UnsignedField 2)) (Joined (SpellsOpen 32 3) (Joined (Optional (PriorityField 4)) no_octets)))))

-- the fields of a value, between others
pub open_append : (v : Elements) (a : List Step) (rest : List Symbol) → steps_said (open_steps 3 v ++ a) ++ rest ≡ steps_said (open_steps 3 v) ++ (steps_said a ++ rest)
open_append v a rest = ap (λ (l : List Symbol). l ++ rest) (steps_append (open_steps 3 v) a) ∙ append_assoc (steps_said (open_steps 3 v)) (steps_said a) rest

pub write_property_message : IsMessage write_property_said write_property_parts_said (λ request. SpellsChosen 15 (SpellsWriteProperty 32 request)) SpellsWritePropertyParts
write_property_message = record {
  of_parts = λ w. record { object = w.1.0; property = w.1.1.0.0; index = w.1.1.1.0; value = w.1.1.1.1.0; priority = w.1.1.1.1.1.0 };
  parts_of = λ r b spelled. ((tt, (r.object, (of_number r.property, (r.index, (r.value, (r.priority, tt)))))), refl);
  said = λ w. said w.1.0 w.1.1.0 w.1.1.1.0 w.1.1.1.1.0 w.1.1.1.1.1.0;
  spelled = λ w. second_alike (then_alike (second_alike (then_alike (second_alike (second_alike (second_alike last_part))) grouped_first)) grouped_first);
}
  where
    said : (object : Identifier) (property : Enumerated) (index : Option ℕ) (value : Elements) (priority : Option ℕ)
        → write_property_said (record { object = object; property = property.0; index = index; value = value; priority = priority }) ≡ write_property_parts_said (tt, (object, (property, (index, (value, (priority, tt))))))
    said object property None value None = ap (λ (l : List Symbol). number_said 62 (the_number 15) tt ++ (number_said 80 object_number object ++ (number_said 81 (λ (e : Enumerated). e.0) property ++ l))) (open_append value [] (finished ∷ []))
    said object property (Some index) value None =
        ap (λ (l : List Symbol). number_said 62 (the_number 15) tt ++ (number_said 80 object_number object ++ (number_said 81 (λ (e : Enumerated). e.0) property ++ (number_said 82 (λ n. n) index ++ l)))) (open_append value [] (finished ∷ []))
    said object property None value (Some priority) =
        ap (λ (l : List Symbol). number_said 62 (the_number 15) tt ++ (number_said 80 object_number object ++ (number_said 81 (λ (e : Enumerated). e.0) property ++ l))) (open_append value (next (number_under name.Priority 4 priority) ∷ []) (finished ∷ []))
    said object property (Some index) value (Some priority) =
        ap (λ (l : List Symbol). number_said 62 (the_number 15) tt ++ (number_said 80 object_number object ++ (number_said 81 (λ (e : Enumerated). e.0) property ++ (number_said 82 (λ n. n) index ++ l))))
        (open_append value (next (number_under name.Priority 4 priority) ∷ []) (finished ∷ []))

-- ---- Who-Is

abbrev pub WhoIsParts : Type 0
WhoIsParts = Unit {0} × (Option (ℕ × ℕ) × Unit {0})

abbrev pub who_is_said : WhoIs → List Symbol
who_is_said request = steps_said (who_is_steps request) ++ finished ∷ []

abbrev pub limits_said : ℕ × ℕ → List Symbol
limits_said limits = number_said 89 (λ n. n) limits.0 ++ number_said 90 (λ n. n) limits.1

abbrev pub who_is_parts_said : WhoIsParts → List Symbol
who_is_parts_said w = number_said 64 (the_number 8) w.0 ++ (option_map_or limits_said w.1.0 [] ++ end_said w.1.1)

abbrev pub SpellsWhoIsParts : WhoIsParts → List ℕ → Type 0
SpellsWhoIsParts = Joined (the_octet 8) (Joined (Optional (Joined (InstanceField 0) (InstanceField 1))) no_octets)

pub who_is_message : IsMessage who_is_said who_is_parts_said (λ request. SpellsChosen 8 (SpellsWhoIs request)) SpellsWhoIsParts
who_is_message = record {
  of_parts = λ w. record { limits = w.1.0 };
  parts_of = λ r b spelled. ((tt, (r.limits, tt)), refl);
  said = λ w. said w.1.0;
  spelled = λ w. second_alike last_part;
}
  where
    said : (limits : Option (ℕ × ℕ)) → who_is_said (record { limits = limits }) ≡ who_is_parts_said (tt, (limits, tt))
    said None = refl
    said (Some limits) = refl

-- ---- I-Am

abbrev pub IAmParts : Type 0
IAmParts = Unit {0} × (Identifier × (ℕ × (Enumerated × (ℕ × Unit {0}))))

abbrev pub i_am_said : IAm → List Symbol
i_am_said request = steps_said (i_am_steps request) ++ finished ∷ []

abbrev pub i_am_parts_said : IAmParts → List Symbol
i_am_parts_said w =
    number_said 65 (the_number 0) w.0 ++ (number_said 80 object_number w.1.0 ++ (number_said 91 (λ n. n) w.1.1.0 ++ (number_said 92 (λ (e : Enumerated). e.0) w.1.1.1.0 ++ (number_said 50 (λ n. n) w.1.1.1.1.0 ++ end_said w.1.1.1.1.1))))

abbrev pub SpellsIAmParts : IAmParts → List ℕ → Type 0
SpellsIAmParts = Joined (the_octet 0) (Joined ApplicationObject (Joined ApplicationUnsigned (Joined ApplicationEnumeratedPart (Joined ApplicationUnsigned16 no_octets))))

pub i_am_message : IsMessage i_am_said i_am_parts_said (λ request. SpellsChosen 0 (SpellsIAm request)) SpellsIAmParts
i_am_message = record {
  of_parts = λ w. record { object = w.1.0; apdu = w.1.1.0; segmentation = w.1.1.1.0.0; vendor = w.1.1.1.1.0 };
  parts_of = λ r b spelled. ((tt, (r.object, (r.apdu, (of_number r.segmentation, (r.vendor, tt))))), refl);
  said = λ w. refl;
  spelled = λ w. second_alike (second_alike (second_alike (second_alike last_part)));
}

-- ---- SubscribeCOV

abbrev pub SubscribeParts : Type 0
SubscribeParts = Unit {0} × (ℕ × (Identifier × (Option BooleanType × (Option ℕ × Unit {0}))))

abbrev pub subscribe_cov_said : SubscribeCov → List Symbol
subscribe_cov_said request = steps_said (subscribe_cov_steps request) ++ finished ∷ []

abbrev pub truth_said : BooleanType → List Symbol
truth_said = number_said 86 (λ (v : BooleanType). truth v.0)

abbrev pub subscribe_parts_said : SubscribeParts → List Symbol
subscribe_parts_said w =
    number_said 66 (the_number 5) w.0 ++ (number_said 84 (λ n. n) w.1.0 ++ (number_said 80 object_number w.1.1.0 ++ (option_map_or truth_said w.1.1.1.0 [] ++ (option_map_or (number_said 87 (λ n. n)) w.1.1.1.1.0 [] ++ end_said w.1.1.1.1.1))))

abbrev pub SpellsSubscribeParts : SubscribeParts → List ℕ → Type 0
SpellsSubscribeParts = Joined (the_octet 5) (Joined (UnsignedField 0) (Joined (ObjectField 1) (Joined (Optional BitField) (Joined (Optional (UnsignedField 3)) no_octets))))

bits_back : (confirmed : Option Bool) → option_map bit_of (option_map boolean_of confirmed) ≡ confirmed
bits_back None = refl
bits_back (Some bit) = refl

pub subscribe_cov_message : IsMessage subscribe_cov_said subscribe_parts_said (λ request. SpellsChosen 5 (SpellsSubscribeCov request)) SpellsSubscribeParts
subscribe_cov_message = record {
  of_parts = λ w. subscribe_cov_of (w.1.0, (w.1.1.0, (w.1.1.1.0, w.1.1.1.1.0)));
  parts_of = λ r b spelled. ((tt, (r.process, (r.object, (option_map boolean_of r.confirmed, (r.lifetime, tt))))), ap (λ (c : Option Bool). subscribe r.process r.object c r.lifetime) (bits_back r.confirmed));
  said = λ w. said w.1.0 w.1.1.0 w.1.1.1.0 w.1.1.1.1.0;
  spelled = λ w. second_alike (then_alike (second_alike (second_alike (second_alike last_part))) (subscribe_cov_alike (w.1.0, (w.1.1.0, (w.1.1.1.0, w.1.1.1.1.0)))));
}
  where
    subscribe : ℕ → Identifier → Option Bool → Option ℕ → SubscribeCov
    subscribe process object confirmed lifetime = record { process = process; object = object; confirmed = confirmed; lifetime = lifetime }

    said : (process : ℕ) (object : Identifier) (confirmed : Option BooleanType) (lifetime : Option ℕ)
        → subscribe_cov_said (subscribe_cov_of (process, (object, (confirmed, lifetime)))) ≡ subscribe_parts_said (tt, (process, (object, (confirmed, (lifetime, tt)))))
    said process object None None = refl
    said process object None (Some lifetime) = refl
    said process object (Some confirmed) None = refl
    said process object (Some confirmed) (Some lifetime) = refl

-- ---- references to properties, as items of a list

abbrev pub ReferenceParts : Type 0
ReferenceParts = Unit {0} × (Enumerated × (Option ℕ × Unit {0}))

abbrev pub reference_said : PropertyReference → List Symbol
reference_said reference = steps_said (item_steps reference_steps reference)

abbrev pub reference_parts_said : ReferenceParts → List Symbol
reference_parts_said w = number_said 115 no_number w.0 ++ (number_said 81 (λ (e : Enumerated). e.0) w.1.0 ++ (option_map_or (number_said 82 (λ n. n)) w.1.1.0 [] ++ number_said 116 no_number w.1.1.1))

abbrev pub SpellsReferenceParts : ReferenceParts → List ℕ → Type 0
SpellsReferenceParts = Joined no_octets (Joined (EnumeratedPart 0) (Joined (Optional (UnsignedField 1)) no_octets))

pub reference_message : IsMessage reference_said reference_parts_said SpellsPropertyReference SpellsReferenceParts
reference_message = record {
  of_parts = λ w. record { property = w.1.0.0; index = w.1.1.0 };
  parts_of = λ r b spelled. ((tt, (of_number r.property, (r.index, tt))), refl);
  said = λ w. said w.1.0 w.1.1.0;
  spelled = λ w. then_alike first_part (second_alike last_part);
}
  where
    said : (property : Enumerated) (index : Option ℕ) → reference_said (record { property = property.0; index = index }) ≡ reference_parts_said (tt, (property, (index, tt)))
    said property None = refl
    said property (Some index) = refl

-- ---- access specifications, as items of a list

abbrev pub SpecificationParts : Type 0
SpecificationParts = Unit {0} × (Identifier × ((Unit {0} × (List PropertyReference × Unit {0})) × Unit {0}))

abbrev pub specification_said : Specification → List Symbol
specification_said specification = steps_said (item_steps specification_steps specification)

abbrev pub specification_parts_said : SpecificationParts → List Symbol
specification_parts_said w =
    number_said 115 no_number w.0 ++ (number_said 80 object_number w.1.0
    ++ ((number_said 111 (the_number 0) w.1.1.0.0 ++ (flat_map reference_said w.1.1.0.1.0 ++ number_said 114 (the_number 0) w.1.1.0.1.1)) ++ number_said 116 no_number w.1.1.1))

abbrev pub SpellsSpecificationParts : SpecificationParts → List ℕ → Type 0
SpellsSpecificationParts = Joined no_octets (Joined (ObjectField 0) (Joined (Joined (Head (Open 1)) (Joined (Items SpellsPropertyReference) (Head (Close 1)))) no_octets))

-- the items of a list
pub items_told : {X : Type 0} (steps : X → List Step) (xs : List X) (rest : List Step) → steps_said (flat_map (item_steps steps) xs ++ rest) ≡ flat_map (λ x. steps_said (item_steps steps x)) xs ++ steps_said rest
items_told steps [] rest = refl
items_told steps (x ∷ xs) rest =
    ap steps_said (append_assoc (item_steps steps x) (flat_map (item_steps steps) xs) rest) ∙ steps_append (item_steps steps x) (flat_map (item_steps steps) xs ++ rest)
    ∙ ap (λ (l : List Symbol). steps_said (item_steps steps x) ++ l) (items_told steps xs rest) ∙ sym (append_assoc (steps_said (item_steps steps x)) (flat_map (λ x. steps_said (item_steps steps x)) xs) (steps_said rest))

pub specification_message : IsMessage specification_said specification_parts_said SpellsSpecification SpellsSpecificationParts
specification_message = record {
  of_parts = λ w. record { object = w.1.0; properties = w.1.1.0.1.0 };
  parts_of = λ s b spelled. ((tt, (s.object, ((tt, (s.properties, tt)), tt))), refl);
  said = λ w. said w.1.0 w.1.1.0.1.0;
  spelled = λ w. then_alike first_part (second_alike last_part);
}
  where
    said : (object : Identifier) (properties : List PropertyReference) → specification_said (record { object = object; properties = properties }) ≡ specification_parts_said (tt, (object, ((tt, (properties, tt)), tt)))
    said object properties =
        ap (λ (l : List Symbol). number_said 115 no_number tt ++ (number_said 80 object_number object ++ (number_said 111 (the_number 0) tt ++ l)))
        (steps_append (flat_map (item_steps reference_steps) properties ++ next (closing_field name.ListEnd 1 0) ∷ []) (next (word name.ItemEnd) ∷ [])
        ∙ ap (λ (l : List Symbol). l ++ number_said 116 no_number tt) (items_told reference_steps properties (next (closing_field name.ListEnd 1 0) ∷ [])))

-- ---- ReadPropertyMultiple

abbrev pub ReadMultipleParts : Type 0
ReadMultipleParts = Unit {0} × (Unit {0} × (List Specification × (Unit {0} × Unit {0})))

abbrev pub read_multiple_said : List Specification → List Symbol
read_multiple_said items = steps_said (read_multiple_steps items) ++ finished ∷ []

abbrev pub read_multiple_parts_said : ReadMultipleParts → List Symbol
read_multiple_parts_said w = number_said 61 (the_number 14) w.0 ++ (number_said 110 no_number w.1.0 ++ (flat_map specification_said w.1.1.0 ++ (number_said 114 no_number w.1.1.1.0 ++ end_said w.1.1.1.1)))

abbrev pub SpellsReadMultipleParts : ReadMultipleParts → List ℕ → Type 0
SpellsReadMultipleParts = Joined (the_octet 14) (Joined no_octets (Joined (Items SpellsSpecification) (Joined no_octets no_octets)))

pub read_multiple_message : IsMessage read_multiple_said read_multiple_parts_said (λ items. SpellsChosen 14 (Items SpellsSpecification items)) SpellsReadMultipleParts
read_multiple_message = record {
  of_parts = λ w. w.1.1.0;
  parts_of = λ items b spelled. ((tt, (tt, (items, (tt, tt)))), refl);
  said = λ w. said w.1.1.0;
  spelled = λ w. second_alike (then_alike first_part (then_alike (second_alike last_part) last_part));
}
  where
    said : (items : List Specification) → read_multiple_said items ≡ read_multiple_parts_said (tt, (tt, (items, (tt, tt))))
    said items =
        ap (λ (l : List Symbol). number_said 61 (the_number 14) tt ++ (number_said 110 no_number tt ++ l))
        (ap (λ (l : List Symbol). l ++ finished ∷ []) (items_told specification_steps items (next (word name.ListEnd) ∷ [])) ∙ append_assoc (flat_map specification_said items) (number_said 114 no_number tt) (finished ∷ []))

-- ---- values of properties, as items of a list

abbrev pub ValueParts : Type 0
ValueParts = Unit {0} × (Enumerated × (Option ℕ × (Elements × (Option ℕ × Unit {0}))))

abbrev pub value_said : PropertyValue → List Symbol
value_said value = steps_said (item_steps property_value_steps value)

abbrev pub value_parts_said : ValueParts → List Symbol
value_parts_said w =
    number_said 115 no_number w.0 ++ (number_said 81 (λ (e : Enumerated). e.0) w.1.0 ++ (option_map_or (number_said 82 (λ n. n)) w.1.1.0 []
    ++ (steps_said (open_steps 2 w.1.1.1.0) ++ (option_map_or (number_said 83 (λ n. n)) w.1.1.1.1.0 [] ++ number_said 116 no_number w.1.1.1.1.1))))

abbrev pub SpellsValueParts : ValueParts → List ℕ → Type 0
SpellsValueParts = Joined no_octets (Joined (EnumeratedPart 0) (Joined (Optional (UnsignedField 1)) (Joined (SpellsOpen 32 2) (Joined (Optional (PriorityField 3)) no_octets))))

-- the fields of a value, before others
pub open_then : (tag : ℕ) (v : Elements) (a b : List Step) → steps_said ((open_steps tag v ++ a) ++ b) ≡ steps_said (open_steps tag v) ++ steps_said (a ++ b)
open_then tag v a b = ap steps_said (append_assoc (open_steps tag v) a b) ∙ steps_append (open_steps tag v) (a ++ b)

pub value_message : IsMessage value_said value_parts_said (SpellsPropertyValue 32) SpellsValueParts
value_message = record {
  of_parts = λ w. record { property = w.1.0.0; index = w.1.1.0; value = w.1.1.1.0; priority = w.1.1.1.1.0 };
  parts_of = λ v b spelled. ((tt, (of_number v.property, (v.index, (v.value, (v.priority, tt))))), refl);
  said = λ w. said w.1.0 w.1.1.0 w.1.1.1.0 w.1.1.1.1.0;
  spelled = λ w. then_alike first_part (second_alike (second_alike (second_alike last_part)));
}
  where
    said : (property : Enumerated) (index : Option ℕ) (value : Elements) (priority : Option ℕ)
        → value_said (record { property = property.0; index = index; value = value; priority = priority }) ≡ value_parts_said (tt, (property, (index, (value, (priority, tt)))))
    said property None value None = ap (λ (l : List Symbol). number_said 115 no_number tt ++ (number_said 81 (λ (e : Enumerated). e.0) property ++ l)) (open_then 2 value [] (next (word name.ItemEnd) ∷ []))
    said property (Some index) value None =
        ap (λ (l : List Symbol). number_said 115 no_number tt ++ (number_said 81 (λ (e : Enumerated). e.0) property ++ (number_said 82 (λ n. n) index ++ l))) (open_then 2 value [] (next (word name.ItemEnd) ∷ []))
    said property None value (Some priority) =
        ap (λ (l : List Symbol). number_said 115 no_number tt ++ (number_said 81 (λ (e : Enumerated). e.0) property ++ l)) (open_then 2 value (next (number_under name.Priority 3 priority) ∷ []) (next (word name.ItemEnd) ∷ []))
    said property (Some index) value (Some priority) =
        ap (λ (l : List Symbol). number_said 115 no_number tt ++ (number_said 81 (λ (e : Enumerated). e.0) property ++ (number_said 82 (λ n. n) index ++ l))) (open_then 2 value (next (number_under name.Priority 3 priority) ∷ []) (next (word name.ItemEnd) ∷ []))

-- ---- access specifications of writes, as items of a list

abbrev pub WriteSpecificationParts : Type 0
WriteSpecificationParts = Unit {0} × (Identifier × ((Unit {0} × (List PropertyValue × Unit {0})) × Unit {0}))

abbrev pub write_specification_said : WriteSpecification → List Symbol
write_specification_said item = steps_said (item_steps write_specification_steps item)

abbrev pub write_specification_parts_said : WriteSpecificationParts → List Symbol
write_specification_parts_said w =
    number_said 115 no_number w.0 ++ (number_said 80 object_number w.1.0
    ++ ((number_said 113 (the_number 0) w.1.1.0.0 ++ (flat_map value_said w.1.1.0.1.0 ++ number_said 114 (the_number 0) w.1.1.0.1.1)) ++ number_said 116 no_number w.1.1.1))

abbrev pub SpellsWriteSpecificationParts : WriteSpecificationParts → List ℕ → Type 0
SpellsWriteSpecificationParts = Joined no_octets (Joined (ObjectField 0) (Joined (Joined (Head (Open 1)) (Joined (Items (SpellsPropertyValue 32)) (Head (Close 1)))) no_octets))

pub write_specification_message : IsMessage write_specification_said write_specification_parts_said (SpellsWriteSpecification 32) SpellsWriteSpecificationParts
write_specification_message = record {
  of_parts = λ w. record { object = w.1.0; values = w.1.1.0.1.0 };
  parts_of = λ s b spelled. ((tt, (s.object, ((tt, (s.values, tt)), tt))), refl);
  said = λ w. said w.1.0 w.1.1.0.1.0;
  spelled = λ w. then_alike first_part (second_alike last_part);
}
  where
    said : (object : Identifier) (items : List PropertyValue) → write_specification_said (record { object = object; values = items }) ≡ write_specification_parts_said (tt, (object, ((tt, (items, tt)), tt)))
    said object items =
        ap (λ (l : List Symbol). number_said 115 no_number tt ++ (number_said 80 object_number object ++ (number_said 113 (the_number 0) tt ++ l)))
        (steps_append (flat_map (item_steps property_value_steps) items ++ next (closing_field name.ListEnd 1 0) ∷ []) (next (word name.ItemEnd) ∷ [])
        ∙ ap (λ (l : List Symbol). l ++ number_said 116 no_number tt) (items_told property_value_steps items (next (closing_field name.ListEnd 1 0) ∷ [])))

-- ---- WritePropertyMultiple

abbrev pub WriteMultipleParts : Type 0
WriteMultipleParts = Unit {0} × (Unit {0} × (List WriteSpecification × (Unit {0} × Unit {0})))

abbrev pub write_multiple_said : List WriteSpecification → List Symbol
write_multiple_said items = steps_said (write_multiple_steps items) ++ finished ∷ []

abbrev pub write_multiple_parts_said : WriteMultipleParts → List Symbol
write_multiple_parts_said w = number_said 63 (the_number 16) w.0 ++ (number_said 110 no_number w.1.0 ++ (flat_map write_specification_said w.1.1.0 ++ (number_said 114 no_number w.1.1.1.0 ++ end_said w.1.1.1.1)))

abbrev pub SpellsWriteMultipleParts : WriteMultipleParts → List ℕ → Type 0
SpellsWriteMultipleParts = Joined (the_octet 16) (Joined no_octets (Joined (Items (SpellsWriteSpecification 32)) (Joined no_octets no_octets)))

pub write_multiple_message : IsMessage write_multiple_said write_multiple_parts_said (λ items. SpellsChosen 16 (Items (SpellsWriteSpecification 32) items)) SpellsWriteMultipleParts
write_multiple_message = record {
  of_parts = λ w. w.1.1.0;
  parts_of = λ items b spelled. ((tt, (tt, (items, (tt, tt)))), refl);
  said = λ w. said w.1.1.0;
  spelled = λ w. second_alike (then_alike first_part (then_alike (second_alike last_part) last_part));
}
  where
    said : (items : List WriteSpecification) → write_multiple_said items ≡ write_multiple_parts_said (tt, (tt, (items, (tt, tt))))
    said items =
        ap (λ (l : List Symbol). number_said 63 (the_number 16) tt ++ (number_said 110 no_number tt ++ l))
        (ap (λ (l : List Symbol). l ++ finished ∷ []) (items_told write_specification_steps items (next (word name.ListEnd) ∷ [])) ∙ append_assoc (flat_map write_specification_said items) (number_said 114 no_number tt) (finished ∷ []))

-- ---- results of properties, as items of a list

abbrev pub CauseParts : Type 0
CauseParts = Unit {0} × (Enumerated × (Enumerated × Unit {0}))

abbrev pub cause_parts_said : CauseParts → List Symbol
cause_parts_said w = number_said 119 (the_number 0) w.0 ++ (number_said 93 (λ (e : Enumerated). e.0) w.1.0 ++ (number_said 94 (λ (e : Enumerated). e.0) w.1.1.0 ++ number_said 120 (the_number 0) w.1.1.1))

abbrev pub SpellsCauseParts : CauseParts → List ℕ → Type 0
SpellsCauseParts = Joined (Head (Open 5)) (Joined ApplicationEnumeratedPart (Joined ApplicationEnumeratedPart (Head (Close 5))))

-- an error between tags
abbrev pub cause_said : ErrorCause → List Symbol
cause_said cause = steps_said (error_steps 5 cause)

pub cause_message : IsMessage cause_said cause_parts_said (Grouped 5 SpellsErrorCause) SpellsCauseParts
cause_message = record {
  of_parts = λ w. record { class = w.1.0.0; code = w.1.1.0.0 };
  parts_of = λ c b spelled. ((tt, (of_number c.class, (of_number c.code, tt))), refl);
  said = λ w. refl;
  spelled = λ w. second_alike grouped_first;
}

abbrev pub result_of : Elements ⊎ ErrorCause → ReadResult
result_of (inl value) = Value value
result_of (inr cause) = Error cause

abbrev pub ResultParts : Type 0
ResultParts = Unit {0} × (Enumerated × (Option ℕ × ((Elements ⊎ ErrorCause) × Unit {0})))

abbrev pub open_said : ℕ → Elements → List Symbol
open_said tag value = steps_said (open_steps tag value)

abbrev pub read_result_said : Elements ⊎ ErrorCause → List Symbol
read_result_said = either_said (open_said 4) cause_said (SpellsOpen 32 4) (Grouped 5 SpellsErrorCause)

abbrev pub result_said : PropertyResult → List Symbol
result_said result = steps_said (item_steps property_result_steps result)

abbrev pub result_parts_said : ResultParts → List Symbol
result_parts_said w =
    number_said 115 no_number w.0 ++ (number_said 81 (λ (e : Enumerated). e.0) w.1.0 ++ (option_map_or (number_said 82 (λ n. n)) w.1.1.0 [] ++ (read_result_said w.1.1.1.0 ++ number_said 116 no_number w.1.1.1.1)))

abbrev pub SpellsResultParts : ResultParts → List ℕ → Type 0
SpellsResultParts = Joined no_octets (Joined (EnumeratedPart 2) (Joined (Optional (UnsignedField 3)) (Joined (OneOf (SpellsOpen 32 4) (Grouped 5 SpellsErrorCause)) no_octets)))

result_alike : (r : Elements ⊎ ErrorCause) → Alike (OneOf (SpellsOpen 32 4) (Grouped 5 SpellsErrorCause) r) (SpellsReadResult 32 (result_of r))
result_alike (inl value) b = (λ p. p, λ p. p)
result_alike (inr cause) b = (λ p. p, λ p. p)

pub result_message : IsMessage result_said result_parts_said (SpellsPropertyResult 32) SpellsResultParts
result_message = record {
  of_parts = λ w. record { property = w.1.0.0; index = w.1.1.0; result = result_of w.1.1.1.0 };
  parts_of = λ r b spelled. ((tt, (of_number r.property, (r.index, (either_of_result r.result, tt)))), ap (λ (x : ReadResult). result_with r.property r.index x) (result_back r.result));
  said = λ w. said w.1.0 w.1.1.0 w.1.1.1.0;
  spelled = λ w. then_alike first_part (second_alike (second_alike (then_alike last_part (result_alike w.1.1.1.0))));
}
  where
    either_of_result : ReadResult → Elements ⊎ ErrorCause
    either_of_result (Value value) = inl value
    either_of_result (Error cause) = inr cause

    result_with : ℕ → Option ℕ → ReadResult → PropertyResult
    result_with property index result = record { property = property; index = index; result = result }

    result_back : (r : ReadResult) → result_of (either_of_result r) ≡ r
    result_back (Value value) = refl
    result_back (Error cause) = refl

    said : (property : Enumerated) (index : Option ℕ) (r : Elements ⊎ ErrorCause) → result_said (record { property = property.0; index = index; result = result_of r }) ≡ result_parts_said (tt, (property, (index, (r, tt))))
    said property None (inl value) = ap (λ (l : List Symbol). number_said 115 no_number tt ++ (number_said 81 (λ (e : Enumerated). e.0) property ++ l)) (steps_append (open_steps 4 value) (next (word name.ItemEnd) ∷ []))
    said property (Some index) (inl value) =
        ap (λ (l : List Symbol). number_said 115 no_number tt ++ (number_said 81 (λ (e : Enumerated). e.0) property ++ (number_said 82 (λ n. n) index ++ l))) (steps_append (open_steps 4 value) (next (word name.ItemEnd) ∷ []))
    said property None (inr cause) = refl
    said property (Some index) (inr cause) = refl

-- ---- access results, as items of a list

abbrev pub AccessParts : Type 0
AccessParts = Unit {0} × (Identifier × (Option (Unit {0} × (List PropertyResult × Unit {0})) × Unit {0}))

abbrev pub access_said : AccessResult → List Symbol
access_said result = steps_said (item_steps access_result_steps result)

abbrev pub results_said : Unit {0} × (List PropertyResult × Unit {0}) → List Symbol
results_said w = number_said 112 (the_number 0) w.0 ++ (flat_map result_said w.1.0 ++ number_said 114 (the_number 0) w.1.1)

abbrev pub access_parts_said : AccessParts → List Symbol
access_parts_said w = number_said 115 no_number w.0 ++ (number_said 80 object_number w.1.0 ++ (option_map_or results_said w.1.1.0 [] ++ number_said 116 no_number w.1.1.1))

abbrev pub SpellsResults : Unit {0} × (List PropertyResult × Unit {0}) → List ℕ → Type 0
SpellsResults = Joined (Head (Open 1)) (Joined (Items (SpellsPropertyResult 32)) (Head (Close 1)))

abbrev pub SpellsAccessParts : AccessParts → List ℕ → Type 0
SpellsAccessParts = Joined no_octets (Joined (ObjectField 0) (Joined (Optional SpellsResults) no_octets))

abbrev results_of : Unit {0} × (List PropertyResult × Unit {0}) → List PropertyResult
results_of w = w.1.0

abbrev results_parts : List PropertyResult → Unit {0} × (List PropertyResult × Unit {0})
results_parts results = (tt, (results, tt))

results_alike : (r : Option (Unit {0} × (List PropertyResult × Unit {0}))) → Alike (Optional SpellsResults r) (Optional (Grouped 1 (Items (SpellsPropertyResult 32))) (option_map results_of r))
results_alike None b = (λ p. p, λ p. p)
results_alike (Some r) b = (λ p. p, λ p. p)

pub access_message : IsMessage access_said access_parts_said (SpellsAccessResult 32) SpellsAccessParts
access_message = record {
  of_parts = λ w. record { object = w.1.0; results = option_map results_of w.1.1.0 };
  parts_of = λ r b spelled. ((tt, (r.object, (option_map results_parts r.results, tt))), ap (λ (x : Option (List PropertyResult)). access_with r.object x) (results_back r.results));
  said = λ w. said w.1.0 w.1.1.0;
  spelled = λ w. then_alike first_part (second_alike (then_alike last_part (results_alike w.1.1.0)));
}
  where
    access_with : Identifier → Option (List PropertyResult) → AccessResult
    access_with object results = record { object = object; results = results }

    results_back : (r : Option (List PropertyResult)) → option_map results_of (option_map results_parts r) ≡ r
    results_back None = refl
    results_back (Some r) = refl

    said : (object : Identifier) (r : Option (Unit {0} × (List PropertyResult × Unit {0}))) → access_said (record { object = object; results = option_map results_of r }) ≡ access_parts_said (tt, (object, (r, tt)))
    said object None = refl
    said object (Some r) =
        ap (λ (l : List Symbol). number_said 115 no_number tt ++ (number_said 80 object_number object ++ (number_said 112 (the_number 0) tt ++ l)))
        (steps_append (flat_map (item_steps property_result_steps) r.1.0 ++ next (closing_field name.ListEnd 1 0) ∷ []) (next (word name.ItemEnd) ∷ [])
        ∙ ap (λ (l : List Symbol). l ++ number_said 116 no_number tt) (items_told property_result_steps r.1.0 (next (closing_field name.ListEnd 1 0) ∷ [])))

-- ---- the answer to a ReadPropertyMultiple

abbrev pub ReadMultipleAckParts : Type 0
ReadMultipleAckParts = Unit {0} × (Unit {0} × (List AccessResult × (Unit {0} × Unit {0})))

abbrev pub read_multiple_ack_said : List AccessResult → List Symbol
read_multiple_ack_said items = steps_said (read_multiple_ack_steps items) ++ finished ∷ []

abbrev pub read_multiple_ack_parts_said : ReadMultipleAckParts → List Symbol
read_multiple_ack_parts_said w = number_said 61 (the_number 14) w.0 ++ (number_said 112 no_number w.1.0 ++ (flat_map access_said w.1.1.0 ++ (number_said 114 no_number w.1.1.1.0 ++ end_said w.1.1.1.1)))

abbrev pub SpellsReadMultipleAckParts : ReadMultipleAckParts → List ℕ → Type 0
SpellsReadMultipleAckParts = Joined (the_octet 14) (Joined no_octets (Joined (Items (SpellsAccessResult 32)) (Joined no_octets no_octets)))

pub read_multiple_ack_message : IsMessage read_multiple_ack_said read_multiple_ack_parts_said (λ items. SpellsChosen 14 (Items (SpellsAccessResult 32) items)) SpellsReadMultipleAckParts
read_multiple_ack_message = record {
  of_parts = λ w. w.1.1.0;
  parts_of = λ items b spelled. ((tt, (tt, (items, (tt, tt)))), refl);
  said = λ w. said w.1.1.0;
  spelled = λ w. second_alike (then_alike first_part (then_alike (second_alike last_part) last_part));
}
  where
    said : (items : List AccessResult) → read_multiple_ack_said items ≡ read_multiple_ack_parts_said (tt, (tt, (items, (tt, tt))))
    said items =
        ap (λ (l : List Symbol). number_said 61 (the_number 14) tt ++ (number_said 112 no_number tt ++ l))
        (ap (λ (l : List Symbol). l ++ finished ∷ []) (items_told access_result_steps items (next (word name.ListEnd) ∷ [])) ∙ append_assoc (flat_map access_said items) (number_said 114 no_number tt) (finished ∷ []))
