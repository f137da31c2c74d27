-- Errors as their parts.
use Rattle.std.specs.Prelude.{◌≡◌, ℕ, Option, None, Some, List, [], ◌∷◌, ◌++◌, refl}
use Rattle.std.specs.Option.{option_map_or}
use Rattle.bac_tag.specs.Spelling.{Joined, Joins}
use Rattle.bac_tag.specs.declared.heads.TagHead.TheVariants.{Open, Close}
use Rattle.bac_value.specs.Identifier.{Identifier}
use Rattle.bac_value.specs.declared.types.enumeration.Enumerated.{Enumerated}
use Rattle.bac_productions.specs.Contents.{ObjectField, UnsignedField, EnumeratedPart, ApplicationEnumeratedPart, of_number}
use Rattle.bac_productions.specs.Productions.{Head, Optional, IsInhabited}
use Rattle.bac_service.specs.ErrorCause.{SpellsErrorCause}
use Rattle.std.proofs.Common.{lit<}
use Rattle.bac_field_parts.specs.Opaques.{IsCauseChoice}
use Rattle.bac_service.specs.WritePropertyMultipleError.{SpellsWriteError}
use Rattle.bac_service.specs.declared.service.error_cause.ErrorCause.{ErrorCause}
use Rattle.bac_service.specs.declared.service.write_property_multiple_error.WritePropertyMultipleError.{WritePropertyMultipleError}
use Rattle.bac_field_parts.specs.PrimitiveFields.{object_number}
use Rattle.bac_fields.specs.ServiceErrorFields.{service_error_steps}
use Rattle.bac_fields.specs.WritePropertyMultipleFields.{write_error_steps}
use Rattle.bac_field_parts.specs.Symbols.{Symbol, finished, IsMessage, the_octet, the_number, no_octets, number_said, end_said, nothing_said, steps_said}
use Rattle.bac_field_parts.specs.Laws.Messages.{Alike, last_part, second_alike, then_alike, grouped_first}
use Rattle.bac_fields.specs.Laws.ServiceMessages.{SpellsChosen}

-- ---- class and code of an error, after its choice

abbrev pub ServiceErrorParts : Type 0
ServiceErrorParts = ℕ × (Enumerated × (Enumerated × Unit {0}))

abbrev pub service_error_said : ℕ × ErrorCause → List Symbol
service_error_said error = steps_said (service_error_steps error.0 error.1) ++ finished ∷ []

abbrev pub SpellsServiceError : ℕ × ErrorCause → List ℕ → Type 0
SpellsServiceError = Joined IsCauseChoice SpellsErrorCause

abbrev pub service_error_parts_said : ServiceErrorParts → List Symbol
service_error_parts_said w = number_said 30 (λ n. n) w.0 ++ (number_said 93 (λ (e : Enumerated). e.0) w.1.0 ++ (number_said 94 (λ (e : Enumerated). e.0) w.1.1.0 ++ end_said w.1.1.1))

pub service_error_message : IsMessage service_error_said service_error_parts_said SpellsServiceError (Joined IsCauseChoice (Joined ApplicationEnumeratedPart (Joined ApplicationEnumeratedPart no_octets)))
service_error_message = record {
  of_parts = λ w. (w.0, record { class = w.1.0.0; code = w.1.1.0.0 });
  parts_of = λ v b spelled. ((v.0, (of_number v.1.class, (of_number v.1.code, tt))), refl);
  said = λ w. refl;
  spelled = λ w. second_alike (second_alike last_part);
}

-- 1 is such a choice
pub cause_choice_inhabited : IsInhabited IsCauseChoice
cause_choice_inhabited = record { value = 1; octets = 1 ∷ []; spelled = record { octet = refl; fits = lit< tt; production_is = refl } }

-- ---- the error of WritePropertyMultiple: two groups, whose tags belong to no field

abbrev pub WriteErrorParts : Type 0
WriteErrorParts = Unit {0} × (Unit {0} × (Enumerated × (Enumerated × (Unit {0} × (Unit {0} × (Identifier × (Enumerated × (Option ℕ × Unit {0}))))))))

abbrev pub write_error_said : WritePropertyMultipleError → List Symbol
write_error_said error = steps_said (write_error_steps error) ++ finished ∷ []

abbrev pub write_error_parts_said : WriteErrorParts → List Symbol
write_error_parts_said w =
    number_said 30 (the_number 16) w.0 ++ (nothing_said w.1.0 ++ (number_said 93 (λ (e : Enumerated). e.0) w.1.1.0 ++ (number_said 94 (λ (e : Enumerated). e.0) w.1.1.1.0
    ++ (nothing_said w.1.1.1.1.0 ++ (nothing_said w.1.1.1.1.1.0 ++ (number_said 80 object_number w.1.1.1.1.1.1.0 ++ (number_said 81 (λ (e : Enumerated). e.0) w.1.1.1.1.1.1.1.0
    ++ (option_map_or (number_said 82 (λ n. n)) w.1.1.1.1.1.1.1.1.0 [] ++ end_said w.1.1.1.1.1.1.1.1.1))))))))

abbrev pub SpellsWriteErrorParts : WriteErrorParts → List ℕ → Type 0
SpellsWriteErrorParts =
    Joined (the_octet 16) (Joined (Head (Open 0)) (Joined ApplicationEnumeratedPart (Joined ApplicationEnumeratedPart (Joined (Head (Close 0)) (Joined (Head (Open 1)) (Joined (ObjectField 0) (Joined (EnumeratedPart 1) (Joined (Optional (UnsignedField 2)) (Head (Close 1))))))))))

second_group : {A B C D E : List ℕ → Type 0} → Alike (Joins A (Joins B (Joins C (Joins D E)))) (Joins A (Joins (Joins B (Joins C D)) E))
second_group = second_alike (then_alike (second_alike grouped_first) grouped_first)

first_group : {A B C D R : List ℕ → Type 0} → Alike (Joins A (Joins B (Joins C (Joins D R)))) (Joins (Joins A (Joins (Joins B C) D)) R)
first_group = then_alike (second_alike (then_alike grouped_first grouped_first)) grouped_first

pub write_error_message : IsMessage write_error_said write_error_parts_said (λ error. SpellsChosen 16 (SpellsWriteError error)) SpellsWriteErrorParts
write_error_message = record {
  of_parts = λ w. record { class = w.1.1.0.0; code = w.1.1.1.0.0; object = w.1.1.1.1.1.1.0; property = w.1.1.1.1.1.1.1.0.0; index = w.1.1.1.1.1.1.1.1.0 };
  parts_of = λ e b spelled. ((tt, (tt, (of_number e.class, (of_number e.code, (tt, (tt, (e.object, (of_number e.property, (e.index, tt))))))))), refl);
  said = λ w. said w.1.1.0 w.1.1.1.0 w.1.1.1.1.1.1.0 w.1.1.1.1.1.1.1.0 w.1.1.1.1.1.1.1.1.0;
  spelled = λ w. second_alike (then_alike (second_alike (second_alike (second_alike (second_alike second_group)))) first_group);
}
  where
    said : (class code : Enumerated) (object : Identifier) (property : Enumerated) (index : Option ℕ)
        → write_error_said (record { class = class.0; code = code.0; object = object; property = property.0; index = index }) ≡ write_error_parts_said (tt, (tt, (class, (code, (tt, (tt, (object, (property, (index, tt)))))))))
    said class code object property None = refl
    said class code object property (Some index) = refl
