-- The fields of items and of errors between tags tell them.
use Rattle.std.specs.Prelude.{ℕ, Bool, Some, List, [], ◌∷◌, refl}
use Rattle.std.proofs.Common.{sym, ◌∙◌, ap}
use Rattle.bac_tag.specs.declared.heads.TagHead.{TagHead}
use Rattle.bac_value.specs.Identifier.{IsIdentifier, identifier_octets}
use Rattle.bac_value.specs.Primitives.{IsTheList}
use Rattle.bac_value.specs.declared.types.boolean_value.Boolean.{Boolean as BooleanType}
use Rattle.bac_value.specs.declared.types.enumeration.Enumerated.{Enumerated}
use Rattle.bac_productions.specs.Fields.{IsField}
use Rattle.bac_productions.specs.Contents.{of_number}
use Rattle.bac_productions.specs.Productions.{Grouped}
use Rattle.bac_service.specs.ErrorCause.{SpellsErrorCause}
use Rattle.bac_service.specs.PropertyReference.{SpellsPropertyReference}
use Rattle.bac_service.specs.PropertyResult.{SpellsPropertyResult}
use Rattle.bac_service.specs.PropertyValue.{SpellsPropertyValue}
use Rattle.bac_service.specs.ReadAccessResult.{SpellsAccessResult}
use Rattle.bac_service.specs.ReadAccessSpecification.{SpellsSpecification}
use Rattle.bac_service.specs.WriteAccessSpecification.{SpellsWriteSpecification}
use Rattle.bac_fields.specs.Line.{object_of}
use Rattle.bac_field_parts.specs.PrimitiveFields.{truth, object_number}
use Rattle.bac_field_parts.specs.Symbols.{number_said}
use Rattle.bac_fields.specs.Laws.ServiceMessages.{reference_said, reference_message, value_said, value_message, cause_said, cause_message, result_said, result_message, specification_said, specification_message, access_said, access_message, write_specification_said, write_specification_message}
use Rattle.bac_fields.proofs.LineLemmas.{object_is}
use Rattle.bac_fields.proofs.Once.{Telling, number_tells, and_then, perhaps, each, or_else, by_parts}
use Rattle.bac_fields.proofs.OneFrame.{truth_same}
use Rattle.bac_fields.proofs.OnceValues.{open_tells}

-- ---- single fields

-- words, choices and tags, which say nothing more
pub word : {number : Unit {0} → ℕ} {S : Unit {0} → List ℕ → Type 0} (name : ℕ) → Telling (number_said name number) S (Some name ∷ [])
word name = number_tells name (λ v w b c h k e. refl)

pub plain : {S : ℕ → List ℕ → Type 0} (name : ℕ) → Telling (number_said name (λ n. n)) S (Some name ∷ [])
plain name = number_tells name (λ v w b c h k e. e)

pub enumerated : {S : Enumerated → List ℕ → Type 0} (name : ℕ) → Telling (number_said name (λ (e : Enumerated). e.0)) S (Some name ∷ [])
enumerated name = number_tells name (λ v w b c h k e. ap of_number e)

abbrev boolean : Bool → BooleanType
boolean b = record { 0 = b }

pub boolean_value : {S : BooleanType → List ℕ → Type 0} (name : ℕ) → Telling (number_said name (λ (v : BooleanType). truth v.0)) S (Some name ∷ [])
boolean_value name = number_tells name (λ v w b c h k e. ap boolean (truth_same v.0 w.0 e))

pub object : {head : ℕ → TagHead} (name : ℕ) → Telling (number_said name object_number) (IsField head (IsTheList IsIdentifier identifier_octets)) (Some name ∷ [])
object name = number_tells name (λ v w b c h k e. sym (object_is v h.spelled.value_holds) ∙ ap object_of e ∙ object_is w k.spelled.value_holds)

-- ---- items

pub reference_tells : Telling reference_said SpellsPropertyReference (Some 115 ∷ [])
reference_tells = by_parts reference_message (and_then (word 115) (and_then (enumerated 81) (perhaps (plain 82) (word 116) refl)))

pub value_tells : Telling value_said (SpellsPropertyValue 32) (Some 115 ∷ [])
value_tells = by_parts value_message (and_then (word 115) (and_then (enumerated 81) (perhaps (plain 82) (and_then (open_tells 2) (perhaps (plain 83) (word 116) refl)) refl)))

pub cause_tells : Telling cause_said (Grouped 5 SpellsErrorCause) (Some 119 ∷ [])
cause_tells = by_parts cause_message (and_then (word 119) (and_then (enumerated 93) (and_then (enumerated 94) (word 120))))

pub result_tells : Telling result_said (SpellsPropertyResult 32) (Some 115 ∷ [])
result_tells = by_parts result_message (and_then (word 115) (and_then (enumerated 81) (perhaps (plain 82) (and_then (or_else (open_tells 4) cause_tells refl) (word 116)) refl)))

pub specification_tells : Telling specification_said SpellsSpecification (Some 115 ∷ [])
specification_tells = by_parts specification_message (and_then (word 115) (and_then (object 80) (and_then (and_then (word 111) (each reference_tells (word 114) refl)) (word 116))))

pub access_tells : Telling access_said (SpellsAccessResult 32) (Some 115 ∷ [])
access_tells = by_parts access_message (and_then (word 115) (and_then (object 80) (perhaps (and_then (word 112) (each result_tells (word 114) refl)) (word 116) refl)))

pub write_specification_tells : Telling write_specification_said (SpellsWriteSpecification 32) (Some 115 ∷ [])
write_specification_tells = by_parts write_specification_message (and_then (word 115) (and_then (object 80) (and_then (and_then (word 113) (each value_tells (word 114) refl)) (word 116))))
