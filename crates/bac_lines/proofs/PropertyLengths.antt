-- How many octets the texts of properties have, of their values, and of what is said of objects.
use Rattle.std.specs.Prelude.{Option, codes}
use Rattle.std.proofs.Common.{◌≡◌, ℕ, ◌+◌, ◌*◌, ◌≤◌, List, length, arith}
use Rattle.std.proofs.lemmas.List.{length-append}
use Rattle.bac_tag.specs.Spelling.{Joins}
use Rattle.bac_value.specs.Identifier.{Identifier}
use Rattle.bac_productions.specs.Contents.{EnumeratedField, UnsignedField, PriorityField}
use Rattle.bac_productions.specs.Productions.{Optional, Items, Grouped}
use Rattle.bac_service.specs.declared.service.error_cause.ErrorCause.{ErrorCause}
use Rattle.bac_service.specs.declared.service.property_reference.PropertyReference.{PropertyReference}
use Rattle.bac_service.specs.declared.service.property_value.PropertyValue.{PropertyValue}
use Rattle.bac_service.specs.declared.service.property_result.ReadResult.{ReadResult}
use Rattle.bac_service.specs.declared.service.property_result.ReadResult.TheVariants.{Value, Error}
use Rattle.bac_service.specs.declared.service.property_result.PropertyResult.{PropertyResult}
use Rattle.bac_service.specs.ReadAccessSpecification.{Specification, SpellsSpecification}
use Rattle.bac_service.specs.ReadAccessResult.{AccessResult, SpellsAccessResult}
use Rattle.bac_service.specs.WriteAccessSpecification.{WriteSpecification, SpellsWriteSpecification}
use Rattle.bac_service.specs.ObjectProperty.{SpellsObjectProperty}
use Rattle.bac_service.specs.ErrorCause.{SpellsErrorCause}
use Rattle.bac_service.specs.PropertyReference.{SpellsPropertyReference}
use Rattle.bac_service.specs.PropertyValue.{SpellsPropertyValue}
use Rattle.bac_service.specs.PropertyResult.{SpellsReadResult, SpellsPropertyResult}
use Rattle.bac_text.specs.Words.{number, field, optional, listed, object_text}
use Rattle.bac_text.specs.OpenValueText.{open_text}
use Rattle.bac_text.specs.PropertyText.{property_text, cause_text, reference_text, read_result_text, property_result_text, property_value_text}
use Rattle.bac_text.specs.ServiceText.{specification_text, access_result_text, write_specification_text}
use Rattle.bac_lines.proofs.ValueLengths.{three_parts, four_parts, joined_length, open_paid}
use Rattle.bac_lines.proofs.FieldLengths.{enumerated_paid, unsigned_paid, priority_paid, object_paid, application_enumerated_paid, optional_paid, grouped_paid, list_paid}

-- the index of an element
index_paid : (tag : ℕ) (index : Option ℕ) (b : List ℕ) → Optional (UnsignedField tag) index b → length (optional " index=" number index) ≤ 15 * length b
index_paid tag index b h = optional_paid (UnsignedField tag) " index=" number (λ v c s. omega (arith, unsigned_paid tag v c s)) index b h

-- a priority
pub command_paid : (tag : ℕ) (priority : Option ℕ) (b : List ℕ) → Optional (PriorityField tag) priority b → length (optional " priority=" number priority) ≤ 15 * length b
command_paid tag priority b h = optional_paid (PriorityField tag) " priority=" number (λ v c s. omega (arith, priority_paid tag v c s)) priority b h

-- a property and its index
property_length : (property : ℕ) (index : Option ℕ) → length (property_text property index) ≡ length (number property) + length (optional " index=" number index)
property_length property index = length-append (number property) (optional " index=" number index)

-- and the fields that spell them
pub property_paid : (first second property : ℕ) (index : Option ℕ) (b : List ℕ) → Joins (EnumeratedField first property) (Optional (UnsignedField second) index) b → length (property_text property index) + 20 ≤ 15 * length b
property_paid first second property index b h =
    omega (arith, property_length property index, joined_length h, enumerated_paid first property h.front h.first, index_paid second index h.back h.second)

-- a reference, in parentheses
reference_paid : (r : PropertyReference) (b : List ℕ) → SpellsPropertyReference r b → length (reference_text r) + 1 ≤ 15 * length b
reference_paid r b h = omega (arith, property_paid 0 1 r.property r.index b h, length-append (property_text r.property r.index) (codes ")"))

-- the class and the code of an error
pub cause_paid : (cause : ErrorCause) (b : List ℕ) → SpellsErrorCause cause b → length (cause_text cause.class cause.code) + 34 ≤ 15 * length b
cause_paid cause b h =
    omega (arith, joined_length h, application_enumerated_paid cause.class h.front h.first, application_enumerated_paid cause.code h.back h.second, length-append (number cause.class) (field " code=" (number cause.code)))

-- a value, or why there is none
read_result_paid : (groups : ℕ) (r : ReadResult) (b : List ℕ) → SpellsReadResult groups r b → length (read_result_text r) + 22 ≤ 15 * length b
read_result_paid groups (Value value) b h = omega (arith, open_paid groups 4 value b h)
read_result_paid groups (Error cause) b h =
    let inner = cause_paid cause h.second.front h.second.first in
    let all = grouped_paid SpellsErrorCause 5 (length (cause_text cause.class cause.code) + 34) cause b h inner in
    omega (arith, all, length-append (cause_text cause.class cause.code) (codes ")"))

-- what reading a property gave
property_result_paid : (groups : ℕ) (r : PropertyResult) (b : List ℕ) → SpellsPropertyResult groups r b → length (property_result_text r) + 1 ≤ 15 * length b
property_result_paid groups r b h =
    let index = index_paid 3 r.index h.second.front h.second.first in
    let result = read_result_paid groups r.result h.second.back h.second.second in
    omega (
      arith,
      enumerated_paid 2 r.property h.front h.first,
      index,
      result,
      joined_length h,
      joined_length h.second,
      property_length r.property r.index,
      three_parts (field "(property=" (property_text r.property r.index)) (field " " (read_result_text r.result)) (codes ")"),
    )

-- the value of a property
pub property_value_paid : (groups : ℕ) (v : PropertyValue) (b : List ℕ) → SpellsPropertyValue groups v b → length (property_value_text v) + 1 ≤ 15 * length b
property_value_paid groups v b h =
    let index = index_paid 1 v.index h.second.front h.second.first in
    let value = open_paid groups 2 v.value h.second.second.front h.second.second.first in
    let priority = command_paid 3 v.priority h.second.second.back h.second.second.second in
    omega (
      arith,
      enumerated_paid 0 v.property h.front h.first,
      index,
      value,
      priority,
      joined_length h,
      joined_length h.second,
      joined_length h.second.second,
      property_length v.property v.index,
      four_parts (field "(property=" (property_text v.property v.index)) (field " value=" (open_text v.value)) (optional " priority=" number v.priority) (codes ")"),
    )

-- what is asked for of an object
pub specification_paid : (s : Specification) (b : List ℕ) → SpellsSpecification s b → length (specification_text s) + 1 ≤ 15 * length b
specification_paid s b h =
    let list = list_paid SpellsPropertyReference reference_text reference_paid 1 s.properties h.back h.second in
    omega (arith, object_paid 0 s.object h.front h.first, list, joined_length h, three_parts (field "(object=" (object_text s.object)) (field " properties=" (listed reference_text s.properties)) (codes ")"))

-- a list of results, or none
results_paid : (groups : ℕ) (results : Option (List PropertyResult)) (b : List ℕ) → Optional (Grouped 1 (Items (SpellsPropertyResult groups))) results b
    → length (optional " results=" (listed property_result_text) results) ≤ 15 * length b
results_paid groups results b h =
    optional_paid (Grouped 1 (Items (SpellsPropertyResult groups))) " results=" (listed property_result_text)
    (λ v c s. omega (arith, list_paid (SpellsPropertyResult groups) property_result_text (property_result_paid groups) 1 v c s)) results b h

-- what reading gave for an object
pub access_result_paid : (groups : ℕ) (r : AccessResult) (b : List ℕ) → SpellsAccessResult groups r b → length (access_result_text r) + 1 ≤ 15 * length b
access_result_paid groups r b h =
    let results = results_paid groups r.results h.back h.second in
    omega (arith, object_paid 0 r.object h.front h.first, results, joined_length h, three_parts (field "(object=" (object_text r.object)) (optional " results=" (listed property_result_text) r.results) (codes ")"))

-- what is written to an object
pub write_specification_paid : (groups : ℕ) (s : WriteSpecification) (b : List ℕ) → SpellsWriteSpecification groups s b → length (write_specification_text s) + 1 ≤ 15 * length b
write_specification_paid groups s b h =
    let list = list_paid (SpellsPropertyValue groups) property_value_text (property_value_paid groups) 1 s.values h.back h.second in
    omega (arith, object_paid 0 s.object h.front h.first, list, joined_length h, three_parts (field "(object=" (object_text s.object)) (field " values=" (listed property_value_text s.values)) (codes ")"))

-- an object and a property of it
pub object_property_paid : (object : Identifier) (property : ℕ) (index : Option ℕ) (b : List ℕ) → SpellsObjectProperty (object, (property, index)) b
    → length (object_text object) + length (property_text property index) + 74 ≤ 15 * length b
object_property_paid object property index b h =
    omega (arith, object_paid 0 object h.front h.first, property_paid 1 2 property index h.back h.second, joined_length h)
