-- The items of lists, and errors between tags, are lawful.
use Rattle.std.specs.Prelude.{ℕ, ◌-◌, ◌^◌, ◌≤◌, ◌<◌, List, [], ◌∷◌, ◌++◌, Bool, true, false, ◌&&◌, ◌||◌, ◌==◌, nat_le, IsTrue, Option, Some, None, refl}
use Rattle.std.proofs.Common.{sym, subst, eqb-true, lit≤, lit<}
use Rattle.bac_tag.specs.Spelling.{Joined, OneOf}
use Rattle.bac_tag.specs.declared.heads.TagHead.TheVariants.{Open, Close}
use Rattle.bac_value.specs.Identifier.{IsIdentifier, identifier_octets}
use Rattle.bac_value.specs.Laws.AnyOctets.{any_octets_lengths, any_octets_each_length}
use Rattle.bac_value.specs.Laws.Enumerated.{enumerated_each_length}
use Rattle.bac_value.specs.Laws.Identifier.{identifier_any_octets}
use Rattle.bac_numbers.specs.Laws.Numbers.{number_lengths}
use Rattle.bac_value.specs.Laws.NumberTypes.{number_each_length}
use Rattle.bac_numbers.specs.Numbers.{NumberContents}
use Rattle.bac_value.specs.Primitives.{IsTheList}
use Rattle.bac_value.specs.declared.types.enumeration.Enumerated.{Enumerated}
use Rattle.bac_productions.specs.Contents.{ObjectField, UnsignedField, PriorityField, EnumeratedPart, ApplicationEnumeratedPart}
use Rattle.bac_productions.specs.Laws.Field.{HasLengths, field_inhabited}
use Rattle.bac_productions.specs.Laws.Tag.{opening_inhabited, closing_inhabited}
use Rattle.bac_productions.specs.Productions.{Head, Items, Optional, Grouped, IsInhabited}
use Rattle.bac_service.specs.ErrorCause.{SpellsErrorCause}
use Rattle.bac_service.specs.PropertyReference.{SpellsPropertyReference}
use Rattle.bac_service.specs.PropertyResult.{SpellsPropertyResult}
use Rattle.bac_service.specs.PropertyValue.{SpellsPropertyValue}
use Rattle.bac_service.specs.ReadAccessResult.{SpellsAccessResult}
use Rattle.bac_service.specs.ReadAccessSpecification.{SpellsSpecification}
use Rattle.bac_service.specs.WriteAccessSpecification.{SpellsWriteSpecification}
use Rattle.bac_field_parts.specs.PrimitiveFields.{object_number}
use Rattle.bac_field_parts.specs.Symbols.{Symbol, named, numbered, containing, finished, lead_of, has, is_edge, nothing_said, Language, Lawful, disjoint, number_said, no_number, the_number, no_octets}
use Rattle.bac_field_parts.specs.Laws.Leaves.{leaf_lawful, end_lawful, nothing_inhabited, octet_inhabited, tag_fits, type_fits}
use Rattle.bac_field_parts.specs.Laws.Tagged.{after_sound}
use Rattle.bac_fields.specs.Laws.ErrorMessages.{SpellsServiceError, service_error_said, service_error_message, cause_choice_inhabited, write_error_said, write_error_message}
use Rattle.bac_service.specs.WritePropertyMultipleError.{SpellsWriteError}
use Rattle.bac_tag.specs.declared.heads.TagHead.{TagHead}
use Rattle.bac_field_parts.specs.Laws.Messages.{message_lawful}
use Rattle.bac_field_parts.specs.Laws.OpenValues.{open_lawful}
use Rattle.bac_field_parts.specs.Laws.Parts.{pair_said, pair_lawful, maybe_said, maybe_lawful, list_said, list_lawful, either_said, choice_lawful}
use Rattle.bac_fields.specs.Laws.ServiceMessages.{reference_said, reference_message, value_said, value_message, cause_said, cause_message, result_said, result_message, specification_said, specification_message, access_said, access_message, write_specification_said, write_specification_message, SpellsChosen}

-- ---- single fields

object_lengths : HasLengths (IsTheList IsIdentifier identifier_octets) 4 4
object_lengths = record { lengths = any_octets_lengths identifier_any_octets; each_length = any_octets_each_length identifier_any_octets }

enumerated_lengths : HasLengths (λ (v : Enumerated) octets. NumberContents 0 (2 ^ 32 - 1) v.0 octets) 1 8
enumerated_lengths = record { lengths = λ v. number_lengths 0 (2 ^ 32 - 1) v.0; each_length = enumerated_each_length }

range_lengths : (low high : ℕ) → low ≤ high → low < 256 → HasLengths (λ v octets. NumberContents low high v octets) 1 8
range_lengths low high range room = record { lengths = number_lengths low high; each_length = number_each_length (λ n. n) (λ n. n) (λ n. refl) low high range room }

pub one : {V : Type 0} {number : V → ℕ} {S : V → List ℕ → Type 0} (name : ℕ) → IsInhabited S → Lawful (Language (number_said name number) S) (Some name ∷ [])
one {number} {S} name i = leaf_lawful name number (λ v. Some []) S i.value i.octets i.spelled

pub word_law : (name : ℕ) → Lawful (Language (number_said name no_number) no_octets) (Some name ∷ [])
word_law name = one name nothing_inhabited

object_law : (name tag : ℕ) → IsTrue (nat_le tag 254) → Lawful (Language (number_said name object_number) (ObjectField tag)) (Some name ∷ [])
object_law name tag small = one name (field_inhabited (IsTheList IsIdentifier identifier_octets) (Some tag) 12 4 4 object_lengths (lit≤ tt, lit≤ tt) (tag_fits tag small))

enumerated_law : (name tag : ℕ) → IsTrue (nat_le tag 254) → Lawful (Language (number_said name (λ (e : Enumerated). e.0)) (EnumeratedPart tag)) (Some name ∷ [])
enumerated_law name tag small = one name (field_inhabited (λ (v : Enumerated) octets. NumberContents 0 (2 ^ 32 - 1) v.0 octets) (Some tag) 9 1 8 enumerated_lengths (lit≤ tt, lit≤ tt) (tag_fits tag small))

typed_law : (name : ℕ) → Lawful (Language (number_said name (λ (e : Enumerated). e.0)) ApplicationEnumeratedPart) (Some name ∷ [])
typed_law name = one name (field_inhabited (λ (v : Enumerated) octets. NumberContents 0 (2 ^ 32 - 1) v.0 octets) None 9 1 8 enumerated_lengths (lit≤ tt, lit≤ tt) (type_fits 9 refl))

unsigned_law : (name tag : ℕ) → IsTrue (nat_le tag 254) → Lawful (Language (number_said name (λ n. n)) (UnsignedField tag)) (Some name ∷ [])
unsigned_law name tag small = one name (field_inhabited (λ v octets. NumberContents 0 (2 ^ 32 - 1) v octets) (Some tag) 2 1 8 (range_lengths 0 (2 ^ 32 - 1) (lit≤ tt) (lit< tt)) (lit≤ tt, lit≤ tt) (tag_fits tag small))

priority_law : (name tag : ℕ) → IsTrue (nat_le tag 254) → Lawful (Language (number_said name (λ n. n)) (PriorityField tag)) (Some name ∷ [])
priority_law name tag small = one name (field_inhabited (λ v octets. NumberContents 1 16 v octets) (Some tag) 2 1 8 (range_lengths 1 16 (lit≤ tt) (lit< tt)) (lit≤ tt, lit≤ tt) (tag_fits tag small))

opening_law : (name tag : ℕ) → IsTrue (nat_le tag 254) → Lawful (Language (number_said name (the_number 0)) (Head (Open tag))) (Some name ∷ [])
opening_law name tag small = one name (opening_inhabited tag small)

closing_law : (name tag : ℕ) → IsTrue (nat_le tag 254) → Lawful (Language (number_said name (the_number 0)) (Head (Close tag))) (Some name ∷ [])
closing_law name tag small = one name (closing_inhabited tag small)

-- ---- parts of parts

module _ {V W : Type 0} {f : V → List Symbol} {g : W → List Symbol} {S : V → List ℕ → Type 0} {T : W → List ℕ → Type 0} {leads others : List (Option ℕ)} where
  pub and_then : Lawful (Language f S) leads → Lawful (Language g T) others → Lawful (Language (pair_said f g S T) (Joined S T)) leads
  and_then first second = pair_lawful f g S T leads others first second

  perhaps : Lawful (Language f S) leads → Lawful (Language g T) others → IsTrue (disjoint leads others) → Lawful (Language (maybe_said f g S T) (Joined (Optional S) T)) (leads ++ others)
  perhaps first second apart = maybe_lawful f g S T leads others first second apart

  each : Lawful (Language f S) leads → Lawful (Language g T) others → IsTrue (disjoint leads others) → Lawful (Language (list_said f g S T) (Joined (Items S) T)) (leads ++ others)
  each first second apart = list_lawful f g S T leads others first second apart

  or_else : Lawful (Language f S) leads → Lawful (Language g T) others → IsTrue (disjoint leads others) → Lawful (Language (either_said f g S T) (OneOf S T)) (leads ++ others)
  or_else first second apart = choice_lawful f g S T leads others first second apart

-- ---- items

pub reference_lawful : Lawful (Language reference_said SpellsPropertyReference) (Some 115 ∷ [])
reference_lawful = message_lawful _ _ _ _ reference_message (Some 115 ∷ []) (and_then (word_law 115) (and_then (enumerated_law 81 0 refl) (perhaps (unsigned_law 82 1 refl) (word_law 116) refl)))

pub value_lawful : Lawful (Language value_said (SpellsPropertyValue 32)) (Some 115 ∷ [])
value_lawful =
    message_lawful _ _ _ _ value_message (Some 115 ∷ [])
    (and_then (word_law 115) (and_then (enumerated_law 81 0 refl) (perhaps (unsigned_law 82 1 refl) (and_then (open_lawful 2 refl) (perhaps (priority_law 83 3 refl) (word_law 116) refl)) refl)))

pub cause_lawful : Lawful (Language cause_said (Grouped 5 SpellsErrorCause)) (Some 119 ∷ [])
cause_lawful = message_lawful _ _ _ _ cause_message (Some 119 ∷ []) (and_then (opening_law 119 5 refl) (and_then (typed_law 93) (and_then (typed_law 94) (closing_law 120 5 refl))))

pub result_lawful : Lawful (Language result_said (SpellsPropertyResult 32)) (Some 115 ∷ [])
result_lawful =
    message_lawful _ _ _ _ result_message (Some 115 ∷ [])
    (and_then (word_law 115) (and_then (enumerated_law 81 2 refl) (perhaps (unsigned_law 82 3 refl) (and_then (or_else (open_lawful 4 refl) cause_lawful refl) (word_law 116)) refl)))

pub specification_lawful : Lawful (Language specification_said SpellsSpecification) (Some 115 ∷ [])
specification_lawful =
    message_lawful _ _ _ _ specification_message (Some 115 ∷ []) (and_then (word_law 115) (and_then (object_law 80 0 refl) (and_then (and_then (opening_law 111 1 refl) (each reference_lawful (closing_law 114 1 refl) refl)) (word_law 116))))

pub access_lawful : Lawful (Language access_said (SpellsAccessResult 32)) (Some 115 ∷ [])
access_lawful =
    message_lawful _ _ _ _ access_message (Some 115 ∷ [])
    (and_then (word_law 115) (and_then (object_law 80 0 refl) (perhaps (and_then (opening_law 112 1 refl) (each result_lawful (closing_law 114 1 refl) refl)) (word_law 116) refl)))

pub write_specification_lawful : Lawful (Language write_specification_said (SpellsWriteSpecification 32)) (Some 115 ∷ [])
write_specification_lawful =
    message_lawful _ _ _ _ write_specification_message (Some 115 ∷ [])
    (and_then (word_law 115) (and_then (object_law 80 0 refl) (and_then (and_then (opening_law 113 1 refl) (each value_lawful (closing_law 114 1 refl) refl)) (word_law 116))))

-- ---- errors

after : {V : Type 0} {f : V → List Symbol} {S : V → List ℕ → Type 0} {leads : List (Option ℕ)} (t : TagHead) → IsTrue (is_edge t) → Lawful (Language f S) leads → Lawful (Language (pair_said nothing_said f (Head t) S) (Joined (Head t) S)) leads
after {f} {S} {leads} t edge law = after_sound t f S true leads (λ h. law) (both (is_edge t) edge)
  where
    both : (b : Bool) → IsTrue b → IsTrue (b && true)
    both true h = refl
    both false h = h

pub service_error_lawful : Lawful (Language service_error_said SpellsServiceError) (Some 30 ∷ [])
service_error_lawful = message_lawful _ _ _ _ service_error_message (Some 30 ∷ []) (and_then (one 30 cause_choice_inhabited) (and_then (typed_law 93) (and_then (typed_law 94) (end_lawful no_octets nothing_inhabited))))

pub write_error_lawful : Lawful (Language write_error_said (λ error. SpellsChosen 16 (SpellsWriteError error))) (Some 30 ∷ [])
write_error_lawful =
    message_lawful _ _ _ _ write_error_message (Some 30 ∷ [])
    (and_then (one 30 (octet_inhabited 16)) (after (Open 0) refl (and_then (typed_law 93) (and_then (typed_law 94) (after (Close 0) refl
    (after (Open 1) refl (and_then (object_law 80 0 refl) (and_then (enumerated_law 81 1 refl) (perhaps (unsigned_law 82 2 refl) (end_lawful (Head (Close 1)) (closing_inhabited 1 refl)) refl)))))))))

-- a list that begins with the one name
pub some_named : (L : Unit {0} → List Symbol → Type 0) (n : ℕ) → Lawful L (Some n ∷ []) → (rest : List Symbol) × L tt (named n ∷ rest)
some_named L n law =
    let (es, l) = law.some in
    let o = law.opens es l in
    by o.first o.among (o.rest) (subst (λ (x : List Symbol). L tt x) o.symbols l)
  where
    by : (k : Symbol) → IsTrue (has (Some n ∷ []) (lead_of k)) → (rest : List Symbol) → L tt (k ∷ rest) → (rest : List Symbol) × L tt (named n ∷ rest)
    by (named m) h rest l = (rest, subst (λ (i : ℕ). L tt (named i ∷ rest)) (sym (eqb-true n m (only (n == m) h))) l)
      where
        only : (b : Bool) → IsTrue (b || false) → IsTrue b
        only true h = refl
        only false h = h
    by (numbered m) h rest l = absurd (cc)
    by (containing c) h rest l = absurd (cc)
    by finished h rest l = absurd (cc)
