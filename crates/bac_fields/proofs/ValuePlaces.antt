-- The octets of fields under tags, and of open values.
use Rattle.std.proofs.Common.{◌≡◌, ◌≢◌, ℕ, suc, ◌+◌, ◌-◌, ◌*◌, ◌^◌, ◌<◌, ◌≤◌, Bool, true, false, Option, None, Some, List, [], ◌∷◌, ◌++◌, map, length, refl, sym, ap, subst, ◌∙◌, append_assoc, append-nil, arith, lit≤, lit<}
use Rattle.std.specs.Int.{from_bool}
use Rattle.std.proofs.lemmas.List.{length-append}
use Rattle.bac_tag.specs.declared.heads.TagHead.TheVariants.{Open, Close}
use Rattle.bac_tag.specs.Octets.{NoGreater}
use Rattle.bac_tag.specs.Heads.{Heads}
use Rattle.bac_tag.specs.Spelling.{IsLeast}
use Rattle.bac_tag.specs.Writing.{narrow_head, narrow_opening}
use Rattle.bac_tag.proofs.WritingLemmas.{least_app, least_bool, least_ctx, least_open as least_opening, least_close as least_closing}
use Rattle.bac_numbers.specs.Numbers.{NumberContents, least_number}
use Rattle.bac_value.specs.Primitives.{IsTheList}
use Rattle.bac_value.specs.Identifier.{Identifier, IsIdentifier, identifier_octets}
use Rattle.bac_value.specs.BooleanContents.{IsBoolean, boolean_octets}
use Rattle.bac_value.specs.TextContents.{text_octets}
use Rattle.bac_value.specs.BitsContents.{least_bits, packed_bits, octets_for}
use Rattle.bac_value.specs.declared.types.boolean_value.Boolean.{Boolean as BooleanValue}
use Rattle.bac_value.specs.declared.types.enumeration.Enumerated.{Enumerated as EnumeratedValue}
use Rattle.bac_value.specs.declared.prim.PrimitiveValue.{PrimitiveValue}
use Rattle.bac_value.specs.declared.prim.PrimitiveValue.TheVariants.{Null, Boolean, Unsigned, Signed, RealBits, DoubleBits, Octets, Text, Bits, Enumerated, Date, Time, ObjectId}
use Rattle.bac_value.specs.PrimContents.{application_number, IsPrim, prim_written}
use Rattle.bac_value.specs.Laws.Primitives.{the_list_written, the_list_least}
use Rattle.bac_value.specs.Laws.AnyOctets.{any_octets_lengths}
use Rattle.bac_value.specs.Laws.Identifier.{identifier_any_octets}
use Rattle.bac_numbers.specs.Laws.Numbers.{number_written_in, number_least}
use Rattle.bac_value.specs.Laws.Prim.{prim_written_contents, prim_limit}
use Rattle.bac_data.specs.OpenValue.{Elements}
use Rattle.bac_data.specs.Spells.{SpellsOpen, SpellsPrimitive}
use Rattle.bac_data.specs.Events.{Event, application, contextual, opening, closing, events, SpellsEvent, SpellsEvents}
use Rattle.bac_data.proofs.ValueLemmas.{open_value_only}
use Rattle.bac_data.proofs.LeastLemmas.{least_open, least_whole}
use Rattle.bac_data.proofs.EventLeastLemmas.{least_contents, least_boolean_of, least_context}
use Rattle.bac_productions.specs.Fields.{heading, IsField}
use Rattle.bac_productions.specs.Contents.{ObjectField, EnumeratedField, UnsignedField, InstanceField, PriorityField, BooleanField, ApplicationObject, ApplicationUnsigned, ApplicationEnumerated, ApplicationUnsigned16}
use Rattle.bac_productions.specs.Laws.Least.{least_nothing}
use Rattle.bac_productions.specs.Laws.Field.{least_field}
use Rattle.bac_field_parts.specs.declared.names.Name.{Name}
use Rattle.bac_field_parts.specs.declared.names.Name.TheVariants as name
use Rattle.bac_field_parts.specs.Fields.{FieldValue, next, opening_field, closing_field}
use Rattle.bac_field_parts.specs.PrimitiveFields.{truth, object_number, primitive_field, number_under, truth_under, object_under, unsigned_field, enumerated_field, object_field}
use Rattle.bac_field_parts.specs.OpenValueFields.{event_field, event_step, open_steps}
use Rattle.bac_fields.proofs.EventRanges.{Each, HoldsEvent, elements_hold}
use Rattle.bac_field_parts.proofs.FieldLemmas.{length-packed_bits}
use Rattle.bac_fields.proofs.PlaceLemmas.{tells_nothing, tells_next, tells_both, tells_same, count-append, Laid, laid_joined, Roomy}

-- ---- fields under tags

-- the narrowest head of contents
abbrev head_of : Option ℕ → ℕ → ℕ → List ℕ
head_of (Some tag) type size = narrow_head 1 tag size
head_of None type size = narrow_head 0 type size

narrow_least : (tag : Option ℕ) (type size length : ℕ) (b : List ℕ) → size < 2 ^ 32 → Heads (heading tag type length) b → IsLeast (Heads (heading tag type size)) (head_of tag type size)
narrow_least (Some tag) type size length b small h = least_ctx tag size (narrow_head 1 tag size) h.valid small refl
narrow_least None type size length b small h = least_app type size (narrow_head 0 type size) h.valid small refl

head_some : (tag : Option ℕ) (type size : ℕ) → 1 ≤ length (head_of tag type size)
head_some (Some tag) type size = omega arith
head_some None type size = omega arith

-- the contents that are written, under the narrowest head
field_roomy : {V : Type 0} (contents : V → List ℕ → Type 0) (written : List ℕ) (tag : Option ℕ) (type : ℕ) (value : V) (b : List ℕ) (of_name : Name) (number : ℕ) → IsField (heading tag type) contents value b
    → contents value written → ((c : List ℕ) → contents value c → NoGreater written c) → length written < 2 ^ 32 → 1 ≤ length written
    → Roomy (IsField (heading tag type) contents value) (next (record { name = of_name; number = number; head = head_of tag type (length written); contents = written }) ∷ [])
field_roomy contents written tag type value b of_name number h spelled least small some =
    let head = head_of tag type (length written) in
    let long = head_some tag type (length written) in
    record {
      laid = record {
        octets = head ++ written;
        is_least = least_field contents tag type value written spelled least head (narrow_least tag type (length written) (length h.body) h.head small h.headed);
        tells = tells_next (record { name = of_name; number = number; head = head; contents = written });
        few = omega (arith, long, length-append head written);
      };
      roomy = omega (arith, long, some, length-append head written);
    }

-- a number, from a least to a most one
module _ (low high : ℕ) (below : high < 2 ^ 64) where
  number_roomy : (tag : Option ℕ) (type n : ℕ) (b : List ℕ) (of_name : Name) → IsField (heading tag type) (λ value octets. NumberContents low high value octets) n b
      → Roomy (IsField (heading tag type) (λ value octets. NumberContents low high value octets) n) (next (record { name = of_name; number = n; head = head_of tag type (length (least_number n)); contents = least_number n }) ∷ [])
  number_roomy tag type n b of_name h =
      let w : NumberContents low high n (least_number n) = number_written_in low high n h.spelled.least h.spelled.most (omega (arith, h.spelled.most, below)) in
      field_roomy (λ value octets. NumberContents low high value octets) (least_number n) tag type n b of_name n h w (λ c. number_least low high n c) (omega (arith, w.sized)) w.sized.0

  enumerated_roomy_in : (tag : Option ℕ) (value : EnumeratedValue) (b : List ℕ) (of_name : Name) → IsField (heading tag 9) (λ (v : EnumeratedValue) octets. NumberContents low high v.0 octets) value b
      → Roomy (IsField (heading tag 9) (λ (v : EnumeratedValue) octets. NumberContents low high v.0 octets) value) (next (record { name = of_name; number = value.0; head = head_of tag 9 (length (least_number value.0)); contents = least_number value.0 }) ∷ [])
  enumerated_roomy_in tag value b of_name h =
      let w : NumberContents low high value.0 (least_number value.0) = number_written_in low high value.0 h.spelled.least h.spelled.most (omega (arith, h.spelled.most, below)) in
      field_roomy (λ (v : EnumeratedValue) octets. NumberContents low high v.0 octets) (least_number value.0) tag 9 value b of_name value.0 h w (λ c. number_least low high value.0 c) (omega (arith, w.sized)) w.sized.0

-- an object identifier
object_roomy_in : (tag : Option ℕ) (object : Identifier) (b : List ℕ) (of_name : Name) → IsField (heading tag 12) (IsTheList IsIdentifier identifier_octets) object b
    → Roomy (IsField (heading tag 12) (IsTheList IsIdentifier identifier_octets) object)
    (next (record { name = of_name; number = object_number object; head = head_of tag 12 (length (identifier_octets object)); contents = identifier_octets object }) ∷ [])
object_roomy_in tag object b of_name h =
    let w = the_list_written IsIdentifier identifier_octets object h.spelled.value_holds in
    field_roomy (IsTheList IsIdentifier identifier_octets) (identifier_octets object) tag 12 object b of_name (object_number object) h w (λ c. the_list_least IsIdentifier identifier_octets object c)
    (omega (arith, prim_limit (ObjectId object) (identifier_octets object) w)) (omega (arith, any_octets_lengths identifier_any_octets object (identifier_octets object) w))

pub object_roomy : (of_name : Name) (tag : ℕ) (object : Identifier) (b : List ℕ) → ObjectField tag object b → Roomy (ObjectField tag object) (next (object_under of_name tag object) ∷ [])
object_roomy of_name tag object b h = object_roomy_in (Some tag) object b of_name h

pub object_laid : (of_name : Name) (tag : ℕ) (object : Identifier) (b : List ℕ) → ObjectField tag object b → Laid (ObjectField tag object) (next (object_under of_name tag object) ∷ [])
object_laid of_name tag object b h = (object_roomy of_name tag object b h).laid

pub unsigned_laid : (of_name : Name) (tag n : ℕ) (b : List ℕ) → UnsignedField tag n b → Laid (UnsignedField tag n) (next (number_under of_name tag n) ∷ [])
unsigned_laid of_name tag n b h = (number_roomy 0 (2 ^ 32 - 1) (lit< tt) (Some tag) 2 n b of_name h).laid

pub instance_laid : (of_name : Name) (tag n : ℕ) (b : List ℕ) → InstanceField tag n b → Laid (InstanceField tag n) (next (number_under of_name tag n) ∷ [])
instance_laid of_name tag n b h = (number_roomy 0 4194303 (lit< tt) (Some tag) 2 n b of_name h).laid

pub priority_laid : (of_name : Name) (tag n : ℕ) (b : List ℕ) → PriorityField tag n b → Laid (PriorityField tag n) (next (number_under of_name tag n) ∷ [])
priority_laid of_name tag n b h = (number_roomy 1 16 (lit< tt) (Some tag) 2 n b of_name h).laid

pub enumerated_roomy : (of_name : Name) (tag n : ℕ) (b : List ℕ) → EnumeratedField tag n b → Roomy (EnumeratedField tag n) (next (number_under of_name tag n) ∷ [])
enumerated_roomy of_name tag n b h = enumerated_roomy_in 0 (2 ^ 32 - 1) (lit< tt) (Some tag) (record { 0 = n }) b of_name h

pub boolean_laid : (of_name : Name) (tag : ℕ) (value : Bool) (b : List ℕ) → BooleanField tag value b → Laid (BooleanField tag value) (next (truth_under of_name tag value) ∷ [])
boolean_laid of_name tag value b h =
    let bit : BooleanValue = record { 0 = value } in
    (field_roomy (IsTheList IsBoolean boolean_octets) (boolean_octets bit) (Some tag) 1 bit b of_name (truth value) h (the_list_written IsBoolean boolean_octets bit tt) (λ c. the_list_least IsBoolean boolean_octets bit c) (lit< tt)
    (lit≤ tt)).laid

pub application_object_laid : (of_name : Name) (object : Identifier) (b : List ℕ) → ApplicationObject object b → Laid (ApplicationObject object) (next (object_field of_name object) ∷ [])
application_object_laid of_name object b h = (object_roomy_in None object b of_name h).laid

pub application_unsigned_laid : (of_name : Name) (n : ℕ) (b : List ℕ) → ApplicationUnsigned n b → Laid (ApplicationUnsigned n) (next (unsigned_field of_name n) ∷ [])
application_unsigned_laid of_name n b h = (number_roomy 0 (2 ^ 32 - 1) (lit< tt) None 2 n b of_name h).laid

pub application_unsigned16_laid : (of_name : Name) (n : ℕ) (b : List ℕ) → ApplicationUnsigned16 n b → Laid (ApplicationUnsigned16 n) (next (unsigned_field of_name n) ∷ [])
application_unsigned16_laid of_name n b h = (number_roomy 0 (2 ^ 16 - 1) (lit< tt) None 2 n b of_name h).laid

pub application_enumerated_laid : (of_name : Name) (n : ℕ) (b : List ℕ) → ApplicationEnumerated n b → Laid (ApplicationEnumerated n) (next (enumerated_field of_name n) ∷ [])
application_enumerated_laid of_name n b h = (enumerated_roomy_in 0 (2 ^ 32 - 1) (lit< tt) None (record { 0 = n }) b of_name h).laid

-- ---- primitives

contents_laid : (prim : PrimitiveValue) (v : FieldValue) → (application_number prim ≤ 12) × (application_number prim ≢ 1) → IsPrim prim
    → 1 ≤ length (v.head ++ v.contents) → narrow_head 0 (application_number prim) (length (prim_written prim)) ++ prim_written prim ≡ v.head ++ v.contents → Laid (SpellsPrimitive prim) (next v ∷ [])
contents_laid prim v valid h some e =
    let w = prim_written_contents prim h in
    let head = narrow_head 0 (application_number prim) (length (prim_written prim)) in
    record {
      octets = v.head ++ v.contents;
      is_least = subst (IsLeast (SpellsPrimitive prim)) e
          (least_contents prim (prim_written prim) head valid.1 w refl (least_app (application_number prim) (length (prim_written prim)) head valid (omega (arith, prim_limit prim (prim_written prim) w)) refl));
      tells = tells_next v;
      few = omega (arith, some);
    }

boolean_element : (value : BooleanValue) → Laid (SpellsPrimitive (Boolean value)) (next (primitive_field (Boolean value)) ∷ [])
boolean_element value =
    let v : FieldValue = primitive_field (Boolean value) in
    record { octets = v.head; is_least = least_boolean_of value v.head (least_bool value.0 v.head (bit_head value.0)); tells = tells_same (append-nil v.head) (tells_next v); few = omega arith }
  where
    bit_head : (bit : Bool) → narrow_opening 0 1 (truth bit) ≡ narrow_opening 0 1 (from_bool bit)
    bit_head true = refl
    bit_head false = refl

bits_written_in : (bits : List Bool) (head : ℕ → List ℕ) → head (length (least_bits bits)) ++ least_bits bits ≡ (head (1 + octets_for (length bits)) ++ (8 * octets_for (length bits) - length bits) ∷ []) ++ packed_bits bits
unfolding least_bits
bits_written_in bits head =
    let unused : ℕ = 8 * octets_for (length bits) - length bits in
    let size : suc (length (packed_bits bits)) ≡ 1 + octets_for (length bits) = omega (arith, length-packed_bits bits) in
    ap (λ n. head n ++ unused ∷ packed_bits bits) size ∙ sym (append_assoc (head (1 + octets_for (length bits))) (unused ∷ []) (packed_bits bits))

primitive_laid : (prim : PrimitiveValue) → IsPrim prim → Laid (SpellsPrimitive prim) (next (primitive_field prim) ∷ [])
primitive_laid (Null value) h = contents_laid (Null value) (primitive_field (Null value)) (lit≤ tt, λ e. omega (arith, e)) h (omega arith) refl
primitive_laid (Boolean value) h = boolean_element value
primitive_laid (Unsigned value) h = contents_laid (Unsigned value) (primitive_field (Unsigned value)) (lit≤ tt, λ e. omega (arith, e)) h (omega arith) refl
primitive_laid (Signed value) h = contents_laid (Signed value) (primitive_field (Signed value)) (lit≤ tt, λ e. omega (arith, e)) h (omega arith) refl
primitive_laid (RealBits value) h = contents_laid (RealBits value) (primitive_field (RealBits value)) (lit≤ tt, λ e. omega (arith, e)) h (omega arith) refl
primitive_laid (DoubleBits value) h = contents_laid (DoubleBits value) (primitive_field (DoubleBits value)) (lit≤ tt, λ e. omega (arith, e)) h (omega arith) refl
primitive_laid (Octets octets) h = contents_laid (Octets octets) (primitive_field (Octets octets)) (lit≤ tt, λ e. omega (arith, e)) h (omega arith) refl
primitive_laid (Text text) h =
    contents_laid (Text text) (primitive_field (Text text)) (lit≤ tt, λ e. omega (arith, e)) h (omega arith) (sym (append_assoc (narrow_head 0 7 (length (text_octets text))) (text.set ∷ []) text.octets))
primitive_laid (Bits bits) h = contents_laid (Bits bits) (primitive_field (Bits bits)) (lit≤ tt, λ e. omega (arith, e)) h (omega arith) (bits_written_in bits (narrow_head 0 8))
primitive_laid (Enumerated value) h = contents_laid (Enumerated value) (primitive_field (Enumerated value)) (lit≤ tt, λ e. omega (arith, e)) h (omega arith) refl
primitive_laid (Date value) h = contents_laid (Date value) (primitive_field (Date value)) (lit≤ tt, λ e. omega (arith, e)) h (omega arith) refl
primitive_laid (Time value) h = contents_laid (Time value) (primitive_field (Time value)) (lit≤ tt, λ e. omega (arith, e)) h (omega arith) refl
primitive_laid (ObjectId object) h = contents_laid (ObjectId object) (primitive_field (ObjectId object)) (lit≤ tt, λ e. omega (arith, e)) h (omega arith) refl

-- ---- open values

pub opening_laid : (of_name : Name) (tag number : ℕ) → tag ≤ 254 → Laid (Heads (Open tag)) (next (opening_field of_name tag number) ∷ [])
opening_laid of_name tag number h = record {
  octets = narrow_opening 1 tag 6;
  is_least = least_opening tag (narrow_opening 1 tag 6) h refl;
  tells = tells_same (append-nil (narrow_opening 1 tag 6)) (tells_next (opening_field of_name tag number));
  few = omega arith;
}

pub closing_laid : (of_name : Name) (tag number : ℕ) → tag ≤ 254 → Laid (Heads (Close tag)) (next (closing_field of_name tag number) ∷ [])
closing_laid of_name tag number h = record {
  octets = narrow_opening 1 tag 7;
  is_least = least_closing tag (narrow_opening 1 tag 7) h refl;
  tells = tells_same (append-nil (narrow_opening 1 tag 7)) (tells_next (closing_field of_name tag number));
  few = omega arith;
}

event_laid : (event : Event) → HoldsEvent event → Laid (SpellsEvent event) (event_step event ∷ [])
event_laid (application prim) h = primitive_laid prim h
event_laid (contextual tag octets) h = record {
  octets = narrow_head 1 tag (length octets) ++ octets;
  is_least = least_context tag octets (narrow_head 1 tag (length octets)) h.1 (least_ctx tag (length octets) (narrow_head 1 tag (length octets)) h.0 (omega (arith, h.1)) refl);
  tells = tells_next (event_field (contextual tag octets));
  few = omega arith;
}
event_laid (opening tag) h = opening_laid name.Group tag tag h
event_laid (closing tag) h = closing_laid name.GroupEnd tag tag h

events_laid : (es : List Event) → Each HoldsEvent es → Laid (SpellsEvents es) (map event_step es)
events_laid [] h = record { octets = []; is_least = least_nothing; tells = tells_nothing; few = omega arith }
events_laid (event ∷ es) h = laid_joined (event_laid event h.0) (events_laid es h.1)

pub open_laid : (tag : ℕ) (value : Elements) (b : List ℕ) → SpellsOpen 32 tag value b → Laid (SpellsOpen 32 tag value) (open_steps tag value)
open_laid tag value b h =
    let is = open_value_only 32 tag value b h in
    let first = opening_laid name.Value tag 0 is.0 in
    let inner = events_laid (events value) (elements_hold value is.1.0) in
    let last = closing_laid name.ValueEnd tag 0 is.0 in
    record {
      octets = first.octets ++ (inner.octets ++ last.octets);
      is_least = least_open 32 tag value (first.octets ++ (inner.octets ++ last.octets)) h.nested (least_whole tag value (events value) first.octets inner.octets last.octets refl first.is_least inner.is_least last.is_least);
      tells = tells_both first.tells (tells_both inner.tells last.tells);
      few = omega (arith, first.few, inner.few, last.few, count-append (map event_step (events value)) (next (closing_field name.ValueEnd tag 0) ∷ []), length-append first.octets (inner.octets ++ last.octets), length-append inner.octets last.octets);
    }
