-- The fields of open values are tokens.
use Rattle.std.specs.Int.{w32, w64, to_be_bytes}
use Rattle.std.proofs.Common.{◌≡◌, ℕ, ◌<◌, ◌≤◌, ◌^◌, List, [], ◌∷◌, ◌++◌, map, length, refl, sym, arith}
use Rattle.std.proofs.Math.Facts.{Fits-of_z}
use Rattle.std.proofs.lemmas.List.{map-append}
use Rattle.std.proofs.lemmas.Nat.{from_be_bytes-to_be_bytes_4, from_be_bytes-to_be_bytes_8}
use Rattle.bac_tag.specs.Octets.{IsOctets}
use Rattle.bac_tag.specs.Laws.Octets.{octets_front, octets_back}
use Rattle.bac_tag.specs.Writing.{narrow_head}
use Rattle.bac_value.specs.RealContents.{real_octets}
use Rattle.bac_value.specs.DoubleContents.{double_octets}
use Rattle.bac_value.specs.TextContents.{text_octets}
use Rattle.bac_value.specs.BitsContents.{packed_bits}
use Rattle.bac_value.specs.Laws.Bits.{bits_in_packed}
use Rattle.bac_value.specs.PrimContents.{IsPrim}
use Rattle.bac_value.specs.declared.prim.PrimitiveValue.{PrimitiveValue}
use Rattle.bac_value.specs.declared.prim.PrimitiveValue.TheVariants.{Null, Boolean, Unsigned, Signed, RealBits, DoubleBits, Octets, Text, Bits, Enumerated, Date, Time, ObjectId}
use Rattle.bac_data.specs.OpenValue.{Element, primitive, context, group, Elements, none, more, IsElement, AreElements}
use Rattle.bac_data.specs.Events.{closing, element_events, events}
use Rattle.bac_data.specs.Spells.{SpellsOpen}
use Rattle.bac_data.proofs.ValueLemmas.{open_value_only}
use Rattle.bac_field_parts.specs.declared.names.Name.TheVariants as name
use Rattle.bac_field_parts.specs.Fields.{FieldValue, under_tag, opening_field, closing_field}
use Rattle.bac_field_parts.specs.PrimitiveFields.{primitive_field}
use Rattle.bac_field_parts.specs.OpenValueFields.{event_step, open_steps}
use Rattle.bac_fields.specs.Line.{form_of}
use Rattle.bac_lines.specs.declared.closing.Closing.{Closing}
use Rattle.bac_lines.specs.Scanning.{number_after, open_end, TokenIn}
use Rattle.bac_lines.proofs.TokenLemmas.{Lexes, same_steps, both, nothing, edge, one, truth_small, object_below}

-- ---- primitives

-- what four octets and what eight octets are
four_octets : (n : ℕ) → n < 2 ^ 32 → n ≡ number_after 0 (to_be_bytes w32 n)
four_octets n h = omega (arith, from_be_bytes-to_be_bytes_4 n h)

eight_octets : (n : ℕ) → n < 2 ^ 64 → n ≡ number_after 0 (to_be_bytes w64 n)
eight_octets n h = omega (arith, from_be_bytes-to_be_bytes_8 n h)

-- the contents of a field are octets, as all of it is
contents_octets : (v : FieldValue) → IsOctets (v.head ++ v.contents) → IsOctets v.contents
contents_octets v o = octets_back v.head v.contents o

primitive_token : (ends : List Closing) (prim : PrimitiveValue) → IsPrim prim → IsOctets ((primitive_field prim).head ++ (primitive_field prim).contents)
    → TokenIn (form_of (primitive_field prim).name) ends (primitive_field prim) ends
unfolding real_octets double_octets
primitive_token ends (Null value) h o = (refl, refl)
primitive_token ends (Boolean value) h o = (truth_small value.0, refl)
primitive_token ends (Unsigned value) h o = (h, refl)
primitive_token ends (Signed value) h o = ((Fits-of_z h).fits, refl)
primitive_token ends (RealBits value) h o = ((four_octets value.0 h, refl), (contents_octets (primitive_field (RealBits value)) o, refl))
primitive_token ends (DoubleBits value) h o = ((eight_octets value.0 h, refl), (contents_octets (primitive_field (DoubleBits value)) o, refl))
primitive_token ends (Octets octets) h o = (refl, (contents_octets (primitive_field (Octets octets)) o, refl))
primitive_token ends (Text text) h o =
    let v : FieldValue = primitive_field (Text text) in
    ((octets_back (narrow_head 0 7 (length (text_octets text))) (text.set ∷ []) (octets_front v.head v.contents o)).0, (contents_octets v o, refl))
primitive_token ends (Bits bits) h o = (bits, (refl, (refl, (bits_in_packed bits (length bits) (packed_bits bits) h refl refl, refl))))
primitive_token ends (Enumerated value) h o = (omega (arith, h), refl)
primitive_token ends (Date value) h o = (refl, (contents_octets (primitive_field (Date value)) o, refl))
primitive_token ends (Time value) h o = (refl, (contents_octets (primitive_field (Time value)) o, refl))
primitive_token ends (ObjectId object) h o = (object_below object h, refl)

-- ---- groups

-- the ends inside of a group, and inside of a value
abbrev in_group : List Closing → ℕ → List Closing
in_group ends tag = ends ++ open_end name.GroupEnd tag ∷ []

abbrev in_value : List Closing → List Closing
in_value ends = ends ++ open_end name.ValueEnd 0 ∷ []

tag_small : (tag : ℕ) → tag ≤ 254 → tag < 256
tag_small tag h = omega (arith, h)

mutual
  element_lexes : (ends : List Closing) (element : Element) → IsElement element → Lexes ends ends (map event_step (element_events element))
  element_lexes ends (primitive prim) h = one ends (primitive_field prim) (primitive_token ends prim h)
  element_lexes ends (context tag octets) h =
      let v : FieldValue = under_tag name.ContextPrimitive tag tag octets in
      one ends v (λ o. (tag_small tag h.0, (contents_octets v o, refl)))
  element_lexes ends (group tag inner) h =
      both (edge ends (in_group ends tag) (opening_field name.Group tag tag) (λ o. (tag_small tag h.0, refl)))
      (same_steps (sym (map-append event_step (events inner) (closing tag ∷ [])))
      (both (elements_lexes (in_group ends tag) inner h.1) (edge (in_group ends tag) ends (closing_field name.GroupEnd tag tag) (λ o. refl))))

  elements_lexes : (ends : List Closing) (value : Elements) → AreElements value → Lexes ends ends (map event_step (events value))
  elements_lexes ends none h = nothing ends
  elements_lexes ends (more element rest) h = same_steps (sym (map-append event_step (element_events element) (events rest))) (both (element_lexes ends element h.0) (elements_lexes ends rest h.1))

pub open_lexes : (ends : List Closing) (tag : ℕ) (value : Elements) (b : List ℕ) → SpellsOpen 32 tag value b → Lexes ends ends (open_steps tag value)
open_lexes ends tag value b h =
    both (edge ends (in_value ends) (opening_field name.Value tag 0) (λ o. (refl, refl)))
    (both (elements_lexes (in_value ends) value (open_value_only 32 tag value b h).1.0) (edge (in_value ends) ends (closing_field name.ValueEnd tag 0) (λ o. refl)))
