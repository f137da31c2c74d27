-- What is printed of open values.
use Rattle.std.specs.Prelude.{codes, nat_eq, if◌then◌else◌}
use Rattle.std.specs.Int.{w64}
use Rattle.std.specs.Fmt.{signed_decimal}
use Rattle.std.proofs.Common.{◌≡◌, ℕ, Bool, true, false, List, [], ◌∷◌, ◌++◌, map, length, refl, sym, ap, ◌∙◌, append_assoc}
use Rattle.std.proofs.lemmas.Int.{to_z-of_z}
use Rattle.bac_value.specs.RealContents.{real_octets}
use Rattle.bac_value.specs.DoubleContents.{double_octets}
use Rattle.bac_value.specs.BitsContents.{packed_bits}
use Rattle.bac_value.specs.Laws.Bits.{bits_in_packed}
use Rattle.bac_value.specs.PrimContents.{IsPrim}
use Rattle.bac_value.specs.declared.prim.PrimitiveValue.{PrimitiveValue}
use Rattle.bac_value.specs.declared.prim.PrimitiveValue.TheVariants.{Null, Boolean, Unsigned, Signed, RealBits, DoubleBits, Octets, Text, Bits, Enumerated, Date, Time, ObjectId}
use Rattle.bac_data.specs.OpenValue.{Elements, AreElements}
use Rattle.bac_data.specs.Events.{Event, application, contextual, opening, closing, events}
use Rattle.bac_text.specs.Words.{object_text}
use Rattle.bac_text.specs.PrimitiveText.{bit_digit, primitive_text}
use Rattle.bac_text.specs.OpenValueText.{open_text}
use Rattle.bac_text.specs.WalkText.{blank, event_text, begins_group, events_text}
use Rattle.bac_text.proofs.WalkLemmas.{walk_joined}
use Rattle.bac_field_parts.specs.declared.names.Name.TheVariants as name
use Rattle.bac_field_parts.specs.Fields.{FieldValue, next, opening_field, closing_field}
use Rattle.bac_field_parts.specs.PrimitiveFields.{primitive_field, truth}
use Rattle.bac_field_parts.specs.OpenValueFields.{event_field, event_step, open_steps}
use Rattle.bac_fields.specs.Line.{as_brace, form_of, shown, begins, lead}
use Rattle.bac_fields.proofs.LineLemmas.{Prints, line_of, same_line, stepped, opened, one, object_is}
use Rattle.bac_fields.proofs.EventRanges.{Each, HoldsEvent, elements_hold}

truth_shown : (value : Bool) → (if nat_eq (truth value) 0 then codes "false" else codes "true") ≡ (if value then codes "true" else codes "false")
truth_shown true = refl
truth_shown false = refl

primitive_shown : (prim : PrimitiveValue) → IsPrim prim → shown (form_of (primitive_field prim).name) (primitive_field prim) ≡ primitive_text prim
unfolding real_octets double_octets
primitive_shown (Null value) h = refl
primitive_shown (Boolean value) h = truth_shown value.0
primitive_shown (Unsigned value) h = refl
primitive_shown (Signed value) h = ap (λ z. codes "i:" ++ signed_decimal z) (to_z-of_z w64 value.0 h)
primitive_shown (RealBits value) h = refl
primitive_shown (DoubleBits value) h = refl
primitive_shown (Octets octets) h = refl
primitive_shown (Text text) h = refl
primitive_shown (Bits bits) h = ap (λ b. codes "b:" ++ map bit_digit b) (bits_in_packed bits (length bits) (packed_bits bits) h refl refl)
primitive_shown (Enumerated value) h = refl
primitive_shown (Date value) h = refl
primitive_shown (Time value) h = refl
primitive_shown (ObjectId object) h = ap (λ o. codes "id:" ++ object_text o) (object_is object h)

-- no primitive begins or ends anything
primitive_led : (first : Bool) (prim : PrimitiveValue) → lead first (form_of (primitive_field prim).name) ≡ blank first
primitive_led first (Null value) = refl
primitive_led first (Boolean value) = refl
primitive_led first (Unsigned value) = refl
primitive_led first (Signed value) = refl
primitive_led first (RealBits value) = refl
primitive_led first (DoubleBits value) = refl
primitive_led first (Octets octets) = refl
primitive_led first (Text text) = refl
primitive_led first (Bits bits) = refl
primitive_led first (Enumerated value) = refl
primitive_led first (Date value) = refl
primitive_led first (Time value) = refl
primitive_led first (ObjectId object) = refl

primitive_begins : (prim : PrimitiveValue) → begins (form_of (primitive_field prim).name) ≡ false
primitive_begins (Null value) = refl
primitive_begins (Boolean value) = refl
primitive_begins (Unsigned value) = refl
primitive_begins (Signed value) = refl
primitive_begins (RealBits value) = refl
primitive_begins (DoubleBits value) = refl
primitive_begins (Octets octets) = refl
primitive_begins (Text text) = refl
primitive_begins (Bits bits) = refl
primitive_begins (Enumerated value) = refl
primitive_begins (Date value) = refl
primitive_begins (Time value) = refl
primitive_begins (ObjectId object) = refl

event_line : (first : Bool) (event : Event) → HoldsEvent event → line_of first (event_field event) ≡ event_text first event
event_line first (application prim) h =
    ap (λ l. l ++ shown (form_of (primitive_field prim).name) (primitive_field prim)) (primitive_led first prim) ∙ ap (λ l. blank first ++ l) (primitive_shown prim h)
event_line first (contextual tag octets) h = refl
event_line first (opening tag) h = refl
event_line first (closing tag) h = refl

event_begins : (event : Event) → begins (form_of (event_field event).name) ≡ begins_group event
event_begins (application prim) = primitive_begins prim
event_begins (contextual tag octets) = refl
event_begins (opening tag) = refl
event_begins (closing tag) = refl

-- the events of a value, and its end
events_line : (first : Bool) (end : FieldValue) (es : List Event) → form_of end.name ≡ as_brace → Each HoldsEvent es → Prints first (map event_step es ++ next end ∷ []) (events_text first es ++ codes "}")
events_line first end [] e h = same_line (ap (λ f. lead first f ++ shown f end) e) (one first end (ap begins e))
events_line first end (event ∷ es) e h =
    same_line (sym (append_assoc (event_text first event) (events_text (begins_group event) es) (codes "}")))
    (stepped (event_line first event h.0) (event_begins event) (events_line (begins_group event) end es e h.1))

pub open_line : (tag : ℕ) (value : Elements) → AreElements value → Prints false (open_steps tag value) (codes " value=" ++ open_text value)
open_line tag value h =
    same_line (ap (λ l. codes " value={" ++ (l ++ codes "}")) (walk_joined value))
    (opened false (opening_field name.Value tag 0) refl (events_line true (closing_field name.ValueEnd tag 0) (events value) refl (elements_hold value h)))
