-- The fields of an open value tell it.
use Rattle.std.specs.Prelude.{◌≡◌, ℕ, nat_eq, cond, if◌then◌else◌, Bool, true, false, Some, List, [], ◌∷◌, ◌++◌, refl}
use Rattle.std.specs.Int.{w64, cast_signed}
use Rattle.std.specs.List.{flat_map}
use Rattle.std.proofs.Common.{sym, ◌∙◌, ap}
use Rattle.std.proofs.lemmas.Int.{to_z-of_z}
use Rattle.bac_value.specs.BitsContents.{packed_bits, bits_in}
use Rattle.bac_value.specs.Laws.Bits.{bits_in_packed}
use Rattle.bac_value.specs.declared.prim.PrimitiveValue.TheVariants.{Null, Boolean, Unsigned, Signed, RealBits, DoubleBits, Octets, Text, Bits, Enumerated, Date, Time, ObjectId}
use Rattle.bac_data.proofs.ValueLemmas.{open_value_only}
use Rattle.bac_data.specs.Events.{Event, application, contextual, opening, closing, events, value_of_events}
use Rattle.bac_data.specs.Laws.Events.{value_of_events-events}
use Rattle.bac_data.specs.Spells.{SpellsOpen}
use Rattle.bac_fields.specs.Line.{object_of}
use Rattle.bac_field_parts.specs.Names.{number_of}
use Rattle.bac_field_parts.specs.OpenValueFields.{event_field}
use Rattle.bac_field_parts.specs.Symbols.{Symbol, named, has_contents}
use Rattle.bac_field_parts.specs.Laws.Firsts.{field_then}
use Rattle.bac_field_parts.specs.Laws.Rests.{event_said, event_name, value_end, open_told}
use Rattle.bac_fields.specs.Laws.ServiceMessages.{open_said}
use Rattle.bac_fields.proofs.EventRanges.{Each, HoldsEvent, elements_hold}
use Rattle.bac_fields.proofs.LineLemmas.{object_is}
use Rattle.bac_fields.proofs.Once.{Telling}

-- the event whose field has this name, this number and these contents
abbrev event_of : ℕ → ℕ → List ℕ → Event
event_of name number held =
    cond (nat_eq name 130) (application (Null (record {}))) (cond (nat_eq name 131) (application (Boolean (record { 0 = nat_eq number 1 })))
    (cond (nat_eq name 132) (application (Unsigned (record { 0 = number }))) (cond (nat_eq name 133) (application (Signed (record { 0 = cast_signed w64 number })))
    (cond (nat_eq name 134) (application (RealBits (record { 0 = number }))) (cond (nat_eq name 135) (application (DoubleBits (record { 0 = number })))
    (cond (nat_eq name 136) (application (Octets held)) (cond (nat_eq name 137) (application (Text (record { set = number; octets = held })))
    (cond (nat_eq name 138) (application (Bits (bits_in held number))) (cond (nat_eq name 139) (application (Enumerated (record { 0 = number })))
    (cond (nat_eq name 140) (application (Date (record { 0 = held }))) (cond (nat_eq name 141) (application (Time (record { 0 = held })))
    (cond (nat_eq name 142) (application (ObjectId (object_of number))) (cond (nat_eq name 143) (contextual number held)
    (cond (nat_eq name 121) (opening number) (closing number)))))))))))))))

abbrev held : Event → List ℕ
held e = if has_contents (number_of (event_field e).name) then (event_field e).contents else []

event_is : (e : Event) → HoldsEvent e → event_of (number_of (event_field e).name) (event_field e).number (held e) ≡ e
event_is (application (Null value)) h = refl
event_is (application (Boolean value)) h = truth_is value.0
  where
    truth_is : (b : Bool) → application (Boolean (record { 0 = nat_eq (if b then 1 else 0) 1 })) ≡ application (Boolean (record { 0 = b }))
    truth_is true = refl
    truth_is false = refl
event_is (application (Unsigned value)) h = refl
event_is (application (Signed value)) h = ap (λ z. application (Signed (record { 0 = z }))) (to_z-of_z w64 value.0 h)
event_is (application (RealBits value)) h = refl
event_is (application (DoubleBits value)) h = refl
event_is (application (Octets octets)) h = refl
event_is (application (Text text)) h = refl
event_is (application (Bits bits)) h = ap (λ b. application (Bits b)) (bits_in_packed bits _ (packed_bits bits) h refl refl)
event_is (application (Enumerated value)) h = refl
event_is (application (Date value)) h = refl
event_is (application (Time value)) h = refl
event_is (application (ObjectId object)) h = ap (λ o. application (ObjectId o)) (object_is object h)
event_is (contextual number octets) h = refl
event_is (opening number) h = refl
event_is (closing number) h = refl

-- the first field tells the first event
event_same : (e f : Event) → HoldsEvent e → HoldsEvent f → (r s : List Symbol) → event_said e ++ r ≡ event_said f ++ s → (e ≡ f) × (r ≡ s)
event_same e f h k r s is =
    let names : number_of (event_field e).name ≡ number_of (event_field f).name = cc in
    let numbers : (event_field e).number ≡ (event_field f).number = cc in
    let contents : held e ≡ held f = cc in
    let rest : r ≡ s = cc in (
      sym (event_is e h) ∙ ap (λ n. event_of n (event_field e).number (held e)) names ∙ ap (λ n. event_of (number_of (event_field f).name) n (held e)) numbers
          ∙ ap (λ l. event_of (number_of (event_field f).name) (event_field f).number l) contents ∙ event_is f k,
      rest,
    )

events_same : (es fs : List Event) → Each HoldsEvent es → Each HoldsEvent fs → (r s : List Symbol) → (flat_map event_said es ++ value_end) ++ r ≡ (flat_map event_said fs ++ value_end) ++ s → es ≡ fs
events_same [] [] h k r s e = refl
events_same [] (f ∷ fs) h k r s e = let same : number_of (event_field f).name ≡ 118 = cc in absurd (event_name f same)
events_same (f ∷ es) [] h k r s e = let same : number_of (event_field f).name ≡ 118 = cc in absurd (event_name f same)
events_same (e ∷ es) (f ∷ fs) h k r s is =
    let p = event_same e f h.0 k.0 ((flat_map event_said es ++ value_end) ++ r) ((flat_map event_said fs ++ value_end) ++ s) is in
    ap (λ x. x ∷ es) p.0 ∙ ap (λ l. f ∷ l) (events_same es fs h.1 k.1 r s p.1)

behind_first : (x y : List Symbol) → field_then 117 0 (Some []) x ≡ field_then 117 0 (Some []) y → x ≡ y
behind_first x y e = cc

pub open_tells : (tag : ℕ) → Telling (open_said tag) (SpellsOpen 32 tag) (Some 117 ∷ [])
open_tells tag = record {
  opens = λ v b h. record { first = named 117; rest = _; symbols = refl; among = refl };
  once = λ v w b c r s h k e.
      (let whole = sym (ap (λ l. l ++ r) (open_told tag v)) ∙ e ∙ ap (λ l. l ++ s) (open_told tag w) in
      let same = events_same (events v) (events w) (elements_hold v (open_value_only 32 tag v b h).1.0) (elements_hold w (open_value_only 32 tag w c k).1.0) r s (behind_first _ _ whole) in
      sym (value_of_events-events v) ∙ ap value_of_events same ∙ value_of_events-events w);
}
