-- The types whose values are octets, as elements of an open value.
use Rattle.std.specs.Prelude.{◌≡◌, ◌≢◌, ℕ, ◌+◌, ◌*◌, ◌^◌, ◌-◌, ◌≤◌, ◌<◌, Bool, List, [], ◌∷◌, ◌++◌, length, Option, None, Some, refl, nat_le, nat_lt, if◌then◌else◌, ◌&&◌, replicate}
use Rattle.std.specs.Option.{option_to_list}
use Rattle.std.proofs.Common.{sym, ◌∙◌, ap, subst, arith, append_assoc, inl, inr, lit≤, lit<, true, false}
use Rattle.std.proofs.lemmas.List.{append-nil, length-append, length-replicate}
use Rattle.std.proofs.lemmas.Bool.{le-leb, lt-ltb, leb-true}
use Rattle.std.proofs.lemmas.List.FromFn.{length-map-range_with_len}
use Rattle.bac_value.specs.declared.prim.PrimitiveValue.{PrimitiveValue}
use Rattle.bac_value.specs.declared.prim.PrimitiveValue.TheVariants.{Null, Boolean, Octets, Text, Bits, Date, Time}
use Rattle.bac_value.specs.declared.types.null_value.Null.{Null as NullType}
use Rattle.bac_value.specs.declared.types.date_value.Date.{Date as DateType}
use Rattle.bac_value.specs.DateContents.{date_octets}
use Rattle.bac_value.specs.TimeContents.{time_octets}
use Rattle.bac_value.specs.declared.types.time_value.Time.{Time as TimeType}
use Rattle.bac_value.specs.TextContents.{TextValue}
use Rattle.bac_value.specs.BitsContents.{octet_from, octets_for, packed_bits, least_bits}
use Rattle.bac_value.specs.PrimContents.{application_number, IsPrim, PrimContents, prim_written, IsWrittenOf}
use Rattle.bac_value.specs.Laws.Prim.{prim_only_values, prim_written_contents, prim_limit}
use Rattle.bac_data.specs.Events.{Event, application, contextual, opening, closing, SpellsEvent}
use Rattle.bac_data.specs.Spells.{SpellsPrimitive, SpellsContext}
use Rattle.bac_productions.specs.Productions.{IsInhabited}
use Rattle.bac_field_parts.specs.Names.{number_of}
use Rattle.bac_field_parts.specs.OpenValueFields.{event_field}
use Rattle.bac_tag.specs.declared.heads.TagHead.TheVariants.{App, AppBool, Ctx}
use Rattle.bac_tag.specs.Heads.{Heads}
use Rattle.bac_tag.specs.Spelling.{IsLeast}
use Rattle.bac_value.specs.declared.types.boolean_value.Boolean.{Boolean as BooleanType}
use Rattle.bac_tag.proofs.WritingLemmas.{some_least}
use Rattle.bac_data.proofs.EventLeastLemmas.{least_contents}
use Rattle.bac_field_parts.specs.PrimitiveFields.{truth, primitive_field}
use Rattle.std.specs.List.{AllByRecursion}
use Rattle.bac_field_parts.specs.declared.field.Field.{Field}
use Rattle.bac_field_parts.specs.Laws.Firsts.{stop_at_name, stop_at_end}
use Rattle.bac_field_parts.specs.Laws.Rests.{Rests, MayCome, IsOther, rest_firsts}
use Rattle.bac_field_parts.specs.Laws.Rests.MayCome.{event, ended}
use Rattle.bac_field_parts.specs.Symbols.{Symbol, named, IsStop, lead_in, symbols_in, contents_said, number_said, IsNumber, HasContents, HasNoContents}
use Rattle.bac_field_parts.specs.Laws.Kinds.{IsKind}
use Rattle.bac_field_parts.specs.Laws.PrimitiveNames.{prim_named}

-- What the contents of the element have before the contents of the field goes by the number of the field and by how many
-- contents it has: nothing, or one octet. None says that no value has so many.
abbrev pub First : Type 0
First = ℕ → ℕ → Option (Option ℕ)

-- a type whose values are what is written of them
pub record IsStringType {V : Type 0} (name app : ℕ) (number : V → ℕ) (contents : V → List ℕ) (prim : V → PrimitiveValue) (first : First) : Type 0 where
  pub kind : IsKind (contents_said name number contents) (λ v. SpellsPrimitive (prim v)) name (λ v. application (prim v))
  pub app_fits : (app ≤ 12) × (app ≢ 1)
  pub app_is : (v : V) → application_number (prim v) ≡ app
  pub value_of : (p : PrimitiveValue) → application_number p ≡ app → (v : V) × (p ≡ prim v)
  pub written : (v : V) (b : List ℕ) → SpellsPrimitive (prim v) b → (o : Option ℕ) × (first (number v) (length (contents v)) ≡ Some o) × (prim_written (prim v) ≡ option_to_list o ++ contents v)
  pub some : V
  pub some_octets : List ℕ
  pub some_spelled : SpellsPrimitive (prim some) some_octets
  pub told : (n : ℕ) (c : List ℕ) (o : Option ℕ) (v : V) → IsNumber number (λ w. SpellsPrimitive (prim w)) n → first n (length c) ≡ Some o → option_to_list o ++ c ≡ prim_written (prim v) → (number v ≡ n) × (contents v ≡ c)

abbrev pub zero_of : {V : Type 0} → V → ℕ
zero_of v = 0

abbrev pub nothing_first : First
nothing_first number size = Some None

abbrev pub set_first : First
set_first number size = if nat_lt number 256 then Some (Some number) else None

abbrev pub unused_first : First
unused_first number size = if nat_le number (8 * size) && nat_lt (8 * size - number) 8 then Some (Some (8 * size - number)) else None

abbrev pub the_octets : List ℕ → List ℕ
the_octets v = v

abbrev pub set_of : TextValue → ℕ
set_of v = v.set

abbrev pub octets_of : TextValue → List ℕ
octets_of v = v.octets

abbrev pub count_of : List Bool → ℕ
count_of v = length v

null_only : (e : Event) (b : List ℕ) → number_of (event_field e).name ≡ 130 → SpellsEvent e b → (v : NullType) × (e ≡ application (Null v))
null_only (application (Null v)) b h p = (v, refl)
null_only e b h p = absurd (omega (arith, h))

pub null_kind : IsKind (number_said 130 zero_of) (λ v. SpellsPrimitive (Null v)) 130 (λ v. application (Null v))
null_kind = record { element = λ h. absurd (omega (arith, h)); told = λ v. refl; spelled = λ v b. (λ p. p, λ p. p); only = null_only; keeps = λ v s. refl }

pub null_least : (v : NullType) (head : List ℕ) → IsLeast (Heads (App 0 0)) head → IsLeast (SpellsPrimitive (Null v)) head
null_least v head h = subst (IsLeast (SpellsPrimitive (Null v))) (append-nil head) (least_contents (Null v) [] head (λ e. absurd (omega (arith, e))) (record { value_holds = tt; is = refl }) refl h)

pub null_inhabited : IsInhabited (λ v. SpellsPrimitive (Null v))
null_inhabited =
    let l = some_least (App 0 0) (lit≤ tt, λ e. absurd (omega (arith, e))) (lit< tt) in
    record { value = record {}; octets = l.0; spelled = (null_least (record {}) l.0 l.1).member }

abbrev pub truth_of : BooleanType → ℕ
truth_of v = truth v.0

boolean_only : (e : Event) (b : List ℕ) → number_of (event_field e).name ≡ 131 → SpellsEvent e b → (v : BooleanType) × (e ≡ application (Boolean v))
boolean_only (application (Boolean v)) b h p = (v, refl)
boolean_only e b h p = absurd (omega (arith, h))

pub boolean_kind : IsKind (number_said 131 truth_of) (λ v. SpellsPrimitive (Boolean v)) 131 (λ v. application (Boolean v))
boolean_kind = record { element = λ h. absurd (omega (arith, h)); told = λ v. refl; spelled = λ v b. (λ p. p, λ p. p); only = boolean_only; keeps = λ v s. refl }

pub boolean_inhabited : IsInhabited (λ v. SpellsPrimitive (Boolean v))
boolean_inhabited =
    let l = some_least (AppBool false) tt tt in
    record { value = record { 0 = false }; octets = l.0; spelled = inl (record { value = record { 0 = false }; is = refl; headed = l.1.member }) }

-- some octets spell a value that has contents
some_spelling : (p : PrimitiveValue) (contents : List ℕ) → application_number p ≢ 1 → application_number p ≤ 12 → length contents < 2 ^ 32 → PrimContents p contents → (b : List ℕ) × SpellsPrimitive p b
some_spelling p contents other small fits spelled =
    let l = some_least (App (application_number p) (length contents)) (small, other) fits in
    (l.0 ++ contents, inr (record { head = l.0; contents = contents; headed = l.1.member; spelled = spelled; octets = refl }))

octets_only : (e : Event) (b : List ℕ) → number_of (event_field e).name ≡ 136 → SpellsEvent e b → (v : List ℕ) × (e ≡ application (Octets v))
octets_only (application (Octets v)) b h p = (v, refl)
octets_only e b h p = absurd (omega (arith, h))

octets_value : (p : PrimitiveValue) → application_number p ≡ 6 → (v : List ℕ) × (p ≡ Octets v)
octets_value (Octets v) h = (v, refl)
octets_value p h = absurd (omega (arith, h))

octets_some : (b : List ℕ) × SpellsPrimitive (Octets []) b
octets_some = some_spelling (Octets []) [] (λ e. absurd (omega (arith, e))) (lit≤ tt) (lit< tt) (record { value_holds = (tt, lit≤ tt); is = refl })

pub octets_element : IsStringType 136 6 zero_of the_octets (λ (v : List ℕ). Octets v) nothing_first
octets_element = record {
  kind = record { element = λ h. absurd (omega (arith, h)); told = λ v. refl; spelled = λ v b. (λ p. p, λ p. p); only = octets_only; keeps = λ v s. refl };
  app_fits = (lit≤ tt, λ e. absurd (omega (arith, e)));
  app_is = λ v. refl;
  value_of = octets_value;
  written = octets_written;
  some = [];
  some_octets = octets_some.0;
  some_spelled = octets_some.1;
  told = octets_told;
}
  where
    octets_written : (v : List ℕ) (b : List ℕ) → SpellsPrimitive (Octets v) b → (o : Option ℕ) × (nothing_first (zero_of v) (length (the_octets v)) ≡ Some o) × (prim_written (Octets v) ≡ option_to_list o ++ the_octets v)
    octets_written v b p = (None, refl, refl)

    octets_told : (n : ℕ) (c : List ℕ) (o : Option ℕ) (v : List ℕ) → IsNumber zero_of (λ (w : List ℕ). SpellsPrimitive (Octets w)) n → nothing_first n (length c) ≡ Some o → option_to_list o ++ c ≡ prim_written (Octets v) → (zero_of v ≡ n) × (the_octets v ≡ c)
    octets_told n c o v i f e = (let none : o ≡ None = cc in (i.is_given, sym (subst (λ (x : Option ℕ). option_to_list x ++ c ≡ prim_written (Octets v)) none e)))

set_small : (v : TextValue) (b : List ℕ) → SpellsPrimitive (Text v) b → v.set < 256
set_small v b (inl bit) = let is = bit.is in absurd (cc)
set_small v b (inr c) = c.spelled.value_holds.0.0

set_is : (n : ℕ) (o : Option ℕ) (small : Bool) → (if small then Some (Some n) else None) ≡ Some o → o ≡ Some n
set_is n o true e = cc
set_is n o false e = absurd (cc)

text_only : (e : Event) (b : List ℕ) → number_of (event_field e).name ≡ 137 → SpellsEvent e b → (v : TextValue) × (e ≡ application (Text v))
text_only (application (Text v)) b h p = (v, refl)
text_only e b h p = absurd (omega (arith, h))

text_value : (p : PrimitiveValue) → application_number p ≡ 7 → (v : TextValue) × (p ≡ Text v)
text_value (Text v) h = (v, refl)
text_value p h = absurd (omega (arith, h))

text_some : (b : List ℕ) × SpellsPrimitive (Text (record { set = 0; octets = [] })) b
text_some = some_spelling (Text (record { set = 0; octets = [] })) (0 ∷ []) (λ e. absurd (omega (arith, e))) (lit≤ tt) (lit< tt) (record { value_holds = ((lit< tt, tt), lit≤ tt); is = refl })

pub text_element : IsStringType 137 7 set_of octets_of (λ (v : TextValue). Text v) set_first
text_element = record {
  kind = record { element = λ h. absurd (omega (arith, h)); told = λ v. refl; spelled = λ v b. (λ p. p, λ p. p); only = text_only; keeps = λ v s. refl };
  app_fits = (lit≤ tt, λ e. absurd (omega (arith, e)));
  app_is = λ v. refl;
  value_of = text_value;
  written = text_written;
  some = (record { set = 0; octets = [] });
  some_octets = text_some.0;
  some_spelled = text_some.1;
  told = text_told;
}
  where
    text_written : (v : TextValue) (b : List ℕ) → SpellsPrimitive (Text v) b → (o : Option ℕ) × (set_first (set_of v) (length (octets_of v)) ≡ Some o) × (prim_written (Text v) ≡ option_to_list o ++ octets_of v)
    text_written v b p = (Some v.set, ap (λ (b : Bool). if b then Some (Some v.set) else None) (lt-ltb v.set 256 (set_small v b p)), refl)

    text_told : (n : ℕ) (c : List ℕ) (o : Option ℕ) (v : TextValue) → IsNumber set_of (λ (w : TextValue). SpellsPrimitive (Text w)) n → set_first n (length c) ≡ Some o → option_to_list o ++ c ≡ prim_written (Text v) → (set_of v ≡ n) × (octets_of v ≡ c)
    text_told n c o v i f e = (let some = set_is n o (nat_lt n 256) f in let same : n ∷ c ≡ v.set ∷ v.octets = subst (λ (x : Option ℕ). option_to_list x ++ c ≡ prim_written (Text v)) some e in let set : v.set ≡ n = cc in let rest : v.octets ≡ c = cc in (set, rest))

packed_length : (v : List Bool) → length (packed_bits v) ≡ octets_for (length v)
unfolding packed_bits
packed_length v = length-map-range_with_len (λ i. octet_from v (8 * i)) 0 (octets_for (length v))

bits_fit : (v : List Bool) → (o : Option ℕ) × (unused_first (count_of v) (length (packed_bits v)) ≡ Some o) × (least_bits v ≡ option_to_list o ++ packed_bits v)
unfolding least_bits
bits_fit v =
    let long = packed_length v in
    let within : nat_le (length v) (8 * length (packed_bits v)) ≡ true = le-leb (length v) (8 * length (packed_bits v)) (omega (arith, long)) in
    let few : nat_lt (8 * length (packed_bits v) - length v) 8 ≡ true = lt-ltb (8 * length (packed_bits v) - length v) 8 (omega (arith, long)) in (
      Some (8 * length (packed_bits v) - length v),
      ap (λ (b : Bool). if b && nat_lt (8 * length (packed_bits v) - length v) 8 then Some (Some (8 * length (packed_bits v) - length v)) else None) within
          ∙ ap (λ (b : Bool). if true && b then Some (Some (8 * length (packed_bits v) - length v)) else None) few,
      ap (λ (n : ℕ). (8 * n - length v) ∷ packed_bits v) (sym long),
    )

-- the octet and the octets after it tell how many bits there are
bits_same : (n : ℕ) (c : List ℕ) (o : Option ℕ) (v : List Bool) (within few : Bool) → nat_le n (8 * length c) ≡ within → nat_lt (8 * length c - n) 8 ≡ few → (if within && few then Some (Some (8 * length c - n)) else None) ≡ Some o
    → option_to_list o ++ c ≡ least_bits v → (length v ≡ n) × (packed_bits v ≡ c)
unfolding least_bits
bits_same n c o v true true is fits f e =
    let some : o ≡ Some (8 * length c - n) = cc in
    let whole : (8 * length c - n) ∷ c ≡ (8 * octets_for (length v) - length v) ∷ packed_bits v = subst (λ (x : Option ℕ). option_to_list x ++ c ≡ least_bits v) some e in
    let firsts : 8 * length c - n ≡ 8 * octets_for (length v) - length v = cc in
    let rest : packed_bits v ≡ c = cc in
    (omega (arith, firsts, leb-true n (8 * length c) is, packed_length v, ap length rest), rest)
bits_same n c o v true false is fits f e = absurd (cc)
bits_same n c o v false few is fits f e = absurd (cc)

bits_only : (e : Event) (b : List ℕ) → number_of (event_field e).name ≡ 138 → SpellsEvent e b → (v : List Bool) × (e ≡ application (Bits v))
bits_only (application (Bits v)) b h p = (v, refl)
bits_only e b h p = absurd (omega (arith, h))

bits_value : (p : PrimitiveValue) → application_number p ≡ 8 → (v : List Bool) × (p ≡ Bits v)
bits_value (Bits v) h = (v, refl)
bits_value p h = absurd (omega (arith, h))

bits_some : (b : List ℕ) × SpellsPrimitive (Bits []) b
bits_some = some_spelling (Bits []) (0 ∷ []) (λ e. absurd (omega (arith, e))) (lit≤ tt) (lit< tt) (record { few = lit< tt; sized = refl; are_octets = tt; within = lit< tt; agree = λ k lt. absurd (omega (arith, lt)) })

pub bits_element : IsStringType 138 8 count_of packed_bits (λ (v : List Bool). Bits v) unused_first
bits_element = record {
  kind = record { element = λ h. absurd (omega (arith, h)); told = λ v. refl; spelled = λ v b. (λ p. p, λ p. p); only = bits_only; keeps = λ v s. refl };
  app_fits = (lit≤ tt, λ e. absurd (omega (arith, e)));
  app_is = λ v. refl;
  value_of = bits_value;
  written = bits_written;
  some = [];
  some_octets = bits_some.0;
  some_spelled = bits_some.1;
  told = bits_told;
}
  where
    bits_written : (v : List Bool) (b : List ℕ) → SpellsPrimitive (Bits v) b → (o : Option ℕ) × (unused_first (count_of v) (length (packed_bits v)) ≡ Some o) × (prim_written (Bits v) ≡ option_to_list o ++ packed_bits v)
    bits_written v b p = bits_fit v

    bits_told : (n : ℕ) (c : List ℕ) (o : Option ℕ) (v : List Bool) → IsNumber count_of (λ (w : List Bool). SpellsPrimitive (Bits w)) n → unused_first n (length c) ≡ Some o → option_to_list o ++ c ≡ prim_written (Bits v) → (count_of v ≡ n) × (packed_bits v ≡ c)
    bits_told n c o v i f e = bits_same n c o v (nat_le n (8 * length c)) (nat_lt (8 * length c - n) 8) refl refl f e

date_only : (e : Event) (b : List ℕ) → number_of (event_field e).name ≡ 140 → SpellsEvent e b → (v : DateType) × (e ≡ application (Date v))
date_only (application (Date v)) b h p = (v, refl)
date_only e b h p = absurd (omega (arith, h))

date_value : (p : PrimitiveValue) → application_number p ≡ 10 → (v : DateType) × (p ≡ Date v)
date_value (Date v) h = (v, refl)
date_value p h = absurd (omega (arith, h))

date_some : (b : List ℕ) × SpellsPrimitive (Date (record { 0 = 0 ∷ 0 ∷ 0 ∷ 0 ∷ [] })) b
date_some = some_spelling (Date (record { 0 = 0 ∷ 0 ∷ 0 ∷ 0 ∷ [] })) (0 ∷ 0 ∷ 0 ∷ 0 ∷ []) (λ e. absurd (omega (arith, e))) (lit≤ tt) (lit< tt) (record { value_holds = ((lit< tt, (lit< tt, (lit< tt, (lit< tt, tt)))), refl); is = refl })

pub date_element : IsStringType 140 10 zero_of date_octets (λ (v : DateType). Date v) nothing_first
date_element = record {
  kind = record { element = λ h. absurd (omega (arith, h)); told = λ v. refl; spelled = λ v b. (λ p. p, λ p. p); only = date_only; keeps = λ v s. refl };
  app_fits = (lit≤ tt, λ e. absurd (omega (arith, e)));
  app_is = λ v. refl;
  value_of = date_value;
  written = date_written;
  some = (record { 0 = 0 ∷ 0 ∷ 0 ∷ 0 ∷ [] });
  some_octets = date_some.0;
  some_spelled = date_some.1;
  told = date_told;
}
  where
    date_written : (v : DateType) (b : List ℕ) → SpellsPrimitive (Date v) b → (o : Option ℕ) × (nothing_first (zero_of v) (length (date_octets v)) ≡ Some o) × (prim_written (Date v) ≡ option_to_list o ++ date_octets v)
    date_written v b p = (None, refl, refl)

    date_told : (n : ℕ) (c : List ℕ) (o : Option ℕ) (v : DateType) → IsNumber zero_of (λ (w : DateType). SpellsPrimitive (Date w)) n → nothing_first n (length c) ≡ Some o → option_to_list o ++ c ≡ prim_written (Date v) → (zero_of v ≡ n) × (date_octets v ≡ c)
    date_told n c o v i f e = (let none : o ≡ None = cc in (i.is_given, sym (subst (λ (x : Option ℕ). option_to_list x ++ c ≡ prim_written (Date v)) none e)))

time_only : (e : Event) (b : List ℕ) → number_of (event_field e).name ≡ 141 → SpellsEvent e b → (v : TimeType) × (e ≡ application (Time v))
time_only (application (Time v)) b h p = (v, refl)
time_only e b h p = absurd (omega (arith, h))

time_value : (p : PrimitiveValue) → application_number p ≡ 11 → (v : TimeType) × (p ≡ Time v)
time_value (Time v) h = (v, refl)
time_value p h = absurd (omega (arith, h))

time_some : (b : List ℕ) × SpellsPrimitive (Time (record { 0 = 0 ∷ 0 ∷ 0 ∷ 0 ∷ [] })) b
time_some = some_spelling (Time (record { 0 = 0 ∷ 0 ∷ 0 ∷ 0 ∷ [] })) (0 ∷ 0 ∷ 0 ∷ 0 ∷ []) (λ e. absurd (omega (arith, e))) (lit≤ tt) (lit< tt) (record { value_holds = ((lit< tt, (lit< tt, (lit< tt, (lit< tt, tt)))), refl); is = refl })

pub time_element : IsStringType 141 11 zero_of time_octets (λ (v : TimeType). Time v) nothing_first
time_element = record {
  kind = record { element = λ h. absurd (omega (arith, h)); told = λ v. refl; spelled = λ v b. (λ p. p, λ p. p); only = time_only; keeps = λ v s. refl };
  app_fits = (lit≤ tt, λ e. absurd (omega (arith, e)));
  app_is = λ v. refl;
  value_of = time_value;
  written = time_written;
  some = (record { 0 = 0 ∷ 0 ∷ 0 ∷ 0 ∷ [] });
  some_octets = time_some.0;
  some_spelled = time_some.1;
  told = time_told;
}
  where
    time_written : (v : TimeType) (b : List ℕ) → SpellsPrimitive (Time v) b → (o : Option ℕ) × (nothing_first (zero_of v) (length (time_octets v)) ≡ Some o) × (prim_written (Time v) ≡ option_to_list o ++ time_octets v)
    time_written v b p = (None, refl, refl)

    time_told : (n : ℕ) (c : List ℕ) (o : Option ℕ) (v : TimeType) → IsNumber zero_of (λ (w : TimeType). SpellsPrimitive (Time w)) n → nothing_first n (length c) ≡ Some o → option_to_list o ++ c ≡ prim_written (Time v) → (zero_of v ≡ n) × (time_octets v ≡ c)
    time_told n c o v i f e = (let none : o ≡ None = cc in (i.is_given, sym (subst (λ (x : Option ℕ). option_to_list x ++ c ≡ prim_written (Time v)) none e)))

-- ---- what is written

module _ {V : Type 0} (name app : ℕ) (number : V → ℕ) (contents : V → List ℕ) (prim : V → PrimitiveValue) (first : First) (S : IsStringType name app number contents prim first) where
  abbrev Spells : V → List ℕ → Type 0
  Spells v = SpellsPrimitive (prim v)

  spelled_contents : (v : V) (b : List ℕ) → SpellsPrimitive (prim v) b → IsPrim (prim v)
  spelled_contents v b (inl bit) = absurd (S.app_fits.1 (sym (S.app_is v) ∙ ap application_number bit.is))
  spelled_contents v b (inr c) = prim_only_values (prim v) c.contents c.spelled

  is_written : (v : V) (b : List ℕ) → SpellsPrimitive (prim v) b → PrimContents (prim v) (prim_written (prim v))
  is_written v b p = prim_written_contents (prim v) (spelled_contents v b p)

  -- what a value with this number and these contents is written as
  written_as : (given : ℕ) (held : List ℕ) (v : V) (b : List ℕ) → SpellsPrimitive (prim v) b → number v ≡ given → contents v ≡ held → (o : Option ℕ) × (first given (length held) ≡ Some o) × (prim_written (prim v) ≡ option_to_list o ++ held)
  written_as given held v b p is holds =
      let w = S.written v b p in
      (w.0, ap (λ (n : ℕ). first n (length held)) (sym is) ∙ ap (λ (l : List ℕ). first (number v) (length l)) (sym holds) ∙ w.1, w.2 ∙ ap (λ (l : List ℕ). option_to_list w.0 ++ l) holds)

  pub none_first : (given : ℕ) (held : List ℕ) → first given (length held) ≡ None → HasNoContents number contents Spells given held
  none_first given held e v b p is holds = let w = written_as given held v b p is holds in let some = w.1 in absurd (cc)

  pub none_long : (given : ℕ) (held : List ℕ) → 1048576 < length held → HasNoContents number contents Spells given held
  none_long given held long v b p is holds =
      let w = written_as given held v b p is holds in
      let limit = prim_limit (prim v) (prim_written (prim v)) (is_written v b p) in
      absurd (omega (arith, long, limit, ap length w.2, length-append (option_to_list w.0) held))

  pub none_longer : (given : ℕ) (held : List ℕ) (o : Option ℕ) → first given (length held) ≡ Some o → 1048576 < length held + length (option_to_list o) → HasNoContents number contents Spells given held
  none_longer given held o f long v b p is holds =
      let w = written_as given held v b p is holds in
      let some = w.1 in
      let same : w.0 ≡ o = cc in
      let limit = prim_limit (prim v) (prim_written (prim v)) (is_written v b p) in
      absurd (omega (arith, long, limit, ap length w.2, length-append (option_to_list w.0) held, ap (λ (x : Option ℕ). length (option_to_list x)) same))

  pub none_written : (given : ℕ) (held : List ℕ) (o : Option ℕ) → first given (length held) ≡ Some o → (IsWrittenOf app (option_to_list o ++ held) → ⊥) → HasNoContents number contents Spells given held
  none_written given held o f never v b p is holds =
      let w = written_as given held v b p is holds in
      let some = w.1 in
      let same : w.0 ≡ o = cc in
      let whole : prim_written (prim v) ≡ option_to_list o ++ held = w.2 ∙ ap (λ (x : Option ℕ). option_to_list x ++ held) same in
      never (subst (IsWrittenOf app) whole (record { value = prim v; spelled = (S.app_is v, is_written v b p); is = refl }))

  pub written_made : (given : ℕ) (held : List ℕ) (o : Option ℕ) (head old new : List ℕ) → IsNumber number Spells given → first given (length held) ≡ Some o → IsWrittenOf app (option_to_list o ++ held)
      → IsLeast (Heads (App app (length (option_to_list o ++ held)))) head → new ≡ (old ++ head) ++ (option_to_list o ++ held) → HasContents number contents Spells given held old new
  written_made given held o head old new i f w h e =
      let k = S.value_of w.value w.spelled.0 in
      let written : option_to_list o ++ held ≡ prim_written (prim k.0) = w.is ∙ ap prim_written k.1 in
      let t = S.told given held o k.0 i f written in
      let spelled : PrimContents (prim k.0) (option_to_list o ++ held) = subst (λ (p : PrimitiveValue). PrimContents p (option_to_list o ++ held)) k.1 w.spelled.1 in
      record {
        value = k.0;
        is_given = t.0;
        is_held = t.1;
        appended = record {
          more = head ++ (option_to_list o ++ held);
          is_least = least_contents (prim k.0) (option_to_list o ++ held) head (λ z. S.app_fits.1 (sym (S.app_is k.0) ∙ z)) spelled written (subst (λ (n : ℕ). IsLeast (Heads (App n (length (option_to_list o ++ held)))) head) (sym (S.app_is k.0)) h);
          new_is = e ∙ append_assoc old head (option_to_list o ++ held);
        };
      }

pub string_kind : {V : Type 0} {name app : ℕ} {number : V → ℕ} {contents : V → List ℕ} {prim : V → PrimitiveValue} {first : First} → IsStringType name app number contents prim first
    → IsKind (contents_said name number contents) (λ v. SpellsPrimitive (prim v)) name (λ v. application (prim v))
string_kind S = S.kind

pub string_inhabited : {V : Type 0} {name app : ℕ} {number : V → ℕ} {contents : V → List ℕ} {prim : V → PrimitiveValue} {first : First} → IsStringType name app number contents prim first → IsInhabited (λ (v : V). SpellsPrimitive (prim v))
string_inhabited S = record { value = S.some; octets = S.some_octets; spelled = S.some_spelled }

-- ---- context primitives

-- the number of the tag, and the contents
abbrev pub ContextValue : Type 0
ContextValue = ℕ × List ℕ

abbrev pub tag_of : ContextValue → ℕ
tag_of v = v.0

abbrev pub held_of : ContextValue → List ℕ
held_of v = v.1

abbrev pub SpellsContextValue : ContextValue → List ℕ → Type 0
SpellsContextValue v = SpellsContext v.0 v.1

abbrev pub context_event : ContextValue → Event
context_event v = contextual v.0 v.1

prim_name : (p : PrimitiveValue) → number_of (primitive_field p).name ≡ 143 → ⊥
prim_name p h = absurd (omega (arith, h, (prim_named p).1))

context_only : (e : Event) (b : List ℕ) → number_of (event_field e).name ≡ 143 → SpellsEvent e b → (v : ContextValue) × (e ≡ context_event v)
context_only (contextual number octets) b h p = ((number, octets), refl)
context_only (application prim) b h p = absurd (prim_name prim h)
context_only (opening number) b h p = absurd (omega (arith, h))
context_only (closing number) b h p = absurd (omega (arith, h))

pub context_kind : IsKind (contents_said 143 tag_of held_of) SpellsContextValue 143 context_event
context_kind = record { element = λ h. absurd (omega (arith, h)); told = λ v. refl; spelled = λ v b. (λ p. p, λ p. p); only = context_only; keeps = λ v s. refl }

pub context_spelled : (number : ℕ) → number ≤ 254 → (b : List ℕ) × SpellsContext number [] b
context_spelled number small =
    let l = some_least (Ctx number 0) small (lit< tt) in
    (l.0, record { head = l.0; headed = l.1.member; within = (tt, lit≤ tt); joined = sym (append-nil l.0) })

pub context_inhabited : IsInhabited SpellsContextValue
context_inhabited = let s = context_spelled 0 (lit≤ tt) in record { value = (0, []); octets = s.0; spelled = s.1 }

-- ---- numbers that some value has

pub zero_is : {V : Type 0} (prim : V → PrimitiveValue) → IsInhabited (λ v. SpellsPrimitive (prim v)) → (given : ℕ) → given ≡ 0 → IsNumber {V = V} zero_of (λ v. SpellsPrimitive (prim v)) given
zero_is prim i given e = record { value = i.value; octets = i.octets; spelled = i.spelled; is_given = sym e }

pub set_some : (given : ℕ) → given < 256 → IsNumber set_of (λ v. SpellsPrimitive (Text v)) given
set_some given small =
    let s = some_spelling (Text (record { set = given; octets = [] })) (given ∷ []) (λ e. absurd (omega (arith, e))) (lit≤ tt) (lit< tt) (record { value_holds = ((small, tt), lit≤ tt); is = refl }) in
    record { value = record { set = given; octets = [] }; octets = s.0; spelled = s.1; is_given = refl }

pub count_some : (given : ℕ) → given ≤ 8388600 → IsNumber count_of (λ v. SpellsPrimitive (Bits v)) given
count_some given few =
    let bits = replicate given false in
    let long : length bits ≡ given = length-replicate given false in
    let spelled = prim_written_contents (Bits bits) (omega (arith, few, long)) in
    let s = some_spelling (Bits bits) (prim_written (Bits bits)) (λ e. absurd (omega (arith, e))) (lit≤ tt) (omega (arith, prim_limit (Bits bits) (prim_written (Bits bits)) spelled)) spelled in
    record { value = bits; octets = s.0; spelled = s.1; is_given = long }

-- ---- other names

other_prim : (p : PrimitiveValue) (n : ℕ) → (130 ≤ n → n ≤ 143 → ⊥) → number_of (primitive_field p).name ≡ n → ⊥
other_prim p n out e = let named = prim_named p in out (omega (arith, e, named.0)) (omega (arith, e, named.1))

same_name : (a b : ℕ) (x y : List Symbol) → named a ∷ x ≡ named b ∷ y → a ≡ b
same_name a b x y e = cc

other_first : (s : List ℕ) (n m : ℕ) (c : Option (List ℕ)) → (130 ≤ n → n ≤ 143 → ⊥) → IsOther s (Some n) → MayCome s n m c → ⊥
other_first s n m c out other (event (application p) t b o q e) = other_prim p n out (same_name _ n _ _ e)
other_first s n m c out other (event (contextual number octets) t b o q e) = let is = same_name 143 n _ _ e in out (omega (arith, is)) (omega (arith, is))
other_first s n m c out other (event (opening number) t b o q e) = absurd (omega (arith, o.0, other.1 (ap Some (sym (same_name 121 n _ _ e)))))
other_first s n m c out other (event (closing number) t b o q e) =
    let (r, is, f) = o in
    let none = other.2 (ap Some (sym (same_name 122 n _ _ e))) in
    absurd (cc)
other_first s n m c out other (ended none names numbers contents) = other.0 (ap Some names) none

-- a field that is no element, and no group begins or ends with it
pub other_stopped : (octets : List ℕ) (fields : List Field) (n : ℕ) → Some n ≡ lead_in fields → (130 ≤ n → n ≤ 143 → ⊥) → (s : List ℕ) → AllByRecursion (λ k. k ≤ 254) s → IsOther s (lead_in fields) → IsStop (Rests s) (symbols_in octets fields) 0
other_stopped octets [] n lead out s sound other = absurd (cc)
other_stopped octets (field ∷ fields) n lead out s sound other =
    let is : n ≡ field.name = cc in
    stop_at_name (Rests s) (MayCome s) (rest_firsts s sound) field.name _ (λ m c f. other_first s field.name m c (λ a b. out (omega (arith, a, is)) (omega (arith, b, is))) other f)

-- no field
pub none_stopped : (octets : List ℕ) (fields : List Field) → None ≡ lead_in fields → (s : List ℕ) → AllByRecursion (λ k. k ≤ 254) s → IsStop (Rests s) (symbols_in octets fields) 0
none_stopped octets [] lead s sound = stop_at_end (Rests s) (MayCome s) (rest_firsts s sound) []
none_stopped octets (field ∷ fields) lead s sound = absurd (cc)
