-- Groups in an open value, and its end.
use Rattle.std.specs.Prelude.{◌≡◌, ℕ, ◌<◌, ◌≤◌, List, [], ◌∷◌, ◌++◌, length, take, reverse, Option, Some, slice_get, slice_index_or, refl}
use Rattle.std.specs.List.{AllByRecursion}
use Rattle.std.proofs.Common.{sym, ◌∙◌, ap, subst, arith, inl, inr}
use Rattle.std.proofs.lemmas.Bool.{cases_lt}
use Rattle.std.proofs.lemmas.List.{length-take-le, append-nil, length-reverse, reverse-append}
use Rattle.bac_tag.specs.declared.heads.TagHead.TheVariants.{Open, Close}
use Rattle.bac_tag.specs.Heads.{Heads}
use Rattle.bac_tag.specs.Spelling.{AppendsLeast}
use Rattle.bac_value.specs.declared.prim.PrimitiveValue.{PrimitiveValue}
use Rattle.bac_data.specs.Events.{Event, application, contextual, opening, closing, Opens, SpellsEvent}
use Rattle.bac_productions.specs.Productions.{Head, IsInhabited}
use Rattle.bac_productions.specs.Laws.Tag.{opening_inhabited}
use Rattle.bac_field_parts.specs.declared.field.Field.{Field}
use Rattle.bac_field_parts.specs.Names.{number_of}
use Rattle.bac_field_parts.specs.PrimitiveFields.{primitive_field}
use Rattle.bac_field_parts.specs.Symbols.{Symbol, named, numbered, Language, IsStop, Made, lead_in, symbols_in, number_said, the_number}
use Rattle.bac_field_parts.specs.Laws.Firsts.{field_then}
use Rattle.bac_field_parts.specs.Laws.Rests.{event_said, Rest, Rests, MayCome, rest_some, then_rest, value_end, closed, IsOther}
use Rattle.bac_field_parts.specs.Laws.Rests.MayCome.{event, ended}
use Rattle.bac_field_parts.specs.Laws.Kinds.{part_stopped}
use Rattle.bac_field_parts.specs.Laws.PrimitiveNames.{prim_named}

-- The symbols begin with those of an event, by which other groups are open, and its canonical octets are appended.
pub record Stepped (es : List Symbol) (s t : List ℕ) (old new : List ℕ) : Type 0 where
  pub made : Event
  pub within : 3 ≤ length es
  pub is_said : take 3 es ≡ event_said made
  pub opens : Opens 32 s (made ∷ []) t
  pub appended : AppendsLeast (SpellsEvent made) old new

same_name : (a b : ℕ) (x y : List Symbol) → named a ∷ x ≡ named b ∷ y → a ≡ b
same_name a b x y e = cc

same_number : (a b m n : ℕ) (x y : List Symbol) → named a ∷ numbered m ∷ x ≡ named b ∷ numbered n ∷ y → m ≡ n
same_number a b m n x y e = cc

no_prim : (p : PrimitiveValue) (n : ℕ) → n < 130 → number_of (primitive_field p).name ≡ n → ⊥
no_prim p n small e = absurd (omega (arith, e, small, (prim_named p).0))

-- ---- a group begins

abbrev pub Begins : Unit {0} → List Symbol → Type 0
Begins = Language (number_said 121 (λ n. n)) (λ n. Heads (Open n))

begin_known : (s : List ℕ) (n m : ℕ) (c : Option (List ℕ)) → n ≡ 121 → MayCome s n m c → Begins tt (field_then n m c [])
begin_known s n m c is (event (application p) t b o q e) = absurd (no_prim p n (omega (arith, is)) (same_name _ n _ _ e))
begin_known s n m c is (event (contextual number octets) t b o q e) = absurd (omega (arith, is, same_name 143 n _ _ e))
begin_known s n m c is (event (opening number) t b o q e) = (number, record { octets = b; spelled = q; is_said = sym e })
begin_known s n m c is (event (closing number) t b o q e) = absurd (omega (arith, is, same_name 122 n _ _ e))
begin_known s n m c is (ended none names numbers contents) = absurd (omega (arith, is, names))

begin_continues : (s : List ℕ) → AllByRecursion (λ k. k ≤ 254) s → length s < 32 → (es : List Symbol) → Begins tt es → (rest : List Symbol) × Rest s (es ++ rest)
begin_continues s sound room es l =
    let more = rest_some (l.0 ∷ s) (l.1.spelled.valid, sound) in
    (more.0, subst (λ (t : List Symbol). Rest s (t ++ more.0)) (sym l.1.is_said) (then_rest s (opening l.0) (l.0 ∷ s) l.1.octets more.0 (room, refl) l.1.spelled more.1))

pub begin_stopped : (octets : List ℕ) (fields : List Field) (s : List ℕ) (p : ℕ) → AllByRecursion (λ k. k ≤ 254) s → length s < 32 → lead_in fields ≡ Some 121 → IsStop Begins (symbols_in octets fields) p → IsStop (Rests s) (symbols_in octets fields) p
begin_stopped octets [] s p sound room lead h = absurd (cc)
begin_stopped octets (field ∷ fields) s p sound room lead h = part_stopped Begins 121 s sound (begin_known s) (begin_continues s sound room) field.name _ p (let e : field.name ≡ 121 = cc in e) h

-- one field is three symbols
one_field : (es said : List Symbol) (n : ℕ) → n ≤ length es → take n es ≡ said → length said ≡ 3 → n ≡ 3
one_field es said n within is long = sym (length-take-le n es within) ∙ ap length is ∙ long

pub begin_stepped : (octets : List ℕ) (fields : List Field) (field : Field) (n : ℕ) (s : List ℕ) (old new : List ℕ) → length s < 32 → Some field ≡ slice_get fields 0 → Made (number_said 121 (λ n. n)) (λ n. Heads (Open n)) (symbols_in octets fields) n old new
    → (field.number ≤ 254) × Stepped (symbols_in octets fields) s (field.number ∷ s) old new
begin_stepped octets [] field n s old new room e m = absurd (cc)
begin_stepped octets (first ∷ fields) field n s old new room e m =
    let same : first ≡ field = cc in
    let three = one_field (symbols_in octets (first ∷ fields)) (number_said 121 (λ n. n) m.value) n m.within m.is_said refl in
    let said : take 3 (symbols_in octets (first ∷ fields)) ≡ event_said (opening m.value) = ap (λ (k : ℕ). take k (symbols_in octets (first ∷ fields))) (sym three) ∙ m.is_said in
    let number : m.value ≡ field.number = sym (same_number _ _ _ _ _ _ said) ∙ ap (λ (f : Field). f.number) same in (
      subst (λ (k : ℕ). k ≤ 254) number m.appended.is_least.member.valid,
      record { made = opening m.value; within = omega arith; is_said = said; opens = (room, ap (λ (k : ℕ). k ∷ s) number); appended = m.appended },
    )

-- ---- a group ends

abbrev pub Ends : ℕ → Unit {0} → List Symbol → Type 0
Ends number = Language (number_said 122 (the_number number)) (Head (Close number))

end_known : (k : ℕ) (s : List ℕ) (n m : ℕ) (c : Option (List ℕ)) → n ≡ 122 → MayCome (k ∷ s) n m c → Ends k tt (field_then n m c [])
end_known k s n m c is (event (application p) t b o q e) = absurd (no_prim p n (omega (arith, is)) (same_name _ n _ _ e))
end_known k s n m c is (event (contextual number octets) t b o q e) = absurd (omega (arith, is, same_name 143 n _ _ e))
end_known k s n m c is (event (opening number) t b o q e) = absurd (omega (arith, is, same_name 121 n _ _ e))
end_known k s n m c is (event (closing number) t b o q e) =
    let (r, both, f) = o in
    let same : number ≡ k = cc in
    (tt, record { octets = b; spelled = subst (λ (i : ℕ). Heads (Close i) b) same q; is_said = sym e ∙ ap (λ (i : ℕ). field_then 122 i (Some []) []) same })
end_known k s n m c is (ended none names numbers contents) = absurd (omega (arith, is, names))

end_continues : (k : ℕ) (s : List ℕ) → AllByRecursion (λ i. i ≤ 254) (k ∷ s) → (es : List Symbol) → Ends k tt es → (rest : List Symbol) × Rest (k ∷ s) (es ++ rest)
end_continues k s sound es l =
    let more = rest_some s sound.1 in
    (more.0, subst (λ (t : List Symbol). Rest (k ∷ s) (t ++ more.0)) (sym l.1.is_said) (then_rest (k ∷ s) (closing k) s l.1.octets more.0 (s, refl, refl) l.1.spelled more.1))

pub end_stopped : (octets : List ℕ) (fields : List Field) (k : ℕ) (s : List ℕ) (p : ℕ) → AllByRecursion (λ i. i ≤ 254) (k ∷ s) → lead_in fields ≡ Some 122 → IsStop (Ends k) (symbols_in octets fields) p → IsStop (Rests (k ∷ s)) (symbols_in octets fields) p
end_stopped octets [] k s p sound lead h = absurd (cc)
end_stopped octets (field ∷ fields) k s p sound lead h = part_stopped (Ends k) 122 (k ∷ s) sound (end_known k s) (end_continues k s sound) field.name _ p (let e : field.name ≡ 122 = cc in e) h

pub end_stepped : (octets : List ℕ) (fields : List Field) (n k : ℕ) (s : List ℕ) (old new : List ℕ) → Made (number_said 122 (the_number k)) (Head (Close k)) (symbols_in octets fields) n old new → Stepped (symbols_in octets fields) (k ∷ s) s old new
end_stepped octets fields n k s old new m =
    let three = one_field (symbols_in octets fields) (number_said 122 (the_number k) m.value) n m.within m.is_said refl in
    record {
      made = closing k;
      within = omega (arith, three, m.within);
      is_said = ap (λ (i : ℕ). take i (symbols_in octets fields)) (sym three) ∙ m.is_said;
      opens = (s, refl, refl);
      appended = m.appended;
    }

-- ---- the value ends

abbrev pub Finishes : ℕ → Unit {0} → List Symbol → Type 0
Finishes tag = Language (number_said 118 (the_number 0)) (Head (Close tag))

no_event : (e : Event) (n m : ℕ) (c : Option (List ℕ)) → n ≡ 118 → event_said e ≡ field_then n m c [] → ⊥
no_event (application p) n m c is e = no_prim p n (omega (arith, is)) (same_name _ n _ _ e)
no_event (contextual number octets) n m c is e = omega (arith, is, same_name 143 n _ _ e)
no_event (opening number) n m c is e = omega (arith, is, same_name 121 n _ _ e)
no_event (closing number) n m c is e = omega (arith, is, same_name 122 n _ _ e)

finish_known : (tag : ℕ) → tag ≤ 254 → (n m : ℕ) (c : Option (List ℕ)) → n ≡ 118 → MayCome [] n m c → Finishes tag tt (field_then n m c [])
finish_known tag small n m c is (event e t b o q said) = absurd (no_event e n m c is said)
finish_known tag small n m c is (ended none names numbers contents) =
    let l = closed tag small in
    let whole : field_then n m c [] ≡ value_end = ap (λ i. field_then i m c []) names ∙ ap (λ i. field_then 118 i c []) numbers ∙ ap (λ x. field_then 118 0 x []) contents in
    (tt, record { octets = l.0; spelled = l.1; is_said = whole })

finish_continues : (tag : ℕ) (es : List Symbol) → Finishes tag tt es → (rest : List Symbol) × Rest [] (es ++ rest)
finish_continues tag es l = ([], record { following = []; octets = []; opened = refl; spelled = refl; symbols = append-nil es ∙ l.1.is_said })

pub finish_stopped : (octets : List ℕ) (fields : List Field) (tag p : ℕ) → tag ≤ 254 → lead_in fields ≡ Some 118 → IsStop (Finishes tag) (symbols_in octets fields) p → IsStop (Rests []) (symbols_in octets fields) p
finish_stopped octets [] tag p small lead h = absurd (cc)
finish_stopped octets (field ∷ fields) tag p small lead h = part_stopped (Finishes tag) 118 [] tt (finish_known tag small) (finish_continues tag) field.name _ p (let e : field.name ≡ 118 = cc in e) h

pub begins_inhabited : IsInhabited (λ n. Heads (Open n))
begins_inhabited = let i = opening_inhabited 0 refl in record { value = 0; octets = i.octets; spelled = i.spelled }

-- ---- lists of groups

pub first_is : (fields : List Field) (other : Field) (n : ℕ) → lead_in fields ≡ Some n → Some (slice_index_or fields 0 other) ≡ slice_get fields 0
first_is [] other n e = absurd (cc)
first_is (field ∷ fields) other n e = refl

pub reverse_last : (groups : List ℕ) (number : ℕ) → reverse (groups ++ number ∷ []) ≡ number ∷ reverse groups
reverse_last groups number = reverse-append groups (number ∷ [])

none_reversed : (groups : List ℕ) → reverse groups ≡ [] → groups ≡ []
none_reversed [] e = refl
none_reversed (g ∷ groups) e = absurd (omega (arith, ap length e, length-reverse (g ∷ groups)))

pub is_other : (groups : List ℕ) (lead : Option ℕ) → ((groups ≡ []) × (lead ≡ Some 118) → ⊥) → ((length groups < 32) × (lead ≡ Some 121) → ⊥) → ((0 < length groups) × (lead ≡ Some 122) → ⊥) → IsOther (reverse groups) lead
is_other groups lead a b c = (
  λ e none. a (none_reversed groups none, e),
  λ e. elim (cases_lt (length groups) 32) [ inl lt ↦ absurd (b (lt, e)) | inr le ↦ omega (arith, le, length-reverse groups) ],
  λ e. none_if groups e (λ h. c (h, e)),
)
  where
    none_if : (groups : List ℕ) → lead ≡ Some 122 → (0 < length groups → ⊥) → reverse groups ≡ []
    none_if [] e h = refl
    none_if (g ∷ groups) e h = absurd (h (omega arith))

abbrev blank : Field
blank = record { name = 0; number = 0; place = 0; head = 0; length = 0 }

pub begin_taken : (octets : List ℕ) (fields : List Field) (n : ℕ) (groups now : List ℕ) (number : ℕ) (old new : List ℕ) → length groups < 32 → lead_in fields ≡ Some 121 → number ≡ (slice_index_or fields 0 (record { name = 0; number = 0; place = 0; head = 0; length = 0 })).number
    → now ≡ groups ++ number ∷ [] → Made (number_said 121 (λ n. n)) (λ n. Heads (Open n)) (symbols_in octets fields) n old new → Stepped (symbols_in octets fields) (reverse groups) (reverse now) old new
begin_taken octets fields n groups now number old new room lead is items m =
    let stepped = begin_stepped octets fields (slice_index_or fields 0 blank) n (reverse groups) old new (omega (arith, room, length-reverse groups)) (first_is fields blank 121 lead) m in
    let same : (slice_index_or fields 0 blank).number ∷ reverse groups ≡ reverse now = ap (λ (k : ℕ). k ∷ reverse groups) (sym is) ∙ sym (ap reverse items ∙ reverse_last groups number) in
    subst (λ (t : List ℕ). Stepped (symbols_in octets fields) (reverse groups) t old new) same stepped.1

pub begin_small : (octets : List ℕ) (fields : List Field) (n : ℕ) (old new : List ℕ) → lead_in fields ≡ Some 121 → Made (number_said 121 (λ n. n)) (λ n. Heads (Open n)) (symbols_in octets fields) n old new
    → (slice_index_or fields 0 (record { name = 0; number = 0; place = 0; head = 0; length = 0 })).number ≤ 254
begin_small octets fields n old new lead m = (begin_stepped octets fields (slice_index_or fields 0 blank) n [] old new (omega arith) (first_is fields blank 121 lead) m).0

pub end_taken : (octets : List ℕ) (fields : List Field) (n number : ℕ) (groups now : List ℕ) (old new : List ℕ) → groups ≡ now ++ number ∷ [] → Made (number_said 122 (the_number number)) (Head (Close number)) (symbols_in octets fields) n old new
    → Stepped (symbols_in octets fields) (reverse groups) (reverse now) old new
end_taken octets fields n number groups now old new items m =
    subst (λ (s : List ℕ). Stepped (symbols_in octets fields) s (reverse now) old new) (sym (ap reverse items ∙ reverse_last now number)) (end_stepped octets fields n number (reverse now) old new m)

pub end_stopped_at : (octets : List ℕ) (fields : List Field) (number : ℕ) (groups now : List ℕ) (p : ℕ) → AllByRecursion (λ i. i ≤ 254) (reverse groups) → groups ≡ now ++ number ∷ [] → lead_in fields ≡ Some 122 → IsStop (Ends number) (symbols_in octets fields) p
    → IsStop (Rests (reverse groups)) (symbols_in octets fields) p
end_stopped_at octets fields number groups now p sound items lead h =
    let is = ap reverse items ∙ reverse_last now number in
    subst (λ (s : List ℕ). IsStop (Rests s) (symbols_in octets fields) p) (sym is) (end_stopped octets fields number (reverse now) p (subst (λ (s : List ℕ). AllByRecursion (λ i. i ≤ 254) s) is sound) lead h)
