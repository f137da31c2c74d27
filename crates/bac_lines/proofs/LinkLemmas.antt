-- The names of the fields that have a value after their word.
use Rattle.std.specs.Prelude.{◌≡◌, ◌⊎◌, ℕ, ◌*◌, List, [], ◌∷◌, ◌++◌, length, take, Bool, true, false, ◌&&◌, not, IsTrue, nat_eq, Option, Some, None, Result, Ok, Err, IfOk, IfSome, refl}
use Rattle.std.proofs.Common.{sym, ◌∙◌, ap, subst, inl, inr, arith}
use Rattle.std.proofs.lemmas.Bool.{and_parts, not-true, both_ways}
use Rattle.std.proofs.lemmas.Option.{IfSome_then}
use Rattle.std.specs.Cmp.Lexicographic.{pointwise, bytes_decides}
use Rattle.bac_field_parts.specs.declared.names.Name.{Name}
use Rattle.bac_field_parts.specs.declared.names.Name.TheVariants as name
use Rattle.bac_field_parts.specs.Names.{number_of, word_of}
use Rattle.bac_field_parts.specs.Fields.{FieldValue}
use Rattle.bac_field_parts.specs.Symbols.{has_contents}
use Rattle.bac_fields.specs.Line.{Form, as_number, as_object, as_octets, as_address, as_element, as_signed, as_contents, as_bits, as_identifier, as_text, form_of}
use Rattle.bac_lines.specs.declared.closing.Closing.{Closing}
use Rattle.bac_lines.specs.declared.fault.LineFault.{LineFault}
use Rattle.bac_lines.specs.declared.said.Said.{Said}
use Rattle.bac_lines.specs.Scanning.{TokenIn, IsFound, IsNamed, HasBits, number_after, text_tail}
use Rattle.bac_lines.specs.Found.{Among, Link, link_of, by_equals, by_colon, by_text, value_shown, shown_value, IsHeld, Adds, Valued, ValueOf}
use Rattle.bac_lines.proofs.BitsAndTexts.{HasText}
use Rattle.bac_lines.proofs.NameLemmas.{numbers, objects, octets, addresses, counts, reals, strings, Named, named, one_name, never_both}

-- ---- lists of names

pub among_left : (ms ns : List Name) (n : Name) → Among ms n → Among (ms ++ ns) n
among_left [] ns n m = absurd m
among_left (one ∷ ms) ns n (inl is) = inl is
among_left (one ∷ ms) ns n (inr m) = inr (among_left ms ns n m)

pub among_right : (ms ns : List Name) (n : Name) → Among ns n → Among (ms ++ ns) n
among_right [] ns n m = m
among_right (one ∷ ms) ns n m = inr (among_right ms ns n m)

pub neither : (ms ns : List Name) (n : Name) → (Among ms n → ⊥) → (Among ns n → ⊥) → Among (ms ++ ns) n → ⊥
neither [] ns n left right m = right m
neither (one ∷ ms) ns n left right (inl is) = left (inl is)
neither (one ∷ ms) ns n left right (inr m) = neither ms ns n (λ k. left (inr k)) right m

-- the fields with these names have no contents
abbrev pub bare : List Name → Bool
bare [] = true
bare (one ∷ names) = not (has_contents (number_of one)) && bare names

pub bare_among : (names : List Name) (n : Name) → IsTrue (bare names) → Among names n → has_contents (number_of n) ≡ false
bare_among [] n b m = absurd m
bare_among (one ∷ names) n b (inl is) = ap (λ (k : Name). has_contents (number_of k)) is ∙ not-true (has_contents (number_of one)) (and_parts (not (has_contents (number_of one))) (bare names) b).0
bare_among (one ∷ names) n b (inr m) = bare_among names n (and_parts (not (has_contents (number_of one))) (bare names) b).1 m

-- and with these names they have
abbrev pub filled : List Name → Bool
filled [] = true
filled (one ∷ names) = has_contents (number_of one) && filled names

pub filled_among : (names : List Name) (n : Name) → IsTrue (filled names) → Among names n → has_contents (number_of n) ≡ true
filled_among [] n b m = absurd m
filled_among (one ∷ names) n b (inl is) = ap (λ (k : Name). has_contents (number_of k)) is ∙ (and_parts (has_contents (number_of one)) (filled names) b).0
filled_among (one ∷ names) n b (inr m) = filled_among names n (and_parts (has_contents (number_of one)) (filled names) b).1 m

-- ---- after an equals sign

-- names with something else than a number after an equals sign
abbrev pub held_names : List Name
held_names = objects ++ (octets ++ addresses)

pub equals_form : (F : Form) (n : Name) → Named F n → link_of F ≡ by_equals → (F ≡ as_number) ⊎ Among held_names n
equals_form as_number n m e = inl refl
equals_form as_object n m e = inr (among_left objects (octets ++ addresses) n m)
equals_form as_octets n m e = inr (among_right objects (octets ++ addresses) n (among_left octets addresses n m))
equals_form as_address n m e = inr (among_right objects (octets ++ addresses) n (among_right octets addresses n m))
equals_form _ n m e = absurd (cc)

-- a field with a number has no contents
pub number_bare : (n : Name) → form_of n ≡ as_number → has_contents (number_of n) ≡ false
number_bare n form = either (subst (λ (F : Form). Named F n) form (named n))
  where
    either : (n ≡ name.PortId) ⊎ Among numbers n → has_contents (number_of n) ≡ false
    either (inl is) = ap (λ (k : Name). has_contents (number_of k)) is
    either (inr m) = bare_among numbers n refl m

-- where a word is that of a number, it is that of no other field with an equals sign
pub number_alone : (m n : Name) → form_of m ≡ as_number → Among held_names n → word_of m ≡ word_of n → ⊥
number_alone m n form among e = either (subst (λ (F : Form). Named F m) form (named m))
  where
    either : (m ≡ name.PortId) ⊎ Among numbers m → ⊥
    either k = never_both (name.PortId ∷ numbers) held_names m n refl k among e

-- What is found among the names with numbers is the name.
pub number_named : (v : FieldValue) (ends after : List Closing) (word : List ℕ) (m : Name) → ((n : Name) → form_of n ≡ as_number → IsNamed ends n → word ≡ word_of n → Some m ≡ Some n) →
    form_of m ≡ as_number → word ≡ word_of m → link_of (form_of v.name) ≡ by_equals → TokenIn (form_of v.name) ends v after → word ≡ word_of v.name → v.name ≡ m
number_named v ends after word m found form is_m link token is_v = either (equals_form (form_of v.name) v.name (named v.name) link)
  where
    either : (form_of v.name ≡ as_number) ⊎ Among held_names v.name → v.name ≡ m
    either (inl e) =
        let inside : TokenIn as_number ends v after = subst (λ (F : Form). TokenIn F ends v after) e token in
        let same : Some m ≡ Some v.name = found v.name e inside.1.0 is_v in
        cc
    either (inr among) = absurd (number_alone m v.name form among (sym is_m ∙ is_v))

-- Where none is found there, it is another one.
pub held_among : (v : FieldValue) (ends after : List Closing) (word : List ℕ) (result : Option Name) → ((n : Name) → form_of n ≡ as_number → IsNamed ends n → word ≡ word_of n → result ≡ Some n) →
    result ≡ None → link_of (form_of v.name) ≡ by_equals → TokenIn (form_of v.name) ends v after → word ≡ word_of v.name → Among held_names v.name
held_among v ends after word result found none link token is_v = either (equals_form (form_of v.name) v.name (named v.name) link)
  where
    either : (form_of v.name ≡ as_number) ⊎ Among held_names v.name → Among held_names v.name
    either (inl e) =
        let inside : TokenIn as_number ends v after = subst (λ (F : Form). TokenIn F ends v after) e token in
        let same : result ≡ Some v.name = found v.name e inside.1.0 is_v in
        absurd (cc)
    either (inr among) = among

-- ---- after a colon

abbrev pub lone_names : List Name
lone_names = name.Signed ∷ name.ObjectIdentifier ∷ name.BitString ∷ []

abbrev pub element_names : List Name
element_names = counts ++ (reals ++ (strings ++ lone_names))

pub is_count : (n : Name) → Among counts n → Among element_names n
is_count n m = among_left counts (reals ++ (strings ++ lone_names)) n m

pub is_real : (n : Name) → Among reals n → Among element_names n
is_real n m = among_right counts (reals ++ (strings ++ lone_names)) n (among_left reals (strings ++ lone_names) n m)

pub is_string : (n : Name) → Among strings n → Among element_names n
is_string n m = among_right counts (reals ++ (strings ++ lone_names)) n (among_right reals (strings ++ lone_names) n (among_left strings lone_names n m))

pub is_lone : (n : Name) → Among lone_names n → Among element_names n
is_lone n m = among_right counts (reals ++ (strings ++ lone_names)) n (among_right reals (strings ++ lone_names) n (among_right strings lone_names n m))

pub colon_form : (F : Form) (n : Name) → Named F n → link_of F ≡ by_colon → Among element_names n
colon_form as_element n m e = is_count n m
colon_form as_signed n m e = is_lone n (inl m)
colon_form as_contents n (inl m) e = is_real n m
colon_form as_contents n (inr m) e = is_string n m
colon_form as_bits n m e = is_lone n (inr (inr (inl m)))
colon_form as_identifier n m e = is_lone n (inr (inl m))
colon_form _ n m e = absurd (cc)

-- an element with the word of this one is this one
pub element_named : (n m : Name) → link_of (form_of n) ≡ by_colon → Among element_names m → word_of n ≡ word_of m → n ≡ m
element_named n m link among e = one_name element_names n m refl (colon_form (form_of n) n (named n) link) among e

-- the word is that of this name
pub is_word_of : (m : Name) (word text : List ℕ) (same : Bool) → same ≡ pointwise nat_eq word text → same ≡ true → text ≡ word_of m → word ≡ word_of m
is_word_of m word text same e agrees is_m = (bytes_decides word text).0 (sym e ∙ agrees) ∙ is_m

pub is_same : (n m : Name) (word text : List ℕ) (same : Bool) → same ≡ pointwise nat_eq word text → same ≡ true → text ≡ word_of m → word ≡ word_of n → word_of n ≡ word_of m
is_same n m word text same e agrees is_m is_n = sym is_n ∙ is_word_of m word text same e agrees is_m

-- and where it is not, the name is another one
pub is_other : (n m : Name) (word text : List ℕ) (same : Bool) → same ≡ pointwise nat_eq word text → same ≡ false → text ≡ word_of m → word ≡ word_of n → n ≡ m → ⊥
is_other n m word text same e differs is_m is_n is = both_ways same differs (e ∙ (bytes_decides word text).1 (is_n ∙ ap word_of is ∙ sym is_m))

-- an element is one of these
pub none_of_elements : (n : Name) → link_of (form_of n) ≡ by_colon → (Among counts n → ⊥) → (n ≡ name.Real → ⊥) → (n ≡ name.Double → ⊥) → (Among strings n → ⊥) →
    (n ≡ name.Signed → ⊥) → (n ≡ name.ObjectIdentifier → ⊥) → (n ≡ name.BitString → ⊥) → ⊥
none_of_elements n link no_count no_single no_double no_string no_signed no_identifier no_bits =
    neither counts (reals ++ (strings ++ lone_names)) n no_count (neither reals (strings ++ lone_names) n no_real (neither strings lone_names n no_string no_lone)) (colon_form (form_of n) n (named n) link)
  where
    no_real : Among reals n → ⊥
    no_real (inl is) = no_single is
    no_real (inr (inl is)) = no_double is
    no_real (inr (inr m)) = m

    no_lone : Among lone_names n → ⊥
    no_lone (inl is) = no_signed is
    no_lone (inr (inl is)) = no_identifier is
    no_lone (inr (inr (inl is))) = no_bits is
    no_lone (inr (inr (inr m))) = m

-- the bits of a number
pub single_bits : (n : Name) (number : ℕ) (held : List ℕ) → n ≡ name.Real → HasBits n number held → (number ≡ number_after 0 held) × (2 * length held ≡ 8)
single_bits n number held is h = let bits : HasBits name.Real number held = subst (λ (k : Name). HasBits k number held) is h in (bits.0, omega (arith, bits.1))

pub double_bits : (n : Name) (number : ℕ) (held : List ℕ) → n ≡ name.Double → HasBits n number held → (number ≡ number_after 0 held) × (2 * length held ≡ 16)
double_bits n number held is h = let bits : HasBits name.Double number held = subst (λ (k : Name). HasBits k number held) is h in (bits.0, omega (arith, bits.1))

pub has_single : (n : Name) (number : ℕ) (held : List ℕ) → n ≡ name.Real → number ≡ number_after 0 held → 2 * length held ≡ 8 → HasBits n number held
has_single n number held is value size = let bits : HasBits name.Real number held = (value, omega (arith, size)) in subst (λ (k : Name). HasBits k number held) (sym is) bits

pub has_double : (n : Name) (number : ℕ) (held : List ℕ) → n ≡ name.Double → number ≡ number_after 0 held → 2 * length held ≡ 16 → HasBits n number held
has_double n number held is value size = let bits : HasBits name.Double number held = (value, omega (arith, size)) in subst (λ (k : Name). HasBits k number held) (sym is) bits

-- octets have no number
pub string_bits : (n : Name) (number : ℕ) (held : List ℕ) → Among strings n → HasBits n number held → number ≡ 0
string_bits n number held (inl is) h = subst (λ (k : Name). HasBits k number held) is h
string_bits n number held (inr (inl is)) h = subst (λ (k : Name). HasBits k number held) is h
string_bits n number held (inr (inr (inl is))) h = subst (λ (k : Name). HasBits k number held) is h
string_bits n number held (inr (inr (inr m))) h = absurd m

pub string_has : (n : Name) (number : ℕ) (held : List ℕ) → Among strings n → number ≡ 0 → HasBits n number held
string_has n number held (inl is) h = subst (λ (k : Name). HasBits k number held) (sym is) h
string_has n number held (inr (inl is)) h = subst (λ (k : Name). HasBits k number held) (sym is) h
string_has n number held (inr (inr (inl is))) h = subst (λ (k : Name). HasBits k number held) (sym is) h
string_has n number held (inr (inr (inr m))) h = absurd m

-- ---- a text

text_form : (F : Form) → link_of F ≡ by_text → F ≡ as_text
text_form as_text e = refl
text_form _ e = absurd (cc)

pub is_text : (n : Name) → link_of (form_of n) ≡ by_text → (n ≡ name.CharacterString) × (form_of n ≡ as_text)
is_text n link =
    let form : form_of n ≡ as_text = text_form (form_of n) link in
    (subst (λ (F : Form). Named F n) form (named n), form)

-- ---- what a field of a form has

-- What is shown to hold for the form holds for the form of the name.
pub at_form : (F : Form) (v : FieldValue) (ends after : List Closing) (more line : List ℕ) (old new : Said) (result : Result (Option ℕ) LineFault) → form_of v.name ≡ F →
    (TokenIn F ends v after → line ≡ value_shown F v ++ more → IsHeld v (length (value_shown F v)) old new result) →
    TokenIn (form_of v.name) ends v after → line ≡ value_shown (form_of v.name) v ++ more → IsHeld v (length (value_shown (form_of v.name) v)) old new result
at_form F v ends after more line old new result form held = subst (λ (G : Form). TokenIn G ends v after → line ≡ value_shown G v ++ more → IsHeld v (length (value_shown G v)) old new result) (sym form) held

pub held_so : (v : FieldValue) (m n : ℕ) (old new : Said) (result : Result (Option ℕ) LineFault) → m ≡ n → IsHeld v m old new result → IsHeld v n old new result
held_so v m n old new result same held = subst (λ (k : ℕ). IsHeld v k old new result) same held

-- a pair is one pair
pub same_pair : (o : Option (ℕ × ℕ)) (a b c d : ℕ) → o ≡ Some (a, b) → o ≡ Some (c, d) → (a ≡ c) × (b ≡ d)
same_pair o a b c d e f = (ap first (sym e ∙ f), ap second (sym e ∙ f))
  where
    first : Option (ℕ × ℕ) → ℕ
    first None = 0
    first (Some p) = p.0

    second : Option (ℕ × ℕ) → ℕ
    second None = 0
    second (Some p) = p.1

-- ---- what is valued

-- a field with a number and these contents
abbrev pub with_contents : Name → ℕ → List ℕ → FieldValue
with_contents name number contents = record { name = name; number = number; head = []; contents = contents }

-- what is found and added is valued
pub found_valued : (name : Name) (found : Option (ℕ × ℕ)) (Is : FieldValue → Type 0) (text : FieldValue → List ℕ) (line : List ℕ) (old new : Said) (result : Result (Option ℕ) LineFault) → has_contents (number_of name) ≡ false →
    ((v : FieldValue) (n : ℕ) → v.name ≡ name → has_contents (number_of name) ≡ false → found ≡ Some (v.number, n) → IsHeld v n old new result) →
    IfOk result (λ taken. IfSome taken (λ n. (number : ℕ) × (found ≡ Some (number, n)))) →
    IfSome found (λ f. (contents : List ℕ) × (Is (with_contents name f.0 contents) × (take f.1 line ≡ text (with_contents name f.0 contents)))) →
    IfOk result (λ taken. IfSome taken (λ n. Valued Is text line n old new))
found_valued name found Is text line old new (Err fault) bare held is kept = tt
found_valued name found Is text line old new (Ok None) bare held is kept = tt
found_valued name None Is text line old new (Ok (Some n)) bare held is kept = let none : ◌≡◌ {A = Option (ℕ × ℕ)} None (Some (is.0, n)) = is.1 in absurd (cc)
found_valued name (Some (number, taken)) Is text line old new (Ok (Some n)) bare held is kept =
    let same = same_pair _ _ _ _ _ refl is.1 in
    record {
      field = with_contents name number kept.0;
      has = kept.1.0;
      is_text = ap (λ (m : ℕ). take m line) (sym same.1) ∙ kept.1.1;
      added = (held (with_contents name number kept.0) n refl bare (ap (λ (m : ℕ). Some (number, m)) same.1)).1;
    }

-- the same of a number that is found
pub number_valued : (name : Name) (found : Option (ℕ × ℕ)) (fits : ℕ → Type 0) (shown_as : ℕ → List ℕ) (Is : FieldValue → Type 0) (text : FieldValue → List ℕ) (line : List ℕ) (old new : Said)
    (result : Result (Option ℕ) LineFault) → has_contents (number_of name) ≡ false →
    ((v : FieldValue) (n : ℕ) → v.name ≡ name → has_contents (number_of name) ≡ false → found ≡ Some (v.number, n) → IsHeld v n old new result) →
    IfOk result (λ taken. IfSome taken (λ n. (number : ℕ) × (found ≡ Some (number, n)))) → IsFound fits shown_as line found →
    ((number : ℕ) → fits number → Is (with_contents name number []) × (shown_as number ≡ text (with_contents name number []))) →
    IfOk result (λ taken. IfSome taken (λ n. Valued Is text line n old new))
number_valued name found fits shown_as Is text line old new result bare held is there gives =
    found_valued name found Is text line old new result bare held is (IfSome_then found there (λ f h. ([], ((gives f.0 h.0).0, h.1 ∙ (gives f.0 h.0).1))))

-- what is valued as one thing is valued as another
pub valued_as : (Is Also : FieldValue → Type 0) (text shown_as : FieldValue → List ℕ) (line : List ℕ) (old new : Said) (result : Result (Option ℕ) LineFault) →
    ((v : FieldValue) → Is v → Also v × (text v ≡ shown_as v)) →
    IfOk result (λ taken. IfSome taken (λ n. Valued Is text line n old new)) → IfOk result (λ taken. IfSome taken (λ n. Valued Also shown_as line n old new))
valued_as Is Also text shown_as line old new (Err fault) gives h = tt
valued_as Is Also text shown_as line old new (Ok None) gives h = tt
valued_as Is Also text shown_as line old new (Ok (Some n)) gives h =
    let more = gives h.field h.has in
    record { field = h.field; has = more.0; is_text = h.is_text ∙ more.1; added = h.added }

-- the value of a field whose name has this form
pub value_of : (F : Form) (link : Link) (word : List ℕ) (ends : List Closing) (v : FieldValue) → form_of v.name ≡ F → link_of F ≡ link → TokenIn F ends v ends → word ≡ word_of v.name →
    ValueOf link word ends v × (value_shown F v ≡ shown_value v)
value_of F link word ends v form is_link token is_word =
    ((ap link_of form ∙ is_link, (subst (λ (G : Form). TokenIn G ends v ends) (sym form) token, is_word)), ap (λ (G : Form). value_shown G v) (sym form))

-- a text that is added is valued
pub text_valued : (ends : List Closing) (line now : List ℕ) (old new : Said) (found : ℕ × ℕ) → HasText line old.contents.items now found →
    ((v : FieldValue) → v.name ≡ name.CharacterString → v.number ≡ found.0 → now ≡ old.contents.items ++ v.contents → Adds v old new) →
    Valued (λ v. (v.name ≡ name.CharacterString) × TokenIn as_text ends v ends) (λ v. text_tail (record { set = v.number; octets = v.contents })) line found.1 old new
text_valued ends line now old new found (text, (set, (low, (are, (holds, is))))) adds = record {
  field = with_contents name.CharacterString text.set text.octets;
  has = (refl, (low, (are, refl)));
  is_text = is;
  added = adds (with_contents name.CharacterString text.set text.octets) refl (sym set) holds;
}
