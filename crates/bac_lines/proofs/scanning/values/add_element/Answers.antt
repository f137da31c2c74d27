use Rattle.std.specs.Prelude.{◌≡◌, [], length}
use Rattle.std.proofs.Common.{ap, sym, refl, subst, ◌∙◌, inl, inr, arith}
use Rattle.std.specs.Fmt.{signed_decimal}
use Rattle.std.specs.Int.{w64, cast_signed}
use Rattle.bac_text.specs.Words.{number, object_text}
use Rattle.bac_record.specs.Digits.{hexadecimal}
use Rattle.bac_field_parts.specs.declared.names.Name.{Name}
use Rattle.bac_field_parts.specs.declared.names.Name.TheVariants as name
use Rattle.bac_field_parts.specs.Names.{word_of}
use Rattle.bac_fields.specs.Line.{as_element, as_contents, as_signed, as_identifier, as_bits, form_of, object_of}
use Rattle.bac_lines.specs.Scanning.{is_decimal}
use Rattle.bac_lines.specs.Found.{Among, by_colon, value_shown, shown_value, ValueOf}
use Rattle.bac_lines.proofs.Hexes.{hex_length}
use Rattle.bac_lines.proofs.NameLemmas.{counts, strings, form_among}
use Rattle.bac_lines.proofs.ScanLemmas.{clear_of}
use Rattle.bac_lines.proofs.LinkLemmas.{element_named, is_count, is_real, is_string, is_lone, bare_among, filled_among, at_form, held_so, single_bits, double_bits, string_bits, has_single, has_double, string_has, is_same, is_other, is_word_of, none_of_elements, with_contents, number_valued, valued_as, value_of}
use Rattle.bac_lines.proofs.scanning.values.add_element.Goals as goal

-- ---- a number

pub returns-in-Some-clause-found : goal.returns-in-Some-clause-found
returns-in-Some-clause-found c = λ ends v after more link token ended word line.
    let found = c.in-Some.ensures.some in
    let is : v.name ≡ c.in-Some.name = element_named v.name c.in-Some.name link (is_count c.in-Some.name found.0) (sym word ∙ found.1) in
    at_form as_element v ends after more c.args.line.now c.args.said.now _ _ (ap form_of is ∙ form_among as_element counts c.in-Some.name (refl, (refl, tt)) found.0) (λ inside shown.
    c.add_found.ensures.found v (length (number v.number)) is (bare_among counts c.in-Some.name refl found.0)
    (c.find_number.ensures.found v.number more inside.0 (clear_of is_decimal refl refl refl more ended) shown)) token line

pub returns-in-Some-clause-sound : goal.returns-in-Some-clause-sound
returns-in-Some-clause-sound c = λ ends.
    let found = c.in-Some.ensures.some in
    let form = form_among as_element counts c.in-Some.name (refl, (refl, tt)) found.0 in
    number_valued c.in-Some.name c.find_number.result _ number (ValueOf by_colon c.args.word.now ends) shown_value c.args.line.now c.args.said.now _ c.add_found.result (bare_among counts c.in-Some.name refl found.0)
    c.add_found.ensures.found c.add_found.ensures.sound c.find_number.ensures.sound
    (λ n fits. value_of as_element by_colon c.args.word.now ends (with_contents c.in-Some.name n []) form refl (fits, refl) found.1)

pub returns-in-Some-clause-within : goal.returns-in-Some-clause-within
returns-in-Some-clause-within c = c.add_found.ensures.within _ c.find_number.ensures.within

-- ---- the bits of a number

pub returns-then-eq-clause-found : goal.returns-then-eq-clause-found
returns-then-eq-clause-found c = λ ends v after more link token ended word line.
    let is : v.name ≡ name.Real = element_named v.name name.Real link (is_real name.Real (inl refl)) (is_same v.name name.Real c.args.word.now c.as_slice.result.now c.eq.result c.eq.ensures c.if-eq.true c.as_slice.ensures word) in
    at_form as_contents v ends after more c.args.line.now c.args.said.now _ _ (ap form_of is) (λ inside shown.
    let bits = single_bits v.name v.number v.contents is inside.0 in
    held_so v 8 (length (hexadecimal v.contents)) c.args.said.now _ _ (sym (hex_length v.contents ∙ bits.1)) (c.add_bits_of.ensures.found v more is refl bits.0 bits.1 (omega arith) inside.1.0 ended shown)) token line

pub returns-then-eq-clause-sound : goal.returns-then-eq-clause-sound
returns-then-eq-clause-sound c = λ ends.
    let is_word = is_word_of name.Real c.args.word.now c.as_slice.result.now c.eq.result c.eq.ensures c.if-eq.true c.as_slice.ensures in
    valued_as _ (ValueOf by_colon c.args.word.now ends) (λ v. hexadecimal v.contents) shown_value c.args.line.now c.args.said.now _ c.add_bits_of.result
    (λ v is. value_of as_contents by_colon c.args.word.now ends v (ap form_of is.0) refl (has_single v.name v.number v.contents is.0 is.1.0 is.1.1.0, (is.1.1.1, refl)) (is_word ∙ ap word_of (sym is.0)))
    (c.add_bits_of.ensures.sound refl)

pub returns-then-eq-2-clause-found : goal.returns-then-eq-2-clause-found
returns-then-eq-2-clause-found c = λ ends v after more link token ended word line.
    let is : v.name ≡ name.Double = element_named v.name name.Double link (is_real name.Double (inr (inl refl))) (is_same v.name name.Double c.args.word.now c.as_slice-2.result.now c.eq-2.result c.eq-2.ensures c.if-eq-2.true c.as_slice-2.ensures word) in
    at_form as_contents v ends after more c.args.line.now c.args.said.now _ _ (ap form_of is) (λ inside shown.
    let bits = double_bits v.name v.number v.contents is inside.0 in
    held_so v 16 (length (hexadecimal v.contents)) c.args.said.now _ _ (sym (hex_length v.contents ∙ bits.1)) (c.add_bits_of-then-eq-2.ensures.found v more is refl bits.0 bits.1 (omega arith) inside.1.0 ended shown)) token line

pub returns-then-eq-2-clause-sound : goal.returns-then-eq-2-clause-sound
returns-then-eq-2-clause-sound c = λ ends.
    let is_word = is_word_of name.Double c.args.word.now c.as_slice-2.result.now c.eq-2.result c.eq-2.ensures c.if-eq-2.true c.as_slice-2.ensures in
    valued_as _ (ValueOf by_colon c.args.word.now ends) (λ v. hexadecimal v.contents) shown_value c.args.line.now c.args.said.now _ c.add_bits_of-then-eq-2.result
    (λ v is. value_of as_contents by_colon c.args.word.now ends v (ap form_of is.0) refl (has_double v.name v.number v.contents is.0 is.1.0 is.1.1.0, (is.1.1.1, refl)) (is_word ∙ ap word_of (sym is.0)))
    (c.add_bits_of-then-eq-2.ensures.sound refl)

-- ---- octets

pub returns-in-Some-find_name-clause-found : goal.returns-in-Some-find_name-clause-found
returns-in-Some-find_name-clause-found c = λ ends v after more link token ended word line.
    let found = c.in-Some-find_name.ensures.some in
    let is : v.name ≡ c.in-Some-find_name.name = element_named v.name c.in-Some-find_name.name link (is_string c.in-Some-find_name.name found.0) (sym word ∙ found.1) in
    let string : Among strings v.name = subst (λ (n : Name). Among strings n) (sym is) found.0 in
    at_form as_contents v ends after more c.args.line.now c.args.said.now _ _ (ap form_of is ∙ form_among as_contents strings c.in-Some-find_name.name (refl, (refl, (refl, tt))) found.0) (λ inside shown.
    c.add_held.ensures.found v more is (string_bits v.name v.number v.contents string inside.0) (filled_among strings c.in-Some-find_name.name refl found.0) inside.1.0 ended shown) token line

pub returns-in-Some-find_name-clause-sound : goal.returns-in-Some-find_name-clause-sound
returns-in-Some-find_name-clause-sound c = λ ends.
    let found = c.in-Some-find_name.ensures.some in
    let form = form_among as_contents strings c.in-Some-find_name.name (refl, (refl, (refl, tt))) found.0 in
    valued_as _ (ValueOf by_colon c.args.word.now ends) (λ v. hexadecimal v.contents) shown_value c.args.line.now c.args.said.now _ c.add_held.result
    (λ v is.
    let string : Among strings v.name = subst (λ (n : Name). Among strings n) (sym is.0) found.0 in
    value_of as_contents by_colon c.args.word.now ends v (ap form_of is.0 ∙ form) refl (string_has v.name v.number v.contents string is.1.0, (is.1.1, refl)) (found.1 ∙ ap word_of (sym is.0)))
    (c.add_held.ensures.sound (filled_among strings c.in-Some-find_name.name refl found.0))

-- ---- a signed number

pub returns-then-eq-3-clause-found : goal.returns-then-eq-3-clause-found
returns-then-eq-3-clause-found c = λ ends v after more link token ended word line.
    let is : v.name ≡ name.Signed = element_named v.name name.Signed link (is_lone name.Signed (inl refl)) (is_same v.name name.Signed c.args.word.now c.as_slice-3.result.now c.eq-3.result c.eq-3.ensures c.if-eq-3.true c.as_slice-3.ensures word) in
    at_form as_signed v ends after more c.args.line.now c.args.said.now _ _ (ap form_of is) (λ inside shown.
    c.add_found-then-eq-3.ensures.found v (length (signed_decimal (cast_signed w64 v.number))) is refl
    (c.find_signed.ensures.found v.number more inside.0 (clear_of is_decimal refl refl refl more ended) shown)) token line

pub returns-then-eq-3-clause-sound : goal.returns-then-eq-3-clause-sound
returns-then-eq-3-clause-sound c = λ ends.
    let is_word = is_word_of name.Signed c.args.word.now c.as_slice-3.result.now c.eq-3.result c.eq-3.ensures c.if-eq-3.true c.as_slice-3.ensures in
    number_valued name.Signed c.find_signed.result _ (λ bits. signed_decimal (cast_signed w64 bits)) (ValueOf by_colon c.args.word.now ends) shown_value c.args.line.now c.args.said.now _ c.add_found-then-eq-3.result refl
    c.add_found-then-eq-3.ensures.found c.add_found-then-eq-3.ensures.sound c.find_signed.ensures.sound
    (λ n fits. value_of as_signed by_colon c.args.word.now ends (with_contents name.Signed n []) refl refl (fits, refl) is_word)

pub returns-then-eq-3-clause-within : goal.returns-then-eq-3-clause-within
returns-then-eq-3-clause-within c = c.add_found-then-eq-3.ensures.within _ c.find_signed.ensures.within

-- ---- an object

pub returns-then-eq-4-clause-found : goal.returns-then-eq-4-clause-found
returns-then-eq-4-clause-found c = λ ends v after more link token ended word line.
    let is : v.name ≡ name.ObjectIdentifier = element_named v.name name.ObjectIdentifier link (is_lone name.ObjectIdentifier (inr (inl refl))) (is_same v.name name.ObjectIdentifier c.args.word.now c.as_slice-4.result.now c.eq-4.result c.eq-4.ensures c.if-eq-4.true c.as_slice-4.ensures word) in
    at_form as_identifier v ends after more c.args.line.now c.args.said.now _ _ (ap form_of is) (λ inside shown.
    c.add_found-then-eq-4.ensures.found v (length (object_text (object_of v.number))) is refl
    (c.find_object.ensures.found v.number more inside.0 (clear_of is_decimal refl refl refl more ended) shown)) token line

pub returns-then-eq-4-clause-sound : goal.returns-then-eq-4-clause-sound
returns-then-eq-4-clause-sound c = λ ends.
    let is_word = is_word_of name.ObjectIdentifier c.args.word.now c.as_slice-4.result.now c.eq-4.result c.eq-4.ensures c.if-eq-4.true c.as_slice-4.ensures in
    number_valued name.ObjectIdentifier c.find_object.result _ (λ bits. object_text (object_of bits)) (ValueOf by_colon c.args.word.now ends) shown_value c.args.line.now c.args.said.now _ c.add_found-then-eq-4.result refl
    c.add_found-then-eq-4.ensures.found c.add_found-then-eq-4.ensures.sound c.find_object.ensures.sound
    (λ n fits. value_of as_identifier by_colon c.args.word.now ends (with_contents name.ObjectIdentifier n []) refl refl (fits, refl) is_word)

pub returns-then-eq-4-clause-within : goal.returns-then-eq-4-clause-within
returns-then-eq-4-clause-within c = c.add_found-then-eq-4.ensures.within _ c.find_object.ensures.within

-- ---- bits

pub returns-then-eq-5-clause-found : goal.returns-then-eq-5-clause-found
returns-then-eq-5-clause-found c = λ ends v after more link token ended word line.
    let is : v.name ≡ name.BitString = element_named v.name name.BitString link (is_lone name.BitString (inr (inr (inl refl)))) (is_same v.name name.BitString c.args.word.now c.as_slice-5.result.now c.eq-5.result c.eq-5.ensures c.if-eq-5.true c.as_slice-5.ensures word) in
    at_form as_bits v ends after more c.args.line.now c.args.said.now _ _ (ap form_of is) (λ inside shown. c.add_bit_string.ensures.found ends v after more (ap form_of is) inside ended shown) token line

pub returns-then-eq-5-clause-sound : goal.returns-then-eq-5-clause-sound
returns-then-eq-5-clause-sound c = λ ends.
    let is_word = is_word_of name.BitString c.args.word.now c.as_slice-5.result.now c.eq-5.result c.eq-5.ensures c.if-eq-5.true c.as_slice-5.ensures in
    valued_as _ (ValueOf by_colon c.args.word.now ends) (value_shown as_bits) shown_value c.args.line.now c.args.said.now _ c.add_bit_string.result
    (λ v is. value_of as_bits by_colon c.args.word.now ends v (ap form_of is.0) refl is.1 (is_word ∙ ap word_of (sym is.0)))
    (c.add_bit_string.ensures.sound ends)

-- ---- nothing

pub returns-clause-found : goal.returns-clause-found
returns-clause-found c = λ ends v after more link token ended word line.
    absurd (none_of_elements v.name link (λ m. c.in_default.ensures.none v.name m word)
    (is_other v.name name.Real c.args.word.now c.as_slice.result.now c.eq.result c.eq.ensures c.if-eq.false c.as_slice.ensures word)
    (is_other v.name name.Double c.args.word.now c.as_slice-2.result.now c.eq-2.result c.eq-2.ensures c.if-eq-2.false c.as_slice-2.ensures word)
    (λ m. c.in_default-find_name.ensures.none v.name m word)
    (is_other v.name name.Signed c.args.word.now c.as_slice-3.result.now c.eq-3.result c.eq-3.ensures c.if-eq-3.false c.as_slice-3.ensures word)
    (is_other v.name name.ObjectIdentifier c.args.word.now c.as_slice-4.result.now c.eq-4.result c.eq-4.ensures c.if-eq-4.false c.as_slice-4.ensures word)
    (is_other v.name name.BitString c.args.word.now c.as_slice-5.result.now c.eq-5.result c.eq-5.ensures c.if-eq-5.false c.as_slice-5.ensures word))
