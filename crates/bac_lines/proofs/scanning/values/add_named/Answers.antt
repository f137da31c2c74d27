use Rattle.std.specs.Prelude.{◌≡◌, ◌++◌, [], length}
use Rattle.std.proofs.Common.{ap, sym, refl, ◌∙◌}
use Rattle.bac_text.specs.Words.{number, object_text}
use Rattle.bac_record.specs.Digits.{hexadecimal}
use Rattle.bac_field_parts.specs.Names.{word_of}
use Rattle.bac_fields.specs.Line.{as_number, as_object, as_octets, as_address, form_of, object_of}
use Rattle.bac_lines.specs.Found.{Among, by_equals, value_shown, shown_value, ValueOf}
use Rattle.bac_lines.specs.Scanning.{is_decimal}
use Rattle.bac_lines.proofs.NameLemmas.{objects, octets, addresses, one_name, form_among}
use Rattle.bac_lines.proofs.ScanLemmas.{clear_of}
use Rattle.bac_lines.proofs.LinkLemmas.{held_names, held_among, number_named, number_bare, bare_among, filled_among, among_left, among_right, neither, at_form, with_contents, number_valued, valued_as, value_of}
use Rattle.bac_lines.proofs.scanning.values.add_named.Goals as goal

pub returns-in-Some-clause-found : goal.returns-in-Some-clause-found
returns-in-Some-clause-found c = λ v after more link token ended word line.
    let found = c.in-Some.ensures in
    let is : v.name ≡ c.in-Some.name = number_named v c.args.ends.now after c.args.word.now c.in-Some.name found.found found.some.0 found.some.1 link token word in
    at_form as_number v c.args.ends.now after more c.args.line.now c.args.said.now _ _ (ap form_of is ∙ found.some.0) (λ inside shown.
    c.add_found.ensures.found v (length (number v.number)) is (number_bare c.in-Some.name found.some.0)
    (c.find_number.ensures.found v.number more inside.0 (clear_of is_decimal refl refl refl more ended) shown)) token line

pub returns-in-Some-find_name-clause-found : goal.returns-in-Some-find_name-clause-found
returns-in-Some-find_name-clause-found c = λ v after more link token ended word line.
    let among : Among held_names v.name = held_among v c.args.ends.now after c.args.word.now c.find_number_name.result c.find_number_name.ensures.found c.in_default.is link token word in
    let found = c.in-Some-find_name.ensures.some in
    let is : v.name ≡ c.in-Some-find_name.name = one_name held_names v.name c.in-Some-find_name.name refl among (among_left objects (octets ++ addresses) c.in-Some-find_name.name found.0) (sym word ∙ found.1) in
    at_form as_object v c.args.ends.now after more c.args.line.now c.args.said.now _ _ (ap form_of is ∙ form_among as_object objects c.in-Some-find_name.name (refl, (refl, tt)) found.0) (λ inside shown.
    c.add_found-in-Some-find_name.ensures.found v (length (object_text (object_of v.number))) is (bare_among objects c.in-Some-find_name.name refl found.0)
    (c.find_object.ensures.found v.number more inside.0 (clear_of is_decimal refl refl refl more ended) shown)) token line

pub returns-in-Some-find_name-2-clause-found : goal.returns-in-Some-find_name-2-clause-found
returns-in-Some-find_name-2-clause-found c = λ v after more link token ended word line.
    let among : Among held_names v.name = held_among v c.args.ends.now after c.args.word.now c.find_number_name.result c.find_number_name.ensures.found c.in_default.is link token word in
    let found = c.in-Some-find_name-2.ensures.some in
    let within : Among held_names c.in-Some-find_name-2.name = among_right objects (octets ++ addresses) c.in-Some-find_name-2.name (among_left octets addresses c.in-Some-find_name-2.name found.0) in
    let is : v.name ≡ c.in-Some-find_name-2.name = one_name held_names v.name c.in-Some-find_name-2.name refl among within (sym word ∙ found.1) in
    at_form as_octets v c.args.ends.now after more c.args.line.now c.args.said.now _ _ (ap form_of is ∙ form_among as_octets octets c.in-Some-find_name-2.name (refl, (refl, (refl, tt))) found.0) (λ inside shown.
    c.add_held.ensures.found v more is inside.0 (filled_among octets c.in-Some-find_name-2.name refl found.0) inside.1.0 ended shown) token line

pub returns-in-Some-find_name-3-clause-found : goal.returns-in-Some-find_name-3-clause-found
returns-in-Some-find_name-3-clause-found c = λ v after more link token ended word line.
    let among : Among held_names v.name = held_among v c.args.ends.now after c.args.word.now c.find_number_name.result c.find_number_name.ensures.found c.in_default.is link token word in
    let found = c.in-Some-find_name-3.ensures.some in
    let within : Among held_names c.in-Some-find_name-3.name = among_right objects (octets ++ addresses) c.in-Some-find_name-3.name (among_right octets addresses c.in-Some-find_name-3.name found.0) in
    let is : v.name ≡ c.in-Some-find_name-3.name = one_name held_names v.name c.in-Some-find_name-3.name refl among within (sym word ∙ found.1) in
    at_form as_address v c.args.ends.now after more c.args.line.now c.args.said.now _ _ (ap form_of is ∙ form_among as_address addresses c.in-Some-find_name-3.name (refl, (refl, tt)) found.0) (λ inside shown.
    c.add_addressed.ensures.found v more is inside.0 (filled_among addresses c.in-Some-find_name-3.name refl found.0) inside.1.0 ended shown) token line

pub returns-in-None-clause-found : goal.returns-in-None-clause-found
returns-in-None-clause-found c = λ v after more link token ended word line.
    let among : Among held_names v.name = held_among v c.args.ends.now after c.args.word.now c.find_number_name.result c.find_number_name.ensures.found c.in_default.is link token word in
    absurd (neither objects (octets ++ addresses) v.name (λ m. c.in_default-find_name.ensures.none v.name m word)
    (neither octets addresses v.name (λ m. c.in_default-find_name-2.ensures.none v.name m word) (λ m. c.in-None.ensures.none v.name m word)) among)

pub returns-in-Some-clause-within : goal.returns-in-Some-clause-within
returns-in-Some-clause-within c = c.add_found.ensures.within _ c.find_number.ensures.within

pub returns-in-Some-find_name-clause-within : goal.returns-in-Some-find_name-clause-within
returns-in-Some-find_name-clause-within c = c.add_found-in-Some-find_name.ensures.within _ c.find_object.ensures.within

pub returns-in-Some-clause-sound : goal.returns-in-Some-clause-sound
returns-in-Some-clause-sound c =
    let found = c.in-Some.ensures in
    number_valued c.in-Some.name c.find_number.result _ number (ValueOf by_equals c.args.word.now c.args.ends.now) shown_value c.args.line.now c.args.said.now _ c.add_found.result (number_bare c.in-Some.name found.some.0)
    c.add_found.ensures.found c.add_found.ensures.sound c.find_number.ensures.sound
    (λ n fits. value_of as_number by_equals c.args.word.now c.args.ends.now (with_contents c.in-Some.name n []) found.some.0 refl (fits, (found.named, refl)) found.some.1)

pub returns-in-Some-find_name-clause-sound : goal.returns-in-Some-find_name-clause-sound
returns-in-Some-find_name-clause-sound c =
    let found = c.in-Some-find_name.ensures.some in
    let form = form_among as_object objects c.in-Some-find_name.name (refl, (refl, tt)) found.0 in
    number_valued c.in-Some-find_name.name c.find_object.result _ (λ bits. object_text (object_of bits)) (ValueOf by_equals c.args.word.now c.args.ends.now) shown_value c.args.line.now c.args.said.now _ c.add_found-in-Some-find_name.result
    (bare_among objects c.in-Some-find_name.name refl found.0) c.add_found-in-Some-find_name.ensures.found c.add_found-in-Some-find_name.ensures.sound c.find_object.ensures.sound
    (λ n fits. value_of as_object by_equals c.args.word.now c.args.ends.now (with_contents c.in-Some-find_name.name n []) form refl (fits, refl) found.1)

pub returns-in-Some-find_name-2-clause-sound : goal.returns-in-Some-find_name-2-clause-sound
returns-in-Some-find_name-2-clause-sound c =
    let found = c.in-Some-find_name-2.ensures.some in
    let form = form_among as_octets octets c.in-Some-find_name-2.name (refl, (refl, (refl, tt))) found.0 in
    valued_as _ (ValueOf by_equals c.args.word.now c.args.ends.now) (λ v. hexadecimal v.contents) shown_value c.args.line.now c.args.said.now _ c.add_held.result
    (λ v is. value_of as_octets by_equals c.args.word.now c.args.ends.now v (ap form_of is.0 ∙ form) refl (is.1.0, (is.1.1, refl)) (found.1 ∙ ap word_of (sym is.0)))
    (c.add_held.ensures.sound (filled_among octets c.in-Some-find_name-2.name refl found.0))

pub returns-in-Some-find_name-3-clause-sound : goal.returns-in-Some-find_name-3-clause-sound
returns-in-Some-find_name-3-clause-sound c =
    let found = c.in-Some-find_name-3.ensures.some in
    let form = form_among as_address addresses c.in-Some-find_name-3.name (refl, (refl, tt)) found.0 in
    valued_as _ (ValueOf by_equals c.args.word.now c.args.ends.now) (value_shown as_address) shown_value c.args.line.now c.args.said.now _ c.add_addressed.result
    (λ v is. value_of as_address by_equals c.args.word.now c.args.ends.now v (ap form_of is.0 ∙ form) refl (is.1.0, (is.1.1, refl)) (found.1 ∙ ap word_of (sym is.0)))
    (c.add_addressed.ensures.sound (filled_among addresses c.in-Some-find_name-3.name refl found.0))
