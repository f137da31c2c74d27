use Rattle.std.specs.Prelude.{[], refl}
use Rattle.std.specs.Cmp.Lexicographic.{bytes_decides}
use Rattle.std.proofs.Common.{◌∙◌, sym, ap, subst, inl, inr, arith}
use Rattle.bac_fields.specs.Line.{Form, as_word, begins}
use Rattle.bac_lines.specs.Scanning.{TokenIn, word_number}
use Rattle.bac_lines.specs.Found.{word_before}
use Rattle.bac_field_parts.specs.declared.names.Name.TheVariants as name
use Rattle.bac_lines.proofs.NameLemmas.{words, Named, named, one_name, form_among}
use Rattle.bac_lines.proofs.LinkLemmas.{bare_among}
use Rattle.bac_lines.proofs.ScanLemmas.{found_is}
use Rattle.bac_lines.proofs.scanning.words.add_word.Goals as goal

pub returns-clause-word : goal.returns-clause-word
returns-clause-word c ends v after f t e =
    let some = c.in-Some.ensures.some in
    let same = one_name words v.name c.in-Some.name refl (subst (λ (form : Form). Named form v.name) f (named v.name)) some.0 (sym e ∙ some.1) in
    (found_is refl (sym (ap begins f)), (sym t.1, c.in_ok-add-3.ensures.added v same (t.0 ∙ ap word_number same ∙ sym c.number_of_word.ensures) (bare_among words c.in-Some.name refl some.0)))

pub returns-then-eq-clause-sound : goal.returns-then-eq-clause-sound
returns-then-eq-clause-sound c ends =
    let word = (bytes_decides c.args.word.now c.as_slice.result.now).0 (sym c.eq.ensures ∙ c.if-eq.true) ∙ c.as_slice.ensures in
    (record { name = name.Boolean; number = 0; head = []; contents = [] }, (inr refl, ((omega arith, refl), (word, (refl, c.in_ok-add.ensures.added (record { name = name.Boolean; number = 0; head = []; contents = [] }) refl refl refl)))))

pub returns-then-eq-2-clause-sound : goal.returns-then-eq-2-clause-sound
returns-then-eq-2-clause-sound c ends =
    let word = (bytes_decides c.args.word.now c.as_slice-2.result.now).0 (sym c.eq-2.ensures ∙ c.if-eq-2.true) ∙ c.as_slice-2.ensures in
    (record { name = name.Boolean; number = 1; head = []; contents = [] }, (inr refl, ((omega arith, refl), (word, (refl, c.in_ok-add-2.ensures.added (record { name = name.Boolean; number = 1; head = []; contents = [] }) refl refl refl)))))

pub returns-clause-sound : goal.returns-clause-sound
returns-clause-sound c ends =
    let some = c.in-Some.ensures.some in
    let form = form_among as_word words c.in-Some.name (refl, (refl, (refl, (refl, (refl, (refl, (refl, (refl, (refl, (refl, (refl, (refl, (refl, (refl, (refl, (refl, (refl, (refl, (refl, (refl, (refl, tt))))))))))))))))))))) some.0 in (
      record { name = c.in-Some.name; number = word_number c.in-Some.name; head = []; contents = [] },
      (
        inl form,
        (
          subst (λ (f : Form). TokenIn f ends (record { name = c.in-Some.name; number = word_number c.in-Some.name; head = []; contents = [] }) ends) (sym form) (refl, refl),
          (
            some.1 ∙ sym (ap (λ (f : Form). word_before f (record { name = c.in-Some.name; number = word_number c.in-Some.name; head = []; contents = [] })) form),
            (refl, c.in_ok-add-3.ensures.added (record { name = c.in-Some.name; number = word_number c.in-Some.name; head = []; contents = [] }) refl (sym c.number_of_word.ensures) (bare_among words c.in-Some.name refl some.0)),
          ),
        ),
      ),
    )
