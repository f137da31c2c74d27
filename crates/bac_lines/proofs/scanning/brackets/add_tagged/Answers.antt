use Rattle.std.proofs.Common.{inl, inr, ◌∙◌, ◌∷◌, ◌++◌, [], List, ℕ, sym, ap, arith, append_assoc}
use Rattle.std.proofs.lemmas.List.{length-append}
use Rattle.std.specs.Prelude.{refl, ◌-◌, length, take, drop}
use Rattle.bac_fields.specs.Line.{form_of, as_group, as_context}
use Rattle.bac_record.specs.Digits.{hexadecimal}
use Rattle.bac_text.specs.Words.{number}
use Rattle.bac_lines.specs.Found.{sort_of}
use Rattle.bac_lines.proofs.StartLemmas.{not_end_sort}
use Rattle.bac_lines.proofs.ScanLemmas.{not_both, found_is, tag_rest, pair_is, take_next, tagged_shown}
use Rattle.bac_lines.proofs.scanning.brackets.add_tagged.Goals as goal

pub returns-in-Some-2-clause-group : goal.returns-in-Some-2-clause-group
returns-in-Some-2-clause-group c v after more f t l =
    let line = l ∙ ap (λ (l : List ℕ). 91 ∷ l) (append_assoc (number v.number) (93 ∷ 123 ∷ []) more) in
    let tag = pair_is (c.in-Some.ensures.found v.number (123 ∷ more) t.0 line) in
    let r = c.in_ok-taken.ensures.group v after more f t tag.0 (tag_rest c.args.line.now (number v.number) (123 ∷ more) c.in-Some.start line tag.1) in
    let p = pair_is (sym c.in-Some-2.is ∙ r.0) in
    (found_is (omega (arith, tag.1, p.0, length-append (number v.number) (93 ∷ 123 ∷ []))) p.1, r.1)

pub returns-in-Some-2-clause-context : goal.returns-in-Some-2-clause-context
returns-in-Some-2-clause-context c v after more f t e l =
    let line = l ∙ ap (λ (l : List ℕ). 91 ∷ l) (append_assoc (number v.number) (93 ∷ hexadecimal v.contents) more) in
    let tag = pair_is (c.in-Some.ensures.found v.number (hexadecimal v.contents ++ more) t.0 line) in
    let r = c.in_ok-taken.ensures.context v after more f t e tag.0 (tag_rest c.args.line.now (number v.number) (hexadecimal v.contents ++ more) c.in-Some.start line tag.1) in
    let p = pair_is (sym c.in-Some-2.is ∙ r.0) in
    (found_is (omega (arith, tag.1, p.0, length-append (number v.number) (93 ∷ hexadecimal v.contents))) p.1, r.1)

pub returns-in-None-clause-group : goal.returns-in-None-clause-group
returns-in-None-clause-group c v after more f t l =
    let line = l ∙ ap (λ (l : List ℕ). 91 ∷ l) (append_assoc (number v.number) (93 ∷ 123 ∷ []) more) in
    let tag = pair_is (c.in-Some.ensures.found v.number (123 ∷ more) t.0 line) in
    absurd (not_both c.in-None.is (c.in_ok-taken.ensures.group v after more f t tag.0 (tag_rest c.args.line.now (number v.number) (123 ∷ more) c.in-Some.start line tag.1)).0)

pub returns-in-None-clause-context : goal.returns-in-None-clause-context
returns-in-None-clause-context c v after more f t e l =
    let line = l ∙ ap (λ (l : List ℕ). 91 ∷ l) (append_assoc (number v.number) (93 ∷ hexadecimal v.contents) more) in
    let tag = pair_is (c.in-Some.ensures.found v.number (hexadecimal v.contents ++ more) t.0 line) in
    absurd (not_both c.in-None.is (c.in_ok-taken.ensures.context v after more f t e tag.0 (tag_rest c.args.line.now (number v.number) (hexadecimal v.contents ++ more) c.in-Some.start line tag.1)).0)

pub returns-in-Some-2-clause-sound : goal.returns-in-Some-2-clause-sound
returns-in-Some-2-clause-sound c =
    let line = c.args.line.now in
    let tag = c.in-Some.ensures.sound in
    let s = (rw c.in-Some-2.is at c.in_ok-taken.ensures.sound) tag.0 in
    let front = take_next line c.in-Some.start c.in-Some-2.taken c.in-Some.ensures.within in
    record {
      field = s.field;
      no_end = elim s.is_tag [ inl k ↦ λ e. not_end_sort (sort_of as_group) refl (sym (ap sort_of k) ∙ e) | inr k ↦ λ e. not_end_sort (sort_of as_context) refl (sym (ap sort_of k) ∙ e) ];
      token = s.token;
      is_text = front ∙ ap (λ (l : List ℕ). l ++ take c.in-Some-2.taken (take (length line - c.in-Some.start) (drop c.in-Some.start line))) tag.1 ∙ ap (λ (l : List ℕ). (91 ∷ (number c.in-Some.number ++ 93 ∷ [])) ++ l) s.is_text
          ∙ tagged_shown (form_of s.field.name) s.field c.in-Some.number s.is_tag s.is_number;
      begun = s.begun;
      added = s.added;
    }
