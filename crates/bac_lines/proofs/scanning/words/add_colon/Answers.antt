use Rattle.std.specs.Prelude.{ℕ, List, ◌∷◌}
use Rattle.std.proofs.Common.{◌∙◌, sym, ap, arith}
use Rattle.bac_fields.specs.Line.{form_of}
use Rattle.bac_lines.proofs.ScanLemmas.{take_sign}
use Rattle.bac_lines.proofs.StartLemmas.{colon_after, colon_word, colon_begins, colon_sort}
use Rattle.bac_lines.proofs.scanning.words.add_colon.Goals as goal

pub returns-in-Some-clause-sound : goal.returns-in-Some-clause-sound
returns-in-Some-clause-sound c ends =
    let s = (rw c.in-Some.is at c.in_ok-taken.ensures.sound) ends in
    let form = form_of s.field.name in
    record {
      field = s.field;
      worded = colon_sort form s.has.0;
      token = s.has.1.0;
      is_word = s.has.1.1 ∙ sym (colon_word form s.field s.has.0);
      some = omega arith;
      is_text = take_sign 58 c.args.line.now c.in-Some.taken ∙ ap (λ (l : List ℕ). 58 ∷ l) s.is_text ∙ sym (colon_after form s.field s.has.0);
      begun = sym (colon_begins form s.field s.has.0);
      added = s.added;
    }
