use Rattle.std.specs.Prelude.{refl}
use Rattle.std.proofs.Common.{◌∙◌, sym, ap, subst}
use Rattle.bac_fields.specs.Line.{Form, form_of, begins}
use Rattle.bac_lines.specs.Scanning.{TokenIn}
use Rattle.bac_lines.specs.Found.{link_of}
use Rattle.bac_lines.proofs.ScanLemmas.{some_is, not_both, found_is}
use Rattle.bac_lines.proofs.scanning.words.add_after_s.Goals as goal

pub returns-in-Some-clause-found : goal.returns-in-Some-clause-found
returns-in-Some-clause-found c ends v after more f t e l =
    let r = c.in_ok-taken.ensures.found ends v after more (ap link_of f) (subst (λ (form : Form). TokenIn form ends v after) (sym f) t) e l in
    (found_is (some_is _ _ (sym c.in-Some.is ∙ r.0)) (sym (ap begins f)), (sym t.1.1, r.1))

pub returns-in-None-clause-found : goal.returns-in-None-clause-found
returns-in-None-clause-found c ends v after more f t e l =
    let r = c.in_ok-taken.ensures.found ends v after more (ap link_of f) (subst (λ (form : Form). TokenIn form ends v after) (sym f) t) e l in
    absurd (not_both c.in-None.is r.0)

pub returns-in-Some-clause-sound : goal.returns-in-Some-clause-sound
returns-in-Some-clause-sound c ends =
    let s = (rw c.in-Some.is at c.in_ok-taken.ensures.sound) ends in
    (s.field, (ap form_of s.has.0, (s.has.1, (s.is_text, (refl, s.added)))))
