use Rattle.std.specs.Prelude.{Some, refl}
use Rattle.std.proofs.Common.{ap, sym, subst, ◌∙◌}
use Rattle.bac_fields.specs.Line.{Form, as_text}
use Rattle.bac_lines.specs.Scanning.{TokenIn}
use Rattle.bac_lines.proofs.LinkLemmas.{is_text, same_pair, text_valued}
use Rattle.bac_lines.proofs.scanning.values.add_string.Goals as goal

pub returns-in_default-clause-found : goal.returns-in_default-clause-found
returns-in_default-clause-found c = λ ends v after more link token ended line.
    let inside : TokenIn as_text ends v after = subst (λ (F : Form). TokenIn F ends v after) (is_text v.name link).1 token in
    let found = c.in_ok-set.ensures.found (record { set = v.number; octets = v.contents }) more inside.0 inside.1.0 ended line in
    let some = found.0 in
    absurd (cc)

pub returns-clause-found : goal.returns-clause-found
returns-clause-found c = λ ends v after more link token ended line.
    let inside : TokenIn as_text ends v after = subst (λ (F : Form). TokenIn F ends v after) (is_text v.name link).1 token in
    let found = c.in_ok-set.ensures.found (record { set = v.number; octets = v.contents }) more inside.0 inside.1.0 ended line in
    let same = same_pair c.in_ok-set.field-0 _ _ _ _ found.0 c.in-Some.is in
    (ap Some (sym same.1), c.in_ok-add_since.ensures.added c.args.said.now v (is_text v.name link).0 same.0 (sym (c.len-start.ensures ∙ c.args.said.now.contents.ok.0)) refl found.1)

pub returns-clause-sound : goal.returns-clause-sound
returns-clause-sound c = λ ends.
    text_valued ends c.args.line.now c.add_text.new.contents.items c.args.said.now _ (c.in-Some.set, c.in-Some.taken) (rw c.in-Some.is at c.in_ok-set.ensures.sound) (λ v is number holds.
    c.in_ok-add_since.ensures.added c.args.said.now v is number (sym (c.len-start.ensures ∙ c.args.said.now.contents.ok.0)) refl holds)
