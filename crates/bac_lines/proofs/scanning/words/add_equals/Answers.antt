use Rattle.std.specs.Prelude.{refl}
use Rattle.std.proofs.Common.{◌∙◌, ◌∷◌, ℕ, sym, ap}
use Rattle.bac_fields.specs.Line.{form_of}
use Rattle.bac_lines.proofs.ScanLemmas.{first_is}
use Rattle.bac_lines.proofs.WordLemmas.{not_value}
use Rattle.bac_lines.proofs.scanning.words.add_equals.Goals as goal

pub returns-then-octet-eq40-clause-held : goal.returns-then-octet-eq40-clause-held
returns-then-octet-eq40-clause-held c v after more k t e w l =
    let first = first_is c.args.line.now c.in-Some.octet.now c.in-Some.ensures.value in
    absurd (not_value 40 refl refl refl (form_of v.name) c.args.ends.now.items v after more first.0 k t e (ap (λ (z : ℕ). z ∷ first.0) (sym c.if-octet-eq40.true) ∙ sym first.1 ∙ l))

pub returns-then-octet-eq123-clause-held : goal.returns-then-octet-eq123-clause-held
returns-then-octet-eq123-clause-held c v after more k t e w l =
    let first = first_is c.args.line.now c.in-Some.octet.now c.in-Some.ensures.value in
    absurd (not_value 123 refl refl refl (form_of v.name) c.args.ends.now.items v after more first.0 k t e (ap (λ (z : ℕ). z ∷ first.0) (sym c.if-octet-eq123.true) ∙ sym first.1 ∙ l))
