use Rattle.std.proofs.Common.{◌≤◌, sym, ◌∙◌, arith}
use Rattle.bac_field_parts.specs.Laws.Strings.{other_stopped, none_stopped}
use Rattle.bac_field_parts.proofs.elements.make_element.Goals as goal

pub returns-in_default-clause-stopped : goal.returns-in_default-clause-stopped
returns-in_default-clause-stopped c = rw c.at.ensures (λ s sound other. none_stopped c.args.octets.now c.args.fields.now (sym c.in_default.is ∙ c.lead.ensures) s sound)

pub returns-in_default-name-clause-stopped : goal.returns-in_default-name-clause-stopped
returns-in_default-name-clause-stopped c =
    let out : 130 ≤ c.in-Some.name → c.in-Some.name ≤ 143 → ⊥ = λ a b. omega (arith, a, b) in
    rw c.at-in_default-name.ensures (λ s sound other. other_stopped c.args.octets.now c.args.fields.now c.in-Some.name (sym c.in-Some.is ∙ c.lead.ensures) out s sound other)
