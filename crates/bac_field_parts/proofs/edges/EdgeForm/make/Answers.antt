use Rattle.std.proofs.Common.{rules}
use Rattle.bac_field_parts.proofs.edges.EdgeForm.make.Goals as goal

pub returns-clause-made : goal.returns-clause-made
returns-clause-made g c =
    let appended = rw c.head_of.ensures at c.in_ok-append_head.ensures.ok in
    λ t. record { value = tt; is_given = search (rules, c.if-given-from.false, c.from.ensures); appended = appended }
