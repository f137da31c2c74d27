use Rattle.std.proofs.Common.{sym}
use Rattle.bac_field_parts.specs.Laws.Strings.{null_least}
use Rattle.bac_field_parts.proofs.elements.NullElementForm.make.Goals as goal

pub returns-clause-made : goal.returns-clause-made
returns-clause-made c some =
    let a = c.in_ok-append_head.ensures.ok in
    record { value = record {}; is_given = sym c.if-given-ne0.false; appended = record { more = a.more; is_least = null_least (record {}) a.more a.is_least; new_is = a.new_is } }
