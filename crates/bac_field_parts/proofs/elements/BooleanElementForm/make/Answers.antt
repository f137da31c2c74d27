use Rattle.bac_data.proofs.EventLeastLemmas.{least_boolean_of}
use Rattle.bac_field_parts.proofs.elements.BooleanElementForm.make.Goals as goal

pub returns-in_ok-append_head-in-Some-clause-made : goal.returns-in_ok-append_head-in-Some-clause-made
returns-in_ok-append_head-in-Some-clause-made c some =
    let a = c.in_ok-append_head-in-Some.ensures.ok in
    record { value = c.in-Some.value; is_given = c.in-Some.ensures.some.0; appended = record { more = a.more; is_least = least_boolean_of c.in-Some.value a.more a.is_least; new_is = a.new_is } }
