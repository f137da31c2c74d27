use Rattle.std.proofs.Common.{sym}
use Rattle.std.proofs.lemmas.Bool.{eqb-true}
use Rattle.bac_field_parts.specs.Laws.OctetForms.{counted_inhabited}
use Rattle.bac_field_parts.proofs.leaves.CountedOctetsHolding.has.Goals as goal

pub returns-clause-some : goal.returns-clause-some
returns-clause-some c zero =
    let i = counted_inhabited in
    record { value = i.value; octets = i.octets; spelled = i.spelled; is_given = sym (eqb-true c.args.given 0 zero) }
