use Rattle.std.proofs.Common.{rules}
use Rattle.bac_c.proofs.FrameLemmas.{made_where_visited}
use Rattle.bac_c.proofs.OutcomeLemmas.{hopeless_result}
use Rattle.bac_c.proofs.in_place.visit_in_place.Goals as goal

pub returns-clause-refused : goal.returns-clause-refused
returns-clause-refused c =
    let e = c.visit_frame.ensures in
    hopeless_result c.args.octets.now c.visit_frame.result e.refused e.versions e.addresses e.types e.windows e.reasons

pub returns-clause-made : goal.returns-clause-made
returns-clause-made c =
    made_where_visited _ _ _ c.args.octets.now c.args.room c.args.fields.now _ c.visit_frame.result c.visit_frame.ensures.made (λ value mark made says. search (rules, says.0, says.1))
