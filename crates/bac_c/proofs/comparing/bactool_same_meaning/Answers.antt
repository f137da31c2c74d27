use Rattle.bac_c.proofs.OutcomeLemmas.{short_sides, without}
use Rattle.bac_c.proofs.comparing.bactool_same_meaning.Goals as goal

pub returns-in-Err-clause-right : goal.returns-in-Err-clause-right
returns-in-Err-clause-right c = λ told.
    let e = c.in-Err.ensures in
    let side = c.side_code.ensures.right told in
    let refused = e.right side.0 side.1 in
    (refused.0, (c.in-Err.refusal, record { refused = refused.1; reasoned = e.right_reasons side.0; memory = side.1 }, c.refused.ensures))

pub returns-in-Err-clause-memory : goal.returns-in-Err-clause-memory
returns-in-Err-clause-memory c = λ told.
    let e = c.in-Err.ensures in
    let why = c.side_code.ensures.memory told in
    let short = short_sides c.in-Err.side c.args.left.now c.args.right.now c.in-Err.refusal why e.left_memory e.right_memory in
    (short.1, without _ c.in-Err.refusal c.refused.ensures why short.0)
