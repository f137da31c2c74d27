use Rattle.std.proofs.lemmas.Result.{err_from_is_err_and}
use Rattle.bac_tag.proofs.ReadingLemmas.{HasLength, has_length, refused_front, refused_length, found_context, found_application}
use Rattle.bac_tag.proofs.reading.read_expected.Goals as goal
use Rattle.bac_tag.proofs.reading.read_expected.Goals.{After-read_length}

-- behind the three tests there is a length
length_left : (c : After-read_length) → HasLength c.args.expected c.in_ok-context.field-0-0
length_left c = has_length _ _ c.in_ok-context.ensures.found.spelled.used c.else-context.either c.else-context-2.either c.else-not-context.either

pub returns-in_err-context-clause-refused : goal.returns-in_err-context-clause-refused
returns-in_err-context-clause-refused c =
    let p = err_from_is_err_and c.from_residual.result c.from_residual.ensures.1 in
    rw (p.1, p.2) (refused_front _ _ _ c.requires c.in_err-context.ensures.refused)

pub returns-in-Ok-clause-found : goal.returns-in-Ok-clause-found
returns-in-Ok-clause-found c =
    found_context _ _ _ _ _ _ _ c.args.octets.now c.if-context-3.true c.requires (length_left (goal.at.returns-in-Ok-clause-found c).After-read_length) c.in_ok-context.ensures.found
    c.lengths-least.ensures.least c.lengths-least.ensures.most c.in-Ok.ensures.found

pub returns-in-Ok-2-clause-found : goal.returns-in-Ok-2-clause-found
returns-in-Ok-2-clause-found c =
    found_application _ _ _ _ _ _ _ c.args.octets.now c.if-context-3.false c.requires (length_left (goal.at.returns-in-Ok-2-clause-found c).After-read_length) c.in_ok-context.ensures.found
    c.lengths-least.ensures.least c.lengths-least.ensures.most c.in-Ok.ensures.found

pub returns-in-Err-clause-refused : goal.returns-in-Err-clause-refused
returns-in-Err-clause-refused c =
    rw c.behind.ensures (refused_length _ c.in_ok-context.field-0-0 c.in_ok-context.taken _ _ c.args.octets.now c.in-Err.refusal c.requires (length_left (goal.at.returns-in-Err-clause-refused c).After-read_length)
    c.in_ok-context.ensures.found c.lengths-least.ensures.least c.lengths-least.ensures.most c.in-Err.ensures.refused)
