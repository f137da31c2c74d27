use Rattle.std.proofs.lemmas.Result.{err_from_is_err_and}
use Rattle.bac_field_parts.specs.Laws.Making.{stop_then}
use Rattle.bac_field_parts.specs.Laws.Numbers.{heading_made, heading_stopped}
use Rattle.bac_fields.proofs.headings.HeadingFromFields.make.Goals as goal

pub returns-in_err-said-clause-stopped : goal.returns-in_err-said-clause-stopped
returns-in_err-said-clause-stopped g c =
    let p = err_from_is_err_and c.from_residual.result c.from_residual.ensures.1 in
    rw (p.1, p.2) (stop_then c.in_err-said.field-0.0 _ _ (λ q h. heading_stopped _ _ _ g.met.H.Head.fit _ q h) (rw c.numbers.ensures at (c.in_err-said.ensures.stopped c.args._octets.now)))

pub returns-in-Ok-clause-made : goal.returns-in-Ok-clause-made
returns-in-Ok-clause-made g c = heading_made _ _ _ g.met.H.Head.fit _ _ _ _ _ (rw c.numbers.ensures at (c.in_ok-said.ensures.read c.args._octets.now)) c.in-Ok.ensures.appended
