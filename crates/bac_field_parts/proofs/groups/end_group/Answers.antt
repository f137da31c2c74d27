use Rattle.std.proofs.lemmas.Result.{err_from_is_err_and}
use Rattle.bac_field_parts.specs.Laws.Groups.{end_stopped_at, end_taken}
use Rattle.bac_field_parts.specs.Laws.Making.{stop_then}
use Rattle.bac_field_parts.proofs.groups.end_group.Goals as goal

pub returns-in_err-make-clause-stopped : goal.returns-in_err-make-clause-stopped
returns-in_err-make-clause-stopped c =
    let p = err_from_is_err_and c.from_residual.result c.from_residual.ensures.1 in
    rw (p.1, p.2) (stop_then c.in_err-make.field-0.0 _ _ (λ q h. end_stopped_at c.args.octets.now c.args.fields.now c.in-Some.number c.args.groups.now.items c.pop.new.self.items q c.requires.numbers c.in-Some.ensures.items c.requires.lead h) c.in_err-make.ensures.stopped)

pub returns-clause-made : goal.returns-clause-made
returns-clause-made c = end_taken c.args.octets.now c.args.fields.now _ c.in-Some.number c.args.groups.now.items c.pop.new.self.items _ _ c.in-Some.ensures.items c.in_ok-make.ensures.made
