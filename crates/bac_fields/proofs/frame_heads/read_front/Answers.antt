use Rattle.std.proofs.lemmas.Result.{err_from_is_err_and}
use Rattle.bac_fields.specs.Laws.Frames.{control_stopped}
use Rattle.bac_field_parts.specs.Laws.Making.{stop_then}
use Rattle.bac_fields.proofs.FrameMaking.{destination_stopped, source_stopped, head_of}
use Rattle.bac_fields.proofs.frame_heads.read_front.Goals as goal

pub returns-in_err-priority-clause-stopped : goal.returns-in_err-priority-clause-stopped
returns-in_err-priority-clause-stopped c =
    let p = err_from_is_err_and c.from_residual.result c.from_residual.ensures.1 in
    rw (p.1, p.2) (stop_then c.in_err-priority.field-0.0 _ _ (λ q h. control_stopped c.args.octets.now c.args.fields.now q h) (rw (c.number_named-priority.ensures, c.number_named.ensures) at (c.in_err-priority.ensures.stopped c.args.octets.now)))

pub returns-in-Err-clause-stopped : goal.returns-in-Err-clause-stopped
returns-in-Err-clause-stopped c =
    rw c.behind.ensures (destination_stopped c.args.octets.now c.args.fields.now _ c.in_ok-priority.first c.in_ok-priority.ensures.within (rw (c.number_named-priority.ensures, c.number_named.ensures) at (c.in_ok-priority.ensures.read c.args.octets.now)) c.in-Err.fault c.in-Err.ensures.stopped)

pub returns-in-Ok-read_source-clause-read : goal.returns-in-Ok-read_source-clause-read
returns-in-Ok-read_source-clause-read c =
    head_of c.args.octets.now c.args.fields.now _ c.in_ok-priority.first c.in_ok-priority.ensures.within (rw (c.number_named-priority.ensures, c.number_named.ensures) at (c.in_ok-priority.ensures.read c.args.octets.now)) _ c.in-Ok.found.1 c.in-Ok.ensures.read _ c.in-Ok-read_source.third c.in-Ok-read_source.ensures.read

pub returns-in-Err-read_source-clause-stopped : goal.returns-in-Err-read_source-clause-stopped
returns-in-Err-read_source-clause-stopped c =
    rw c.behind-in-Err-read_source.ensures (source_stopped c.args.octets.now c.args.fields.now _ c.in_ok-priority.first c.in_ok-priority.ensures.within (rw (c.number_named-priority.ensures, c.number_named.ensures) at (c.in_ok-priority.ensures.read c.args.octets.now)) _ c.in-Ok.found.1 c.in-Ok.ensures.read c.in-Err-read_source.fault c.in-Err-read_source.ensures.stopped)
