use Rattle.std.proofs.lemmas.Result.{err_from_is_err_and}
use Rattle.bac_field_parts.specs.Laws.Kinds.{kind_made, kind_stopped_in}
use Rattle.bac_field_parts.specs.Laws.Making.{stop_then}
use Rattle.bac_field_parts.proofs.elements.make_kind.Goals as goal

pub returns-in_err-make-clause-stopped : goal.returns-in_err-make-clause-stopped
returns-in_err-make-clause-stopped g c =
    let p = err_from_is_err_and c.from_residual.result c.from_residual.ensures.1 in
    rw (p.1, p.2) (stop_then c.in_err-make.field-0.0 _ _ (λ q h. kind_stopped_in _ _ _ _ (g.met.K.Kind.is_kind c.args.kind.now) c.args.octets.now c.args.fields.now q c.requires.lead h) c.in_err-make.ensures.stopped)

pub returns-clause-made : goal.returns-clause-made
returns-clause-made g c = kind_made _ _ _ _ (g.met.K.Kind.is_kind c.args.kind.now) _ _ _ _ c.in_ok-make.ensures.made
