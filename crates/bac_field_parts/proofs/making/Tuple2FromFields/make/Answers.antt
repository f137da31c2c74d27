use Rattle.std.proofs.lemmas.Bool.{and_parts}
use Rattle.std.proofs.lemmas.Result.{err_from_is_err_and}
use Rattle.bac_field_parts.specs.Laws.Parts.{pair_stop_first}
use Rattle.bac_field_parts.specs.Laws.Making.{stop_then, made_behind, stopped_behind}
use Rattle.bac_field_parts.proofs.making.Tuple2FromFields.make.Goals as goal

pub returns-in_err-first-clause-stopped : goal.returns-in_err-first-clause-stopped
returns-in_err-first-clause-stopped g c =
    let sound = and_parts _ _ c.requires in
    let first = g.met.A.FromFields.lawful c.args.self.now.0 sound.0 in
    let second = g.met.B.FromFields.lawful c.args.self.now.1 (and_parts _ _ sound.1).0 in
    let p = err_from_is_err_and c.from_residual.result c.from_residual.ensures.1 in
    rw (p.1, p.2) (stop_then c.in_err-first.field-0.0 _ _ (λ q h. pair_stop_first _ _ _ _ _ _ first second _ q h) c.in_err-first.ensures.stopped)

pub returns-in-Ok-clause-made : goal.returns-in-Ok-clause-made
returns-in-Ok-clause-made g c =
    let sound = and_parts _ _ c.requires in
    let shut = (and_parts _ _ sound.1).1 in
    made_behind _ _ _ _ c.args.octets.now c.args.fields.now _ _ c.in_ok-first.first c.in-Ok.second _ _ _ shut c.in_ok-first.ensures.within c.in_ok-first.ensures.made c.in-Ok.ensures.made

pub returns-in-Err-clause-stopped : goal.returns-in-Err-clause-stopped
returns-in-Err-clause-stopped g c =
    let sound = and_parts _ _ c.requires in
    let rest = and_parts _ _ sound.1 in
    let first = g.met.A.FromFields.lawful c.args.self.now.0 sound.0 in
    let second = g.met.B.FromFields.lawful c.args.self.now.1 rest.0 in
    rw c.behind.ensures (stopped_behind _ _ _ _ c.args.octets.now c.args.fields.now _ _ first second _ c.in_ok-first.first _ _ c.in-Err.fault rest.1 c.in_ok-first.ensures.within c.in_ok-first.ensures.made c.in-Err.ensures.stopped)

pub make-requires : goal.make-requires
make-requires g c = (and_parts _ _ c.requires).0
