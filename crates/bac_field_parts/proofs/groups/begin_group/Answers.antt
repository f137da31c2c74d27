use Rattle.std.proofs.Common.{◌<◌, ◌*◌, length, reverse, refl, arith}
use Rattle.std.proofs.lemmas.List.{length-reverse}
use Rattle.std.proofs.lemmas.Result.{err_from_is_err_and}
use Rattle.bac_field_parts.specs.Laws.Groups.{begin_stopped, begin_taken, begin_small}
use Rattle.bac_field_parts.specs.Laws.Making.{stop_then}
use Rattle.bac_field_parts.proofs.groups.begin_group.Goals as goal

pub returns-in_err-make-clause-stopped : goal.returns-in_err-make-clause-stopped
returns-in_err-make-clause-stopped c =
    let p = err_from_is_err_and c.from_residual.result c.from_residual.ensures.1 in
    let room : length (reverse c.args.groups.now.items) < 32 = omega (arith, c.requires.room, length-reverse c.args.groups.now.items) in
    rw (p.1, p.2) (stop_then c.in_err-make.field-0.0 _ _ (λ q h. begin_stopped c.args.octets.now c.args.fields.now _ q c.requires.numbers room c.requires.lead h) c.in_err-make.ensures.stopped)

pub overflow_cast-fields : goal.overflow_cast-fields
overflow_cast-fields c = let small = begin_small c.args.octets.now c.args.fields.now (3 * c.in_ok-make.field-0) c.args.out.now.items c.make.new.out.items c.requires.lead c.in_ok-make.ensures.made in omega (arith, small)

pub returns-clause-made : goal.returns-clause-made
returns-clause-made c = begin_taken c.args.octets.now c.args.fields.now _ c.args.groups.now.items c.push.new.self.items _ _ _ c.requires.room c.requires.lead refl c.push.ensures.items c.in_ok-make.ensures.made
