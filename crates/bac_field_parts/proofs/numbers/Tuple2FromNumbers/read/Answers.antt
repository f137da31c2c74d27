use Rattle.std.proofs.lemmas.Bool.{and_parts}
use Rattle.std.proofs.lemmas.Result.{err_from_is_err_and}
use Rattle.bac_field_parts.specs.Laws.Making.{stop_then}
use Rattle.bac_field_parts.specs.Laws.Numbers.{numbers_stop_first, numbers_stop_second, read_behind}
use Rattle.bac_field_parts.proofs.numbers.Tuple2FromNumbers.read.Goals as goal

pub returns-in_err-first-clause-stopped : goal.returns-in_err-first-clause-stopped
returns-in_err-first-clause-stopped g c octets =
    let sound = and_parts _ _ c.requires in
    let first = g.met.A.FromNumbers.lawful c.args.self.now.0 sound.0 in
    let second = g.met.B.FromNumbers.lawful c.args.self.now.1 sound.1 in
    let p = err_from_is_err_and c.from_residual.result c.from_residual.ensures.1 in
    rw (p.1, p.2) (stop_then c.in_err-first.field-0.0 _ _ (λ q h. numbers_stop_first _ _ _ _ _ _ first second _ q h) (c.in_err-first.ensures.stopped octets))

pub returns-in-Ok-clause-read : goal.returns-in-Ok-clause-read
returns-in-Ok-clause-read g c octets = read_behind _ _ _ _ octets c.args.fields.now _ _ _ _ c.in_ok-first.ensures.within (c.in_ok-first.ensures.read octets) (c.in-Ok.ensures.read octets)

pub returns-in-Err-clause-stopped : goal.returns-in-Err-clause-stopped
returns-in-Err-clause-stopped g c octets =
    let sound = and_parts _ _ c.requires in
    let first = g.met.A.FromNumbers.lawful c.args.self.now.0 sound.0 in
    let second = g.met.B.FromNumbers.lawful c.args.self.now.1 sound.1 in
    rw c.behind.ensures (numbers_stop_second _ _ _ _ _ _ first second octets c.args.fields.now _ _ c.in-Err.fault c.in_ok-first.ensures.within (c.in_ok-first.ensures.read octets) (c.in-Err.ensures.stopped octets))

pub read-requires : goal.read-requires
read-requires g c = (and_parts _ _ c.requires).0

pub read-requires-2 : goal.read-requires-2
read-requires-2 g c = (and_parts _ _ c.requires).1
