use Rattle.std.proofs.Common.{arith}
use Rattle.bac_lines.proofs.Digits.{object_sound}
use Rattle.bac_lines.proofs.scanning.numbers.find_object.Goals as goal

pub returns-clause-sound : goal.returns-clause-sound
returns-clause-sound c =
    let kind = c.in_ok-kind.ensures.sound in
    let instance = c.in_ok-instance.ensures.sound in
    (omega (arith, c.if-kind-gt-KINDS.false, c.if-instance-gt-INSTANCES.false), object_sound c.args.line.now c.in_ok-rest.rest.now _ _ _ _ kind.1 c.in_ok-rest.ensures.some instance.1 c.if-kind-gt-KINDS.false c.if-instance-gt-INSTANCES.false)
