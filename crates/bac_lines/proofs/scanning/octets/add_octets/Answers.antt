use Rattle.bac_lines.proofs.Hexes.{octet_added, all_added, half_read}
use Rattle.bac_lines.proofs.scanning.octets.add_octets.Goals as goal

pub returns-in_default-value_at-clause-found : goal.returns-in_default-value_at-clause-found
returns-in_default-value_at-clause-found c octets more are ends is =
    let first = c.in-Some.ensures.some in
    absurd (half_read c.args.line.now _ _ c.loop-first.invariant.read _ first.0 first.1.0 first.1.1 c.in_default-value_at.ensures.none octets more are ends is)

pub loop-first-preserved : goal.loop-first-preserved
loop-first-preserved c =
    let first = c.in-Some.ensures.some in
    let second = c.in-Some-value_at.ensures.some in
    octet_added c.args.line.now _ _ _ _ _ _ c.loop-first.invariant first.1.0 second.1.0 second.0 first.1.1 second.1.1 c.in_ok-add_octet.ensures.added

pub returns-clause-found : goal.returns-clause-found
returns-clause-found c = all_added c.args.line.now _ _ _ c.loop-first.invariant c.in_default.ensures.none

pub returns-clause-sound : goal.returns-clause-sound
returns-clause-sound c =
    let added = c.loop-first.invariant in
    (added.octets, (added.read.are_octets, (added.added, added.read.digits)))
