use Rattle.std.proofs.Common.{refl}
use Rattle.bac_lines.proofs.Hexes.{hex_read, no_room_for_bits, all_hex_read, half_read}
use Rattle.bac_lines.proofs.scanning.octets.find_bits.Goals as goal

pub returns-in_err-second-clause-found : goal.returns-in_err-second-clause-found
returns-in_err-second-clause-found c octets more few are ends is =
    let first = c.in-Some.ensures.some in
    absurd (half_read c.args.line.now _ _ c.loop-first.invariant.read _ first.0 first.1.0 first.1.1 c.in_err-second.ensures.none octets more are ends is)

pub returns-in_err-number-clause-found : goal.returns-in_err-number-clause-found
returns-in_err-number-clause-found c =
    let first = c.in-Some.ensures.some in
    let second = c.in_ok-second.ensures.some in
    let read = hex_read c.args.line.now _ _ _ _ _ c.loop-first.invariant first.1.0 second.1.0 second.0 first.1.1 second.1.1 refl in
    rw c.from_residual-in_err-number.ensures (no_room_for_bits c.args.line.now _ _ read (rw c.from.ensures at c.in_err-number.ensures.none))

pub loop-first-preserved : goal.loop-first-preserved
loop-first-preserved c =
    let first = c.in-Some.ensures.some in
    let second = c.in_ok-second.ensures.some in
    hex_read c.args.line.now _ _ _ _ _ c.loop-first.invariant first.1.0 second.1.0 second.0 first.1.1 second.1.1 (rw c.from.ensures at c.in_ok-number.ensures.some.0)

pub returns-clause-found : goal.returns-clause-found
returns-clause-found c = all_hex_read c.args.line.now _ _ c.loop-first.invariant c.in_default.ensures.none

pub returns-clause-sound : goal.returns-clause-sound
returns-clause-sound c =
    let read = c.loop-first.invariant in
    (read.octets, (read.read.are_octets, (read.is_number, read.read.digits)))
