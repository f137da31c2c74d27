use Rattle.std.proofs.Common.{◌+◌, ◌-◌, ◌*◌, ◌≤◌, length, drop, arith, length-take, length-drop}
use Rattle.bac_record.proofs.RecordFronts.{front_is}
use Rattle.bac_record.proofs.fronts.front_record.Goals as goal

pub returns : goal.returns
returns c =
    let octets = c.args.octets.now in
    let fits : (256 * c.from.result + c.from-2.result) + 2 ≤ length octets = omega (arith, length-take (length octets - 2) (drop 2 octets), length-drop 2 octets, c.if-length-rest.false, c.in-len2-up.len_at_least) in
    front_is octets _ c.in-len2-up.len_at_least (omega (arith, c.type_inv.octets 1)) (omega (arith, c.from.ensures, c.from-2.ensures)) fits
    (omega (arith, c.from.ensures, c.from-2.ensures, c.type_inv.octets 0, c.type_inv.octets 1))
