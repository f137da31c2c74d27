use Rattle.std.proofs.Common.{◌<◌, arith}
use Rattle.bac_record.specs.Records.{MOST}
use Rattle.bac_stream.proofs.IntakeLemmas.{behind_record}
use Rattle.bac_stream.proofs.items.next_item.Goals as goal

pub returns-clause-ok : goal.returns-clause-ok
returns-clause-ok c =
    let room : c.args.before < MOST = omega (arith, c.requires, c.if-before-eq-MOST.false) in
    let front = c.in-Some.ensures in
    let pushed = c.in_ok-push_item.ensures.ok in
    (c.in-Some.first.now, pushed.0, room, front.1, behind_record c.args.octets.now c.in-Some.first.now front, pushed.1, pushed.2)
