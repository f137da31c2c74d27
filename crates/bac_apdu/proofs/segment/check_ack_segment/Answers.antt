use Rattle.std.specs.Prelude.{drop}
use Rattle.bac_apdu.specs.Apdus.{segment}
use Rattle.bac_apdu.proofs.segment.check_ack_segment.Goals as goal

pub returns-in-Ok : goal.returns-in-Ok
returns-in-Ok c =
    let start = c.in-Ok.start in
    let s = c.in-Ok.ensures in
    record { value = segment start.head start.seq start.window start.more start.choice (drop 5 c.args.octets.now); spelled = s.spelled; marked = s.marked }
