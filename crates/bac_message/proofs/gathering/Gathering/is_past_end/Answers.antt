use Rattle.std.proofs.Common.{◌≡◌, ◌&&◌, Bool, eqb, sym, ap}
use Rattle.bac_message.proofs.GatheringLemmas.{past_below, last_number}
use Rattle.bac_message.proofs.gathering.Gathering.is_past_end.Goals as goal

pub returns-then-holds_last : goal.returns-then-holds_last
returns-then-holds_last c = past_below c.args.self.now.places c.from.result c.args.segment.now.seq c.holds_last.result _ c.from.ensures c.if-holds_last.true c.holds_last.ensures

pub returns-then-segment : goal.returns-then-segment
returns-then-segment c =
    let seq = c.args.segment.now.seq in
    last_number c.args.self.now.places c.from.result seq c.holds_last.result c.args.segment.now.more (eqb seq 255) (eqb seq 255) c.from.ensures c.if-holds_last.false c.holds_last.ensures
    (ap (λ (b : Bool). b && eqb seq 255) (sym c.if-segment.true))

pub returns-else-segment : goal.returns-else-segment
returns-else-segment c =
    let seq = c.args.segment.now.seq in
    let same : c.args.segment.now.more ≡ (c.args.segment.now.more && eqb seq 255) = (rw c.if-segment.false cc) in
    last_number c.args.self.now.places c.from.result seq c.holds_last.result c.args.segment.now.more (eqb seq 255) c.args.segment.now.more c.from.ensures c.if-holds_last.false c.holds_last.ensures same
