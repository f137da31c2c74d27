use Rattle.bac_message.proofs.GatheringLemmas.{early_is}
use Rattle.bac_message.proofs.gathering.Gathering.ends_too_early.Goals as goal

pub returns-then-not-segment : goal.returns-then-not-segment
returns-then-not-segment c = early_is c.args.self.now.places c.from.result c.args.segment.now.seq c.args.segment.now.more c.holds_any.result c.requires.places c.from.ensures c.if-not-segment.true c.holds_any.ensures
