-- The batch holds what was made of the octets taken, and has room if it had.
use Rattle.std.proofs.Common.{◌*◌, ◌-◌, ◌≤◌, length}
use Rattle.bac_record.specs.Batches.{Deals, HasRoom}
use Rattle.bac_record.specs.Records.{HELD}
use Rattle.bac_record.proofs.batches.Batch.deal.Given as goal

abbrev pub invariant-loop-count : goal.invariant-loop-count
invariant-loop-count g l = record {
  deals : Deals (g.J.Job.line l.job) (g.J.Job.is_canonical l.job) (g.J.Job.is_refused l.job) l.before l.octets l.taken l.self;
  canonical : l.self.summary.canonical ≤ l.self.summary.records;
  refused : l.self.summary.refused ≤ l.self.summary.records;
  ends : 2 * length l.self.ends.items ≤ l.taken;
  room : HasRoom g.J.Job.ROOM l.initial.self → length l.octets ≤ HELD → HasRoom g.J.Job.ROOM l.self;
}

abbrev pub decreases-loop-count : goal.decreases-loop-count
decreases-loop-count g l = length l.octets - l.taken
