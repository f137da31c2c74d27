-- What went out is the front of the octets.
use Rattle.std.proofs.Common.{length, ◌-◌, ◌≡◌, ◌≤◌, take}
use Rattle.std.specs.Io.KnownBytes.{Appends}
use Rattle.bac_record.proofs.transfers.write_whole.Given as goal

abbrev pub invariant-loop-at : goal.invariant-loop-at
invariant-loop-at g l = record {
  within : l.at ≤ length l.octets;
  sent : Appends (g.W.Output.taken l.initial.writer) (g.W.Output.taken l.writer) (take l.at l.octets);
  counted : g.W.Output.failures l.writer ≡ g.W.Output.failures l.initial.writer;
}

abbrev pub decreases-loop-at : goal.decreases-loop-at
decreases-loop-at g l = length l.octets - l.at
