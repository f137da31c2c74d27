-- What is filled is what was read.
use Rattle.std.proofs.Common.{length, ◌-◌, ◌≡◌, ◌≤◌, take}
use Rattle.std.specs.Io.KnownBytes.{Consumes}
use Rattle.bac_record.proofs.transfers.read_full.Given as goal

abbrev pub invariant-loop-at : goal.invariant-loop-at
invariant-loop-at g l = record {
  same_length : length l.buffer ≡ length l.initial.buffer;
  within : l.at ≤ length l.buffer;
  filled : Consumes (g.R.Input.left l.initial.reader) (g.R.Input.left l.reader) (take l.at l.buffer);
  counted : g.R.Input.failures l.reader ≡ g.R.Input.failures l.initial.reader;
}

abbrev pub decreases-loop-at : goal.decreases-loop-at
decreases-loop-at g l = length l.initial.buffer - l.at
