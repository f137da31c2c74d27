-- Each record that was dealt with is written, less than a record is held, and the batch of a job that needs only room has it.
use Rattle.std.proofs.Common.{◌≡◌, ◌≤◌, ◌<◌, ◌+◌, ◌-◌, ◌*◌, ◌^◌, length}
use Rattle.bac_record.specs.Batches.{HasRoom}
use Rattle.bac_record.specs.Records.{HELD, LONGEST, MOST}
use Rattle.bac_record.specs.Runs.{Waits}
use Rattle.bac_record.specs.declared.runs.TheConstants.{PIECE}
use Rattle.bac_record.proofs.RunSoFar.{RunSoFar}
use Rattle.bac_record.proofs.runs.run_pieces.Given as goal

abbrev pub invariant-pieces : goal.invariant-pieces
invariant-pieces g l = record {
  done : RunSoFar (g.J.Job.line l.job) (g.J.Job.is_canonical l.job) (g.J.Job.is_refused l.job) (g.R.Input.left l.initial.reader) (g.R.Input.left l.reader)
      (g.W.Output.taken l.initial.writer) (g.W.Output.taken l.writer) l.window l.summary l.sent;
  waits : Waits l.summary.records l.window;
  short : length l.window < LONGEST + 2;
  given : g.R.Input.given l.reader ≤ g.R.Input.given l.initial.reader + (l.summary.records * HELD + length l.window);
  reads : g.R.Input.failures l.reader ≡ g.R.Input.failures l.initial.reader;
  writes : g.W.Output.failures l.writer ≡ g.W.Output.failures l.initial.writer;
  room : l.sent ≤ l.summary.records * 2 ^ 64;
  spacious : 0 < g.J.Job.ROOM → HasRoom g.J.Job.ROOM l.batch;
}

abbrev pub decreases-pieces : goal.decreases-pieces
decreases-pieces g l = (MOST - l.summary.records) * (PIECE + 1) + (PIECE - length l.window)
