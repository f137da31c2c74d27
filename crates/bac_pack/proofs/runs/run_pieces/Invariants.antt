-- Each line that was packed is written, and less than a line is held.
use Rattle.std.proofs.Common.{◌≡◌, ◌+◌, ◌-◌, ◌*◌, length, []}
use Rattle.bac_pack.specs.Lines.{MOST_LINES}
use Rattle.bac_pack.specs.Runs.{Waits}
use Rattle.bac_pack.proofs.RunSoFar.{RunSoFar}
use Rattle.bac_pack.proofs.runs.run_pieces.Given as goal

abbrev pub invariant-pieces : goal.invariant-pieces
invariant-pieces g l = record {
  done : RunSoFar g.L.LineForm.packs g.L.LineForm.LONGEST (g.R.Input.left l.initial.reader) (g.R.Input.left l.reader) (g.W.Output.taken l.initial.writer) (g.W.Output.taken l.writer)
      l.window l.packer.lines l.packer.sent;
  output : l.packer.output.items ≡ [];
  waits : Waits g.L.LineForm.LONGEST l.packer.lines l.window;
  reads : g.R.Input.failures l.reader ≡ g.R.Input.failures l.initial.reader;
  writes : g.W.Output.failures l.writer ≡ g.W.Output.failures l.initial.writer;
}

abbrev pub decreases-pieces : goal.decreases-pieces
decreases-pieces g l = (MOST_LINES - l.packer.lines) * (g.row.PIECE + 1) + (g.row.PIECE - length l.window)
