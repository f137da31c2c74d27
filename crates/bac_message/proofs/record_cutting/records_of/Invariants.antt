use Rattle.std.proofs.Common.{length}
use Rattle.bac_message.proofs.RecordLemmas.{AreWritten}
use Rattle.bac_message.proofs.record_cutting.records_of.Given as goal

abbrev pub invariant-loop-frame : goal.invariant-loop-frame
invariant-loop-frame l = AreWritten l.frames l.left l.records.items

abbrev pub decreases-loop-frame : goal.decreases-loop-frame
decreases-loop-frame l = length l.left
