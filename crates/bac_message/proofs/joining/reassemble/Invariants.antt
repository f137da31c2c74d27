use Rattle.std.proofs.Common.{◌≡◌, map, take}
use Rattle.bac_npdu_parts.specs.Frames.{value_of}
use Rattle.bac_segment.specs.Deliveries.{delivery, key_of}
use Rattle.bac_message.specs.Messages.{heads_of}
use Rattle.bac_message.proofs.FitLemmas.{IsSoFar}
use Rattle.bac_message.proofs.joining.reassemble.Given as goal

abbrev pub invariant-loop-index : goal.invariant-loop-index
invariant-loop-index l = record {
  far : IsSoFar (heads_of (value_of l.first)) (map value_of (take l.index l.frames)) l.reassembly.table;
  key : l.reassembly.key ≡ key_of 0 (delivery l.first_segment);
}
