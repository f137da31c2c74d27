use Rattle.std.proofs.Common.{length}
use Rattle.bac_npdu_parts.specs.Frames.{value_of}
use Rattle.bac_message.specs.Gathered.{IsGathered, table_in}
use Rattle.bac_message.specs.Messages.{heads_of}
use Rattle.bac_message.proofs.GatherLemmas.{IsGatheredTo}
use Rattle.bac_message.proofs.record_gathering.gather.Given as goal

-- the segments so far
abbrev pub invariant-loop-rest : goal.invariant-loop-rest
invariant-loop-rest l = record {
  gathered : IsGathered l.gathering;
  far : IsGatheredTo l.records (heads_of (value_of l.first)) l.count l.rest (table_in l.gathering);
}

abbrev pub decreases-loop-rest : goal.decreases-loop-rest
decreases-loop-rest l = length l.rest
