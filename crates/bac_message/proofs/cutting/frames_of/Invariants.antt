use Rattle.std.proofs.Common.{◌≡◌, map}
use Rattle.bac_npdu_parts.specs.Frames.{value_of}
use Rattle.bac_segment.specs.Deliveries.{delivery}
use Rattle.bac_message.specs.Messages.{head_of, segment_frame}
use Rattle.bac_message.proofs.cutting.frames_of.Given as goal

-- the segments so far are in frames
abbrev pub invariant-loop-segment : goal.invariant-loop-segment
invariant-loop-segment l = map value_of l.frames.items ≡ map (segment_frame (head_of (value_of l.frame))) (map delivery l.yielded)
