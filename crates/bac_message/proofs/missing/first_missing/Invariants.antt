use Rattle.std.proofs.Common.{map, take}
use Rattle.bac_npdu_parts.specs.Frames.{value_of}
use Rattle.bac_message.proofs.MissingLemmas.{AreMarks}
use Rattle.bac_message.proofs.missing.first_missing.Given as goal

-- the numbers so far are marked
abbrev pub invariant-loop-frame : goal.invariant-loop-frame
invariant-loop-frame l = AreMarks l.there (map value_of (take l.frame-index l.frames))
