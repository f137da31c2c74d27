-- Frames of one cut.
use Rattle.std.specs.Prelude.{◌≡◌, ◌⊎◌, List, [], ◌∷◌}
use Rattle.std.specs.List.{AllByRecursion}
use Rattle.bac_npdu_parts.specs.Frames.{FrameValue}
use Rattle.bac_message.specs.declared.faults.FrameJoinFault.{FrameJoinFault}
use Rattle.bac_message.specs.declared.faults.FrameJoinFault.TheVariants.{Incomplete, OutOfMemory}
use Rattle.bac_message.specs.Messages.{segments_in}
use Rattle.bac_message.specs.JoinedFrames.{IsFirstMissing}

-- The frame is one of the list.
abbrev pub IsOneFrame : List FrameValue → FrameValue → Type 0
IsOneFrame [] f = ⊥
IsOneFrame (x ∷ xs) f = (f ≡ x) ⊎ IsOneFrame xs f

-- Each frame of the second list is one of the first.
abbrev pub AreFramesOf : List FrameValue → List FrameValue → Type 0
AreFramesOf these l = AllByRecursion (λ f. IsOneFrame these f) l

-- Why some frames of a cut are not joined. Incomplete: not all are there, and the first segment that is missing has
-- this number. OutOfMemory: memory was refused. There is no other reason.
abbrev pub IsLack : List FrameValue → List FrameValue → FrameJoinFault → Type 0
IsLack cuts l (Incomplete n) = (AreFramesOf l cuts → ⊥) × IsFirstMissing (segments_in l) n
IsLack cuts l OutOfMemory = Unit {0}
IsLack cuts l _ = ⊥
