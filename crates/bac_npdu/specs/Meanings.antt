-- What two lists mean, and canonical octets of what was read.
use Rattle.std.specs.Prelude.{◌≡◌, ◌⊎◌, ℕ, false, Some, List}
use Rattle.bac_tag.specs.Spelling.{IsLeast, IsSpelling, HasMark}
use Rattle.bac_npdu_parts.specs.Frames.{FrameValue, SpellsFrame}
use Rattle.bac_npdu_parts.specs.Decoded.{begins_small}

-- One frame is spelled by both lists.
abbrev pub MeanTheSame : List ℕ → List ℕ → Type 0
MeanTheSame b c = (f : FrameValue) × SpellsFrame f b × SpellsFrame f c

-- The octets c are the canonical octets of the frame that b spells.
abbrev pub IsNormalOf : List ℕ → List ℕ → Type 0
IsNormalOf b c = (f : FrameValue) × SpellsFrame f b × IsLeast (SpellsFrame f) c

-- Memory may be refused to what b gives. It does not begin as a small frame, or it spells a frame, so that
-- canonical octets are written.
abbrev pub IsShortOfMemory : List ℕ → Type 0
IsShortOfMemory b = (begins_small b ≡ false) ⊎ IsSpelling SpellsFrame b

-- The octets b spell a frame, and the place is the first at which they differ from the canonical octets of that frame.
abbrev pub IsFirstFlaw : List ℕ → ℕ → Type 0
IsFirstFlaw b place = (f : FrameValue) × SpellsFrame f b × HasMark (SpellsFrame f) b (Some place)
