-- What is said of octets as a frame.
use Rattle.std.specs.Prelude.{◌≡◌, ◌≢◌, List, ℕ}
use Rattle.bac_tag.specs.declared.refusals.Why.TheVariants.{OutOfMemory}
use Rattle.bac_tag.specs.Spelling.{HasMark, IsWholeRefusal}
use Rattle.bac_npdu_parts.specs.Frames.{FrameValue, SpellsFrame}
use Rattle.bac_npdu_parts.specs.Decoded.{IsReasoned}
use Rattle.bac_explain.specs.declared.verdict.Verdict.{Verdict}
use Rattle.bac_explain.specs.declared.verdict.Verdict.TheVariants.{Accepted, Refused}
use Rattle.bac_explain.specs.Typed.{is_typed}

-- The octets spell a frame and have this mark, and the flag says whether its service has a production. Or they spell none, and
-- the refusal says where and why.
abbrev pub IsVerdict : List ℕ → Verdict → Type 0
IsVerdict octets (Accepted mark typed) = (f : FrameValue) × SpellsFrame f octets × HasMark (SpellsFrame f) octets mark × (typed ≡ is_typed f.body)
IsVerdict octets (Refused refusal) = IsWholeRefusal SpellsFrame octets refusal × IsReasoned octets refusal × (refusal.why ≢ OutOfMemory)
