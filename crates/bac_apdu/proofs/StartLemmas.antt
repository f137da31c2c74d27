-- What is before the piece of a segment, which has no other spelling.
use Rattle.std.specs.Prelude.{◌≡◌, ◌≢◌, ℕ, ◌*◌, ◌+◌, ◌<◌, ◌≤◌, Bool, Option, List, [], ◌∷◌, length, take, drop, slice_index, refl}
use Rattle.bac_tag.specs.declared.refusals.Why.{Why}
use Rattle.bac_tag.specs.declared.refusals.Why.TheVariants.{Short, PduType, Window, OutOfMemory}
use Rattle.bac_tag.specs.Spelling.{HasMark}
use Rattle.bac_apdu.specs.declared.segment.SegmentStart.{SegmentStart}
use Rattle.bac_apdu.specs.Apdus.{segment, SpellsApdu}
use Rattle.bac_apdu.specs.Decoded.{IsApduChecked, IsRefused, IsSegmentStart}
use Rattle.std.proofs.Common.{subst, sym}

pub short_memory : Short ≢ OutOfMemory
short_memory e = cc

pub window_memory : Window ≢ OutOfMemory
window_memory e = cc

pub type_memory : PduType ≢ OutOfMemory
type_memory e = cc

-- a segment with the piece after its start
pub started : (b : List ℕ) (size : ℕ) (start : SegmentStart) (piece : List ℕ) → IsSegmentStart b size start → piece ≡ drop size b → SpellsApdu (segment start.head start.seq start.window start.more start.choice piece) b × HasMark (SpellsApdu (segment start.head start.seq start.window start.more start.choice piece)) b start.mark
started b size start piece s e =
    subst (λ (p : List ℕ). SpellsApdu (segment start.head start.seq start.window start.more start.choice p) b × HasMark (SpellsApdu (segment start.head start.seq start.window start.more start.choice p)) b start.mark) (sym e) (s.spelled, s.marked)
