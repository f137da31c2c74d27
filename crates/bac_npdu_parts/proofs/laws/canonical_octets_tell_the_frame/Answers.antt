use Rattle.bac_tag.specs.Laws.Spelling.{IsLeast-tells}
use Rattle.bac_npdu_parts.specs.Frames.{SpellsFrame}
use Rattle.bac_npdu_parts.proofs.laws.canonical_octets_tell_the_frame.Goals as goal

pub returns : goal.returns
returns c = IsLeast-tells SpellsFrame c.frames_have_one_value.ensures
