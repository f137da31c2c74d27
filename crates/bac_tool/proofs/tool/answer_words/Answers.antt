use Rattle.std.proofs.Common.{refl}
use Rattle.bac_tool.proofs.Answering.{memory_answers}
use Rattle.bac_tool.proofs.tool.answer_words.Goals as goal

pub returns-in_default : goal.returns-in_default
returns-in_default g c = memory_answers _ _ _ _ _ _ (record { unwritten = refl; told = c.tell_text.ensures; status_is = refl })
