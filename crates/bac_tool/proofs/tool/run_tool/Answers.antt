use Rattle.std.proofs.Common.{inr, refl}
use Rattle.bac_tool.proofs.tool.run_tool.Goals as goal

pub returns-in-Err : goal.returns-in-Err
returns-in-Err g c =
    inr (record {
      kind = _;
      is_fault = c.in-Err.ensures.kinds;
      memory = c.in-Err.ensures.taken;
      unread = refl;
      answered = c.answer_words.ensures;
    })
