use Rattle.std.proofs.lemmas.Result.{IfOk-weaker}
use Rattle.bac_fields.proofs.WholeFrames.{frames_end, made_of}
use Rattle.bac_fields.proofs.from_fields.append_octets.Goals as goal

pub append_all-requires-clause-ends : goal.append_all-requires-clause-ends
append_all-requires-clause-ends c = frames_end

pub returns-clause-made : goal.returns-clause-made
returns-clause-made c = IfOk-weaker c.append_all.result _ _ (λ u made. made_of made) c.append_all.ensures.made
