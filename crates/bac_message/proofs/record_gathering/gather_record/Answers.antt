use Rattle.bac_npdu_parts.specs.Frames.{value_of}
use Rattle.bac_message.proofs.record_gathering.gather_record.Goals as goal

pub returns-in-Ok-clause-read : goal.returns-in-Ok-clause-read
returns-in-Ok-clause-read c = (value_of c.in_ok-frame.frame, c.in_ok-frame.ensures.spelled, c.in-Ok.ensures.ok)
