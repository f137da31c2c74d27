use Rattle.std.proofs.lemmas.Result.{on_ok_weaker}
use Rattle.bac_npdu_parts.specs.FrameHeads.{frame_with}
use Rattle.bac_npdu_parts.specs.Frames.{body_value}
use Rattle.bac_stream.specs.Lines.{shown}
use Rattle.bac_stream.proofs.showing.ShowReporting.append_line.Goals as goal

pub returns-clause-ok : goal.returns-clause-ok
returns-clause-ok c = on_ok_weaker c.push-appended.result (λ e. record {
  said = shown (frame_with c.args.head.now (body_value c.args.body));
  is_said = λ mode octets a m. a;
  appended = e;
}) c.push-appended.ensures.ok
