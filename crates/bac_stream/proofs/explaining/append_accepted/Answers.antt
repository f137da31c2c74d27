use Rattle.std.proofs.Common.{◌++◌, ◌∙◌, ap}
use Rattle.bac_npdu_parts.specs.Frames.{value_of}
use Rattle.bac_explain.specs.Explanations.{IsFrameExplanation}
use Rattle.bac_stream.specs.Lines.{Said, numbered, said_of, said_text}
use Rattle.bac_stream.proofs.ExplainingLemmas.{after_line}
use Rattle.bac_stream.proofs.explaining.append_accepted.Goals as goal

pub returns-clause-ok : goal.returns-clause-ok
returns-clause-ok c =
    let old = c.args.out.now.items in
    after_line c.append_marked_explanation-appended.result c.or_cut_back.result (IsFrameExplanation c.args.octets.now (value_of c.args.frame.now) c.args.mark) old (numbered c.args.number (said_text (said_of c.args.mark))) c.push.new.out.items c.append_marked_explanation-appended.new.out.items c.or_cut_back.new.out.items c.or_cut_back.ensures.given
    (c.in_ok-push.ensures.ok ∙ ap (λ (s : Said). old ++ numbered c.args.number (said_text s)) c.of_mark.ensures.said) c.append_marked_explanation-appended.ensures.ok c.or_cut_back.ensures.ok
