use Rattle.std.proofs.Common.{ap}
use Rattle.bac_c.specs.declared.outcomes.Outcome.{Outcome}
use Rattle.bac_c.proofs.VerdictLemmas.{said_canonical, said_refused_in_lines, said_tolerated}
use Rattle.bac_c.proofs.explain_texts.bactool_explain_text.Goals as goal

pub returns-in-Ok-clause-canonical : goal.returns-in-Ok-clause-canonical
returns-in-Ok-clause-canonical c = said_canonical c.args.octets.now c.in-Ok.verdict c.hand_out_lines.result c.in-Ok.ensures.verdict c.hand_out_lines.ensures.code

pub returns-in-Ok-clause-tolerated : goal.returns-in-Ok-clause-tolerated
returns-in-Ok-clause-tolerated c =
    said_tolerated c.args.octets.now c.in-Ok.verdict c.hand_out_lines.result c.hand_out_lines.new.outcome.place c.in-Ok.ensures.verdict c.hand_out_lines.ensures.code (ap (λ (o : Outcome). o.place) c.hand_out_lines.ensures.told)

pub returns-in-Ok-clause-refused : goal.returns-in-Ok-clause-refused
returns-in-Ok-clause-refused c =
    said_refused_in_lines c.args.octets.now c.in-Ok.verdict c.hand_out_lines.result _ c.hand_out_lines.new.outcome c.in-Ok.ensures.verdict c.hand_out_lines.ensures.code c.hand_out_lines.ensures.told
