use Rattle.std.proofs.Common.{ap}
use Rattle.bac_c.specs.declared.outcomes.Outcome.{Outcome}
use Rattle.bac_c.proofs.VerdictLemmas.{said_canonical, said_refused_in_pieces, said_tolerated}
use Rattle.bac_c.proofs.explaining.bactool_explain.Goals as goal

pub returns-in-Ok-clause-canonical : goal.returns-in-Ok-clause-canonical
returns-in-Ok-clause-canonical c = said_canonical c.args.octets.now c.in-Ok.explained.verdict c.tell.result c.in-Ok.ensures.verdict c.tell.ensures.code

pub returns-in-Ok-clause-tolerated : goal.returns-in-Ok-clause-tolerated
returns-in-Ok-clause-tolerated c =
    said_tolerated c.args.octets.now c.in-Ok.explained.verdict c.tell.result c.tell.new.outcome.place c.in-Ok.ensures.verdict c.tell.ensures.code (ap (λ (o : Outcome). o.place) c.tell.ensures.told)

pub returns-in-Ok-clause-refused : goal.returns-in-Ok-clause-refused
returns-in-Ok-clause-refused c =
    said_refused_in_pieces c.args.octets.now c.in-Ok.explained.verdict c.tell.result c.in-Ok.explained.count c.tell.new.outcome c.in-Ok.ensures.verdict c.tell.ensures.code c.tell.ensures.told
