use Rattle.bac_productions.specs.Laws.OpenValue.{open_longest, open_reach, open_mark}
use Rattle.bac_productions.proofs.open_value.OpenValueProduction.read.Goals as goal

pub returns-in-Ok-clause-found : goal.returns-in-Ok-clause-found
returns-in-Ok-clause-found g c = open_longest 32 g.row.N c.args.octets.now c.in-Ok.value c.in-Ok.taken c.in-Ok.ensures.found

pub returns-in-Ok-clause-mark : goal.returns-in-Ok-clause-mark
returns-in-Ok-clause-mark g c = open_mark 32 g.row.N c.args.octets.now c.in-Ok.value c.in-Ok.taken c.in-Ok.mark c.in-Ok.ensures.found c.in-Ok.ensures.mark

pub returns-in-Ok-clause-reach : goal.returns-in-Ok-clause-reach
returns-in-Ok-clause-reach g c = open_reach 32 g.row.N c.args.octets.now c.in-Ok.value c.in-Ok.taken c.complete_at.result c.in-Ok.ensures.found c.complete_at.ensures.place c.complete_at.ensures.short
