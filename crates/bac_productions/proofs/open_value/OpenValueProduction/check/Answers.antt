use Rattle.bac_productions.specs.Laws.OpenValue.{open_longest, open_reach}
use Rattle.bac_productions.proofs.open_value.OpenValueProduction.check.Goals as goal

pub returns-in-Ok-clause-found : goal.returns-in-Ok-clause-found
returns-in-Ok-clause-found g c =
    let found = c.in-Ok.ensures.found in
    record { value = found.value; longest = open_longest 32 g.row.N c.args.octets.now found.value c.in-Ok.taken found.takes; marked = found.marked }

pub returns-in-Ok-clause-reach : goal.returns-in-Ok-clause-reach
returns-in-Ok-clause-reach g c = let found = c.in-Ok.ensures.found in open_reach 32 g.row.N c.args.octets.now found.value c.in-Ok.taken c.complete_at.result found.takes c.complete_at.ensures.place c.complete_at.ensures.short
