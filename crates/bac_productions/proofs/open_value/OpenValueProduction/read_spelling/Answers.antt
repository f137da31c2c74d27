use Rattle.bac_productions.specs.Laws.Least.{mark_below, mark_told}
use Rattle.bac_productions.specs.Laws.OpenValue.{open_mark}
use Rattle.bac_productions.proofs.open_value.OpenValueProduction.read_spelling.Goals as goal

pub returns-clause-mark : goal.returns-clause-mark
returns-clause-mark g c = λ w.
    let marked = open_mark 32 g.row.N c.args.octets.now c.in-Ok.value c.in-Ok.taken c.in-Ok.mark c.in-Ok.ensures.found c.in-Ok.ensures.mark in
    mark_told c.args.octets.now c.in-Ok.taken c.in-Ok.mark c.same_octets.result c.in-Ok.ensures.found.within marked c.same_octets.ensures.all c.same_octets.ensures.some

pub returns-clause-same : goal.returns-clause-same
returns-clause-same g c =
    let marked = open_mark 32 g.row.N c.args.octets.now c.in-Ok.value c.in-Ok.taken c.in-Ok.mark c.in-Ok.ensures.found c.in-Ok.ensures.mark in
    mark_below c.args.octets.now c.in-Ok.taken c.in-Ok.mark c.same_octets.result c.in-Ok.ensures.found.within marked c.same_octets.ensures.all c.same_octets.ensures.some
