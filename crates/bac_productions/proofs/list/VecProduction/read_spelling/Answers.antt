use Rattle.std.proofs.Common.{ap, ◌∙◌, map, ◌∷◌, [], arith}
use Rattle.std.proofs.lemmas.List.{take_rest, map-append}
use Rattle.bac_productions.specs.Laws.HasLeast.{record_least}
use Rattle.bac_productions.specs.Laws.Production.{record_lawful}
use Rattle.bac_productions.specs.Laws.List.{takes_none, takes_next, takes_shrink}
use Rattle.bac_productions.proofs.list.VecProduction.read_spelling.Goals as goal

pub loop-item-init : goal.loop-item-init
loop-item-init g c = rw c.in-Ok.ensures.items (takes_none g.R.Record.spells c.args.octets.now c.args.wanted)

pub loop-item-smaller : goal.loop-item-smaller
loop-item-smaller g c = takes_shrink c.loop-item.invariant g.R.Parts.Production.is_sound (λ sound. record_lawful g.met.R.Record.of_parts (g.met.R.Parts.Production.lawful sound)) c.requires (rw take_rest at c.in-Some.ensures.found)

pub loop-item-preserved : goal.loop-item-preserved
loop-item-preserved g c =
    let view = g.R.Record.view in
    let pushed = ap (map view) c.in-Ok-push.ensures.items ∙ map-append view c.loop-item.items.items (c.in-Some.item.value.0 ∷ []) in
    let least = record_least g.met.R.Record.of_parts g.met.R.Parts.Production.has_least in
    rw pushed (takes_next c.loop-item.invariant least c.in-Some.item.same c.joined_same-same.result (rw take_rest at c.in-Some.ensures.found) (rw take_rest at c.in-Some.ensures.mark) c.is_wanted_behind.ensures.1
    c.joined_same-same.ensures.first c.joined_same-same.ensures.second (omega (arith, c.joined_same-same.ensures.within, c.in-Some.ensures.same)))
