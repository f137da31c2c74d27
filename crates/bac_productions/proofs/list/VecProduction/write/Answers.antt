use Rattle.std.proofs.Common.{ap, sym, ◌∙◌, map, ◌∷◌, [], ◌++◌, length, take, arith, ◌<◌, ◌≡◌, ◌+◌}
use Rattle.std.proofs.lemmas.List.{take_more, take_all, map-append}
use Rattle.bac_productions.specs.Laws.Least.{appends_item, extends_more}
use Rattle.bac_productions.proofs.list.VecProduction.write.Goals as goal

pub loop-item-preserved : goal.loop-item-preserved
loop-item-preserved g c =
    let view = g.R.Record.view in
    let items = c.deref-item-items.result.now in
    let i = c.loop-item.item-index in
    let item = c.item-item.result in
    let below : i < length items = omega arith in
    let taken : take (i + 1) items ≡ take i items ++ item ∷ [] = take_more items i item below ∙ ap (λ x. take i items ++ x ∷ []) (sym c.item-item.is) in
    let viewed : map view (take (i + 1) items) ≡ map view (take i items) ++ view item ∷ [] = ap (map view) taken ∙ map-append view (take i items) (item ∷ []) in
    rw viewed (appends_item g.R.Record.spells _ _ c.loop-item.invariant c.in_ok-write_fields.ensures.ok)

pub returns-clause-ok : goal.returns-clause-ok
returns-clause-ok g c =
    let items = c.deref-item-items.result.now in
    let all : take c.loop-item.item-index items ≡ items = take_all c.loop-item.item-index items (omega arith) in
    rw (sym c.deref-item-items.ensures.value) (rw all at c.loop-item.invariant)

pub returns-clause-kept : goal.returns-clause-kept
returns-clause-kept g c = let written = c.loop-item.invariant in (written.more, written.new_is)

pub returns-in_err-write_fields-clause-kept : goal.returns-in_err-write_fields-clause-kept
returns-in_err-write_fields-clause-kept g c = let written = c.loop-item.invariant in extends_more _ _ _ (written.more, written.new_is) c.in_err-write_fields.ensures.kept
