use Rattle.std.proofs.lemmas.Grind.{common_steps}
use Rattle.std.proofs.Common.{arith, ◌≡◌, ◌++◌, ◌+◌, take}
use Rattle.std.specs.List.{flat_map}
use Rattle.bac_field_parts.specs.Fields.{item_steps}
use Rattle.bac_field_parts.proofs.FieldLemmas.{writes_then, writes_none, writes_same, flat_map-from}
use Rattle.bac_fields.proofs.parts.ItemsHasFields.tell.Goals as goal

pub loop-item-preserved : goal.loop-item-preserved
loop-item-preserved g c =
    let steps = item_steps g.T.HasFields.steps in
    let items = c.args.self.now.0.now in
    let i = c.loop-item.item-index in
    let more : flat_map steps (take (i + 1) items) ≡ flat_map steps (take i items) ++ steps c.item-item.result = grind (arith, common_steps) in
    rw more (writes_then c.loop-item.invariant c.in_ok-cursor.ensures)

pub returns-in_err-cursor : goal.returns-in_err-cursor
returns-in_err-cursor g c =
    let steps = item_steps g.T.HasFields.steps in
    let items = c.args.self.now.0.now in
    let i = c.loop-item.item-index in
    let more : flat_map steps (take (i + 1) items) ≡ flat_map steps (take i items) ++ steps c.item-item.result = grind (arith, common_steps) in
    writes_same (flat_map-from steps items i c.item-item.result more) (writes_then c.loop-item.invariant (writes_none _ _ c.from_residual.ensures c.in_err-cursor.ensures))
