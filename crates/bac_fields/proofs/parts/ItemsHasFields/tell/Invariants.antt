use Rattle.std.proofs.Common.{take}
use Rattle.std.specs.Prelude.{Some}
use Rattle.std.specs.List.{flat_map}
use Rattle.bac_field_parts.specs.Fields.{item_steps, Writes}
use Rattle.bac_fields.proofs.parts.ItemsHasFields.tell.Given as goal

abbrev pub invariant-loop-item : goal.invariant-loop-item
invariant-loop-item g l = Writes (flat_map (item_steps g.T.HasFields.steps) (take l.item-index l.self.0.now)) l.fn.room l.fn.cursor l.room (Some l.cursor)
