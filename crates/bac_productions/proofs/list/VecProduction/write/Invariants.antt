use Rattle.std.proofs.Common.{take, map}
use Rattle.bac_tag.specs.Spelling.{AppendsLeast}
use Rattle.bac_productions.specs.Productions.{Items}
use Rattle.bac_productions.proofs.list.VecProduction.write.Given as goal

abbrev pub invariant-loop-item : goal.invariant-loop-item
invariant-loop-item g l = AppendsLeast (Items g.R.Record.spells (map g.R.Record.view (take l.item-index l.item-items))) l.fn.out.items l.out.items
