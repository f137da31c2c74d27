use Rattle.std.proofs.Common.{◌-◌, length, map}
use Rattle.bac_productions.specs.Laws.List.{HasItems}
use Rattle.bac_productions.proofs.list.VecProduction.read.Given as goal

abbrev pub invariant-loop-item : goal.invariant-loop-item
invariant-loop-item g l = HasItems g.R.Record.spells l.octets (map g.R.Record.view l.items.items) l.taken l.mark l.reach

abbrev pub decreases-loop-item : goal.decreases-loop-item
decreases-loop-item g l = length l.octets - l.taken
