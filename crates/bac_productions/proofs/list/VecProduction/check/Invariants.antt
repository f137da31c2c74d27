use Rattle.std.proofs.Common.{◌-◌, length}
use Rattle.bac_productions.specs.Laws.Checked.{HasChecked}
use Rattle.bac_productions.proofs.list.VecProduction.check.Given as goal

abbrev pub invariant-loop-item : goal.invariant-loop-item
invariant-loop-item g l = HasChecked g.R.Record.spells l.octets l.taken l.mark l.reach

abbrev pub decreases-loop-item : goal.decreases-loop-item
decreases-loop-item g l = length l.octets - l.taken
