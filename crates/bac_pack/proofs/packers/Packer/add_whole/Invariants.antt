-- The lines taken are packed, and the octets known behind them hold no LF.
use Rattle.std.proofs.Common.{◌-◌, ◌+◌, ◌≤◌, length, take, drop}
use Rattle.bac_pack.specs.Lines.{IsUnbroken}
use Rattle.bac_pack.specs.Packing.{PacksFront}
use Rattle.bac_pack.proofs.packers.Packer.add_whole.Given as goal

abbrev pub invariant-loop-count : goal.invariant-loop-count
invariant-loop-count g l = record {
  packed : PacksFront g.L.LineForm.packs g.L.LineForm.LONGEST l.octets l.taken l.initial.self l.self;
  within : l.known + l.taken ≤ length l.octets;
  known : IsUnbroken (take l.known (drop l.taken l.octets));
}

abbrev pub decreases-loop-count : goal.decreases-loop-count
decreases-loop-count g l = length l.octets - l.taken
