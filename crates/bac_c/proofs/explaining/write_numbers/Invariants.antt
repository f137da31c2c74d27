use Rattle.std.proofs.Common.{◌≡◌, length, map, take, drop}
use Rattle.bac_explain.specs.Numbers.{numbers_of}
use Rattle.bac_c.proofs.explaining.write_numbers.Given as goal

-- So many numbers are written, and what is behind them is as it was.
abbrev pub invariant-loop-index : goal.invariant-loop-index
invariant-loop-index l = (length l.out ≡ length l.initial.out) × (take l.index l.out ≡ map numbers_of (take l.index l.pieces)) × (drop l.index l.out ≡ drop l.index l.initial.out)
