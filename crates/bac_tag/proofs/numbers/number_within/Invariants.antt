use Rattle.std.proofs.Common.{◌≡◌, take}
use Rattle.bac_tag.specs.Number.{number, BeginsNumber}
use Rattle.bac_tag.proofs.numbers.number_within.Given as goal

abbrev pub invariant-loop-place : goal.invariant-loop-place
invariant-loop-place l = (l.number ≡ number (take l.place l.front)) × BeginsNumber l.low l.high (take l.place l.front) l.width
