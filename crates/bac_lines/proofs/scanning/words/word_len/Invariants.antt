use Rattle.std.proofs.Common.{◌≤◌, ◌-◌, length, take}
use Rattle.std.specs.Prelude.{IsTrue}
use Rattle.bac_lines.specs.Scanning.{each, is_letter}
use Rattle.bac_lines.proofs.scanning.words.word_len.Given as goal

abbrev pub invariant-loop-count : goal.invariant-loop-count
invariant-loop-count l = record {
  within : l.count ≤ length l.line;
  run : IsTrue (each is_letter (take l.count l.line));
}

abbrev pub decreases-loop-count : goal.decreases-loop-count
decreases-loop-count l = length l.line - l.count
