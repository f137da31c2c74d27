use Rattle.std.proofs.Common.{◌≤◌, ◌-◌, ◌≡◌, length, take}
use Rattle.bac_field_parts.specs.declared.names.Name.{Name}
use Rattle.bac_field_parts.specs.Names.{word_of}
use Rattle.bac_lines.specs.Found.{Among}
use Rattle.bac_lines.proofs.scanning.names.find_name.Given as goal

abbrev pub invariant-loop-index : goal.invariant-loop-index
invariant-loop-index l = record {
  within : l.index ≤ length l.names;
  none : (name : Name) → Among (take l.index l.names) name → l.word ≡ word_of name → ⊥;
}

abbrev pub decreases-loop-index : goal.decreases-loop-index
decreases-loop-index l = length l.names - l.index
