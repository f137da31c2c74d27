use Rattle.std.proofs.Common.{◌-◌, length, reverse}
use Rattle.bac_field_parts.specs.Laws.Steps.{HasStepped}
use Rattle.bac_field_parts.proofs.groups.make_elements.Given as goal

abbrev pub invariant-loop-groups : goal.invariant-loop-groups
invariant-loop-groups l = HasStepped l.octets l.fields l.taken (reverse l.groups.items) l.fn.out.items l.out.items

abbrev pub decreases-loop-groups : goal.decreases-loop-groups
decreases-loop-groups l = length l.fields - l.taken
