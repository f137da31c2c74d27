use Rattle.std.proofs.Common.{◌-◌, length}
use Rattle.bac_field_parts.specs.Laws.Making.{HasMade}
use Rattle.bac_field_parts.proofs.making.EachFromFields.make.Given as goal

abbrev pub invariant-loop-out : goal.invariant-loop-out
invariant-loop-out g l = HasMade (g.P.FromFields.said l.self.0) (g.T.FromFields.said l.self.1) (g.P.FromFields.spells l.self.0) (g.T.FromFields.spells l.self.1) l.octets l.fields l.taken l.fn.out.items l.out.items

abbrev pub decreases-loop-out : goal.decreases-loop-out
decreases-loop-out g l = length l.fields - l.taken
