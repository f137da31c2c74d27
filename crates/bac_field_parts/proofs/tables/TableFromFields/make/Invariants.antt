use Rattle.std.proofs.Common.{◌++◌, ◌∷◌, [], ◌-◌, length}
use Rattle.bac_field_parts.specs.Laws.Tables.{HasCounted}
use Rattle.bac_field_parts.proofs.tables.TableFromFields.make.Given as goal

abbrev pub invariant-loop-place : goal.invariant-loop-place
invariant-loop-place g l = HasCounted (g.P.FromFields.said l.self.0) (g.T.FromFields.said l.self.1) (g.P.FromFields.spells l.self.0) (g.T.FromFields.spells l.self.1) l.octets l.fields l.count l.taken (l.fn.out.items ++ 0 ∷ []) l.out.items

abbrev pub decreases-loop-place : goal.decreases-loop-place
decreases-loop-place g l = length l.fields - l.taken
