use Rattle.bac_productions.specs.Laws.Group.{group_sound}
use Rattle.bac_productions.proofs.group.GroupProduction.read_spelling.Goals as goal

pub read_spelling-requires : goal.read_spelling-requires
read_spelling-requires g c = group_sound g.P.Production.openers g.P.Production.continuers g.P.Production.may_be_empty g.row.N g.P.Production.is_sound c.requires

pub returns-clause-mark : goal.returns-clause-mark
returns-clause-mark g c = λ wanted. rw (c.with.ensures, c.split-part.ensures) (c.in_ok-found.ensures.mark wanted)
