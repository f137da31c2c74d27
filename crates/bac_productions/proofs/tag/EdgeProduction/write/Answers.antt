use Rattle.bac_productions.proofs.tag.EdgeProduction.write.Goals as goal

pub returns-clause-ok : goal.returns-clause-ok
returns-clause-ok g c = rw c.head_of.ensures at c.append_head.ensures.ok
