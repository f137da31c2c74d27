use Rattle.bac_productions.proofs.tag.EdgeProduction.check.Goals as goal

pub returns-clause-found : goal.returns-clause-found
returns-clause-found g c = let e = c.in_ok-read.ensures in rw c.split.ensures (record { value = _; longest = e.found; marked = e.mark })
