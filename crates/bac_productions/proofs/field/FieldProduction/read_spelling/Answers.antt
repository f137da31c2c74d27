use Rattle.bac_productions.proofs.field.FieldProduction.read_spelling.Goals as goal

pub returns-clause-found : goal.returns-clause-found
returns-clause-found g c = rw (c.with.ensures, c.split-value.ensures) c.in_ok-found.ensures.found

pub returns-clause-mark : goal.returns-clause-mark
returns-clause-mark g c = λ wanted. rw (c.with.ensures, c.split-value.ensures) (c.in_ok-found.ensures.mark wanted)

pub returns-clause-same : goal.returns-clause-same
returns-clause-same g c = rw (c.with.ensures, c.split-value.ensures) c.in_ok-found.ensures.same
