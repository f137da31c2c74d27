use Rattle.bac_productions.specs.Laws.Least.{mark_alike}
use Rattle.bac_productions.specs.Laws.Record.{record_takes}
use Rattle.bac_productions.proofs.record.FieldsProduction.read_spelling.Goals as goal

pub returns-clause-found : goal.returns-clause-found
returns-clause-found g c = rw c.with.ensures (record_takes g.met.R.Record.of_parts c.from_parts.ensures (rw c.split-parts.ensures c.in_ok-found.ensures.found))

pub returns-clause-mark : goal.returns-clause-mark
returns-clause-mark g c = λ wanted. rw c.with.ensures (mark_alike c.from_parts.ensures (rw c.split-parts.ensures (c.in_ok-found.ensures.mark wanted)))

pub returns-clause-same : goal.returns-clause-same
returns-clause-same g c = rw (c.with.ensures, c.split-parts.ensures) c.in_ok-found.ensures.same
