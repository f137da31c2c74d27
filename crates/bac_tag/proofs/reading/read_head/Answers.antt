use Rattle.bac_tag.proofs.ReadingLemmas.{any_found, any_refused}
use Rattle.bac_tag.proofs.reading.read_head.Goals as goal

pub returns-clause-found : goal.returns-clause-found
returns-clause-found c = any_found _ c.args.octets.now c.read_expected.ensures.found

pub returns-clause-refused : goal.returns-clause-refused
returns-clause-refused c = any_refused _ c.args.octets.now c.read_expected.ensures.refused
