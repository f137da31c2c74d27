use Rattle.bac_record.proofs.FirstRecords.{first_in_file}
use Rattle.bac_record.proofs.records.read_record.Goals as goal

pub returns-clause-files : goal.returns-clause-files
returns-clause-files g c = λ list rest file known records.
    first_in_file (λ octets. octets.items) list rest file _ _ _ known records c.next_record.ensures.found c.next_record.ensures.stops
