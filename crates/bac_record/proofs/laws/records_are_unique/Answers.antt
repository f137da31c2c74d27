use Rattle.bac_record.proofs.Unique.{unique}
use Rattle.bac_record.proofs.laws.records_are_unique.Goals as goal

pub returns : goal.returns
returns c = unique
