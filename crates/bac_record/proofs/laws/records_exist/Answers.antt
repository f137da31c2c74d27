use Rattle.bac_record.proofs.Exist.{exist}
use Rattle.bac_record.proofs.laws.records_exist.Goals as goal

pub returns : goal.returns
returns c = exist
