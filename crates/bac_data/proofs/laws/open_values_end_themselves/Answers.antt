use Rattle.bac_data.proofs.OpenLemmas.{open_ends}
use Rattle.bac_data.proofs.laws.open_values_end_themselves.Goals as goal

pub returns : goal.returns
returns c = open_ends
