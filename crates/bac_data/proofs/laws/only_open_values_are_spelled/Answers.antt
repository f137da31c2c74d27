use Rattle.bac_data.proofs.ValueLemmas.{open_value_only}
use Rattle.bac_data.proofs.laws.only_open_values_are_spelled.Goals as goal

pub returns : goal.returns
returns c = open_value_only
