use Rattle.bac_data.proofs.ValueLemmas.{open_value_spelled}
use Rattle.bac_data.proofs.laws.open_values_have_spellings.Goals as goal

pub returns : goal.returns
returns c = open_value_spelled
