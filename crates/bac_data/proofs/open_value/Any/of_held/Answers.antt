use Rattle.bac_data.proofs.HeldLemmas.{value_events}
use Rattle.bac_data.proofs.open_value.Any.of_held.Goals as goal

pub returns : goal.returns
returns c = value_events _ _ c.requires.held
