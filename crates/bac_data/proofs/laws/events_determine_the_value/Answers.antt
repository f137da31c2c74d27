use Rattle.std.proofs.Common.{sym, ◌∙◌, ap}
use Rattle.bac_data.specs.Events.{value_of_events}
use Rattle.bac_data.specs.Laws.Events.{value_of_events-events}
use Rattle.bac_data.proofs.laws.events_determine_the_value.Goals as goal

pub returns : goal.returns
returns c = λ v w e. sym (value_of_events-events v) ∙ ap value_of_events e ∙ value_of_events-events w
