-- A spelling has an octet for each event at least.
use Rattle.std.proofs.Common.{ℕ, ◌≤◌, List, length}
use Rattle.bac_data.specs.OpenValue.{Elements}
use Rattle.bac_data.specs.Spells.{SpellsAll}
use Rattle.bac_data.specs.Events.{events}
use Rattle.bac_data.proofs.EventLemmas.{events_spelled}
use Rattle.bac_data.specs.Laws.Alignment.{events_some}

pub no_more_than_octets : (v : Elements) (b : List ℕ) → SpellsAll v b → length (events v) ≤ length b
no_more_than_octets v b p = events_some (events v) b (events_spelled v b p)
