use Rattle.std.proofs.Common.{take}
use Rattle.std.specs.Prelude.{Some}
use Rattle.std.specs.List.{flat_map}
use Rattle.bac_field_parts.specs.Fields.{Writes}
use Rattle.bac_fields.specs.MessageFields.{listed_network_steps}
use Rattle.bac_fields.proofs.messages.networks.ListedNetworksHasFields.tell.Given as goal

abbrev pub invariant-loop-network : goal.invariant-loop-network
invariant-loop-network l = Writes (flat_map listed_network_steps (take l.network-index l.self.0.now)) l.fn.room l.fn.cursor l.room (Some l.cursor)
