use Rattle.std.proofs.lemmas.Grind.{common_steps}
use Rattle.std.proofs.Common.{arith, ◌≡◌, ◌++◌, ◌+◌, take, get_or}
use Rattle.std.specs.List.{flat_map}
use Rattle.bac_fields.specs.MessageFields.{listed_network_steps}
use Rattle.bac_field_parts.proofs.FieldLemmas.{writes_then, writes_none, writes_same, flat_map-from}
use Rattle.bac_fields.proofs.messages.networks.ListedNetworksHasFields.tell.Goals as goal

pub loop-network-preserved : goal.loop-network-preserved
loop-network-preserved c =
    let networks = c.args.self.now.0.now in
    let i = c.loop-network.network-index in
    let more : flat_map listed_network_steps (take (i + 1) networks) ≡ flat_map listed_network_steps (take i networks) ++ listed_network_steps (get_or networks i 0) = grind (arith, common_steps) in
    rw more (writes_then c.loop-network.invariant c.in_ok-cursor.ensures)

pub returns-in_err-cursor : goal.returns-in_err-cursor
returns-in_err-cursor c =
    let networks = c.args.self.now.0.now in
    let i = c.loop-network.network-index in
    let more : flat_map listed_network_steps (take (i + 1) networks) ≡ flat_map listed_network_steps (take i networks) ++ listed_network_steps (get_or networks i 0) = grind (arith, common_steps) in
    writes_same (flat_map-from listed_network_steps networks i (get_or networks i 0) more) (writes_then c.loop-network.invariant (writes_none _ _ c.from_residual.ensures c.in_err-cursor.ensures))
