use Rattle.std.proofs.Common.{◌≡◌, ◌++◌, take}
use Rattle.bac_tag.specs.HeadOctets.{least_head}
use Rattle.bac_npdu_parts.specs.Messages.{networks_of}
use Rattle.bac_npdu_parts.proofs.messages.networks.append_networks.Given as goal

-- the networks so far are written
abbrev pub invariant-loop-network : goal.invariant-loop-network
invariant-loop-network l = l.out.items ≡ l.fn.out.items ++ least_head (networks_of (take l.network-index l.networks))
