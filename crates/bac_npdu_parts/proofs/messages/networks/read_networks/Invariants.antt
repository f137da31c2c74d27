use Rattle.std.proofs.Common.{◌≡◌, ◌*◌, drop}
use Rattle.bac_tag.specs.HeadOctets.{Headed}
use Rattle.bac_npdu_parts.specs.Messages.{networks_of}
use Rattle.bac_npdu_parts.proofs.messages.networks.read_networks.Given as goal

-- the networks so far are read
abbrev pub invariant-loop-index : goal.invariant-loop-index
invariant-loop-index l = Headed (networks_of l.networks.items) (λ rest. rest ≡ drop (2 * l.index) l.data) l.data
