use Rattle.std.specs.Prelude.{List, ◌++◌, ℕ, take}
use Rattle.std.proofs.Common.{ap, ◌∙◌}
use Rattle.bac_tag.specs.HeadOctets.{least_head}
use Rattle.bac_npdu_parts.specs.Messages.{networks_of}
use Rattle.bac_npdu_parts.proofs.WrittenLemmas.{one_behind, networks_next}
use Rattle.bac_npdu_parts.proofs.messages.networks.append_networks.Goals as goal

pub loop-network-preserved : goal.loop-network-preserved
loop-network-preserved c =
    let old = c.args.out.now.items in
    let networks = c.args.networks.now in
    let i = c.loop-network.network-index in
    one_behind old (least_head (networks_of (take i networks))) _ c.loop-network.invariant (c.in_ok-extend_from_slice.ensures.items ∙ ap (λ (l : List ℕ). c.loop-network.out.items ++ l) c.octets_of_number.ensures)
    ∙ ap (λ (l : List ℕ). old ++ l) (networks_next networks i c.loop-network-test.true)
