use Rattle.std.specs.Prelude.{List, Option, [], ◌∷◌, ◌++◌, ℕ, map}
use Rattle.std.proofs.Common.{ap, sym, ◌∙◌}
use Rattle.bac_tag.specs.HeadOctets.{octet, least_head}
use Rattle.bac_npdu_parts.specs.Messages.{network_or_none}
use Rattle.bac_npdu_parts.proofs.WrittenLemmas.{one_behind, least_append, least_octets}
use Rattle.bac_npdu_parts.proofs.messages.untyped.append_opaque_net.Goals as goal

pub returns-clause-written : goal.returns-clause-written
returns-clause-written c =
    let old = c.args.out.now.items in
    let message = c.args.message.now in
    let vendor = network_or_none message.vendor in
    let kind = c.in_ok-push.ensures.items ∙ ap (λ (k : ℕ). old ++ k ∷ []) c.kind.ensures.kind in
    let vendored = one_behind old (message.kind ∷ []) (least_head vendor) kind (c.in_ok-append_network.ensures.written ∙ ap (λ (v : Option ℕ). c.push.new.self.items ++ least_head (network_or_none v)) c.vendor.ensures.vendor) in
    let whole = one_behind old (message.kind ∷ least_head vendor) message.octets vendored (c.in_ok-extend_from_slice.ensures.items ∙ ap (λ (l : List ℕ). c.append_network.new.out.items ++ l) c.octets.ensures) in
    whole ∙ ap (λ (l : List ℕ). old ++ message.kind ∷ l) (sym (least_append vendor (map octet message.octets) ∙ ap (λ (l : List ℕ). least_head vendor ++ l) (least_octets message.octets)))
