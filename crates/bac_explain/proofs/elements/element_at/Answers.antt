use Rattle.std.proofs.Common.{ℕ, ◌-◌, min, length, ap, ◌∙◌}
use Rattle.bac_explain.proofs.ElementLemmas.{element-begun, element-tagged}
use Rattle.bac_explain.proofs.elements.element_at.Goals as goal

pub returns-in_default : goal.returns-in_default
returns-in_default c = element-begun c.args.typed c.args.octets.now c.split_at.result.1.now c.args.place c.args.depth c.split_at.ensures.back c.requires c.in_default.ensures.none

pub returns : goal.returns
returns c =
    element-tagged c.args.typed c.args.octets.now c.split_at.result.1.now c.args.place c.args.depth c.in-Some.taken c.min.result c.depth_of.result c.in-Some.head c.kind_with.result
    c.split_at.ensures.back c.requires c.in-Some.ensures.some (c.min.ensures ∙ ap (λ (n : ℕ). min n (length c.split_at.result.1.now - c.in-Some.taken)) c.contents_len.ensures) c.depth_of.ensures c.kind_with.ensures
