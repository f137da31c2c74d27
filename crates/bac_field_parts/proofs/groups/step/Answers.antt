use Rattle.std.proofs.Common.{◌∙◌}
use Rattle.std.proofs.lemmas.Bool.{both_ways}
use Rattle.std.proofs.lemmas.Result.{IfErr-weaker}
use Rattle.bac_field_parts.specs.Laws.Making.{stop_then}
use Rattle.bac_field_parts.specs.Laws.Groups.{is_other}
use Rattle.bac_field_parts.proofs.groups.step.Goals as goal

pub returns-clause-stopped : goal.returns-clause-stopped
returns-clause-stopped c =
    let lead = c.lead-next.ensures in
    let other = is_other c.args.groups.now.items _ c.requires.other (λ h. both_ways _ c.if-begins_group.false (c.begins_group.ensures.1 (h.0, lead ∙ h.1))) (λ h. both_ways _ c.if-ends_group.false (c.ends_group.ensures.1 (h.0, lead ∙ h.1))) in
    IfErr-weaker c.make_element.result _ _ (λ fault. stop_then fault _ _ (λ p h. h _ c.requires.numbers other)) c.make_element.ensures.stopped
