use Rattle.std.proofs.Common.{◌∙◌, sym}
use Rattle.bac_field_parts.specs.Laws.Languages.{has_first, has_second}
use Rattle.bac_field_parts.proofs.making.EitherFromFields.begins.Goals as goal

pub returns-then-begins : goal.returns-then-begins
returns-then-begins g c = c.if-begins.true ∙ sym (has_first _ _ c.args.lead (sym c.begins.ensures ∙ c.if-begins.true))

pub returns-else-begins : goal.returns-else-begins
returns-else-begins g c = c.begins-else-begins.ensures ∙ sym (has_second _ _ c.args.lead (sym c.begins.ensures ∙ c.if-begins.false))
