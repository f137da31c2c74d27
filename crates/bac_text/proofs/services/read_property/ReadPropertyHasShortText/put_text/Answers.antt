use Rattle.bac_text.proofs.TextLemmas.{appended}
use Rattle.bac_text.proofs.services.read_property.ReadPropertyHasShortText.put_text.Goals as goal

pub returns-clause-text : goal.returns-clause-text
returns-clause-text c = appended _ _ _ _ _ c.put_field-end.ensures.text c.put_property.ensures.text
