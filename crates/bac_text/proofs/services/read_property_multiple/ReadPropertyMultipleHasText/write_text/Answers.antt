use Rattle.std.proofs.Common.{ap}
use Rattle.bac_service.specs.ReadAccessSpecification.{specification_of}
use Rattle.bac_text.specs.Words.{field}
use Rattle.bac_text.specs.ServiceText.{specification_text}
use Rattle.bac_text.proofs.TextLemmas.{same_text, listed-map}
use Rattle.bac_text.proofs.services.read_property_multiple.ReadPropertyMultipleHasText.write_text.Goals as goal

pub returns-clause-text : goal.returns-clause-text
returns-clause-text c = same_text c.write_field.result _ _ _ _ (ap (field "ReadPropertyMultiple specs=") (listed-map specification_of specification_text c.args.self.now.specs.items)) c.write_field.ensures.text
