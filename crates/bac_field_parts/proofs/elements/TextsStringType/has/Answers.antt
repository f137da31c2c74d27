use Rattle.std.proofs.lemmas.Bool.{ltb-true}
use Rattle.bac_field_parts.specs.Laws.Strings.{set_some}
use Rattle.bac_field_parts.proofs.elements.TextsStringType.has.Goals as goal

pub returns-clause-some : goal.returns-clause-some
returns-clause-some c small = set_some c.args.given (ltb-true c.args.given 256 small)
