use Rattle.std.proofs.lemmas.Bool.{leb-true}
use Rattle.bac_field_parts.specs.Laws.Strings.{count_some}
use Rattle.bac_field_parts.proofs.elements.BitStringsStringType.has.Goals as goal

pub returns-clause-some : goal.returns-clause-some
returns-clause-some c few = count_some c.args.given (leb-true c.args.given 8388600 few)
