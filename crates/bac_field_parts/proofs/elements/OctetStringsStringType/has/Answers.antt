use Rattle.std.proofs.lemmas.Bool.{eqb-true}
use Rattle.bac_value.specs.declared.prim.PrimitiveValue.TheVariants.{Octets}
use Rattle.bac_field_parts.specs.Laws.Strings.{zero_is, string_inhabited, octets_element}
use Rattle.bac_field_parts.proofs.elements.OctetStringsStringType.has.Goals as goal

pub returns-clause-some : goal.returns-clause-some
returns-clause-some c none = zero_is (λ v. Octets v) (string_inhabited octets_element) c.args.given (eqb-true c.args.given 0 none)
