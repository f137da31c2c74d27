use Rattle.std.proofs.Common.{refl, []}
use Rattle.std.proofs.lemmas.Bool.{leb-true}
use Rattle.bac_field_parts.specs.Laws.Strings.{context_spelled}
use Rattle.bac_field_parts.proofs.elements.ContextElementHolding.has.Goals as goal

pub returns-clause-some : goal.returns-clause-some
returns-clause-some c small =
    let s = context_spelled c.args.given (leb-true c.args.given 254 small) in
    record { value = (c.args.given, []); octets = s.0; spelled = s.1; is_given = refl }
