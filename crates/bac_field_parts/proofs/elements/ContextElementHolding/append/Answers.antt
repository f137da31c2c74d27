use Rattle.std.proofs.Common.{refl}
use Rattle.bac_field_parts.proofs.elements.ContextElementHolding.append.Goals as goal

pub returns-clause-made : goal.returns-clause-made
returns-clause-made c some = record { value = (c.args.given, c.args.held.now); is_given = refl; is_held = refl; appended = c.in_ok-append_context.ensures.ok }
