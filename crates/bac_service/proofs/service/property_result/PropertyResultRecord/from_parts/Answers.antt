use Rattle.std.specs.Option.{option_map}
use Rattle.bac_productions.specs.Productions.{either_of}
use Rattle.bac_service.specs.Laws.PropertyResult.{property_result_alike}
use Rattle.bac_service.proofs.service.property_result.PropertyResultRecord.from_parts.Goals as goal

pub returns : goal.returns
returns c = λ b.
    let parts = c.args.parts in
    rw (c.bare_number.ensures, c.result_of.ensures) (property_result_alike 32 ((parts.0.0.0, option_map (λ field. field.0) parts.0.1), either_of (λ value. value.0) (λ group. (group.0.0.0, group.0.1.0)) parts.1) b)
