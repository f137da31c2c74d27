use Rattle.std.specs.Prelude.{[], refl}
use Rattle.bac_field_parts.specs.declared.names.Name.TheVariants as name
use Rattle.bac_lines.proofs.scanning.brackets.add_item.Goals as goal

pub returns-clause-sound : goal.returns-clause-sound
returns-clause-sound c =
    (record { name = name.Item; number = 0; head = []; contents = [] }, (refl, ((refl, c.in_ok-open.ensures.opened), (refl, c.in_ok-add.ensures.added (record { name = name.Item; number = 0; head = []; contents = [] }) refl refl refl))))
