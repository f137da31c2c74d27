use Rattle.std.specs.Prelude.{[], ◌∷◌, ◌++◌, refl}
use Rattle.std.proofs.Common.{◌∙◌, ap}
use Rattle.bac_field_parts.specs.declared.names.Name.{Name}
use Rattle.bac_lines.specs.Scanning.{open_end}
use Rattle.bac_fields.specs.Line.{as_list}
use Rattle.bac_lines.proofs.NameLemmas.{lists, form_among}
use Rattle.bac_lines.proofs.LinkLemmas.{bare_among}
use Rattle.bac_lines.proofs.scanning.words.add_list.Goals as goal

pub returns-clause-sound : goal.returns-clause-sound
returns-clause-sound c =
    let some = c.in-Some.ensures.some in (
      record { name = c.in-Some.name; number = 0; head = []; contents = [] },
      (
        form_among as_list lists c.in-Some.name (refl, (refl, (refl, (refl, (refl, (refl, (refl, tt))))))) some.0,
        (
          (refl, c.in_ok-open.ensures.opened ∙ ap (λ (n : Name). c.args.ends.now.items ++ open_end n 0 ∷ []) c.end_of.ensures),
          (some.1, (refl, c.in_ok-add.ensures.added (record { name = c.in-Some.name; number = 0; head = []; contents = [] }) refl refl (bare_among lists c.in-Some.name refl some.0))),
        ),
      ),
    )
