use Rattle.std.specs.Prelude.{[], refl}
use Rattle.std.specs.Cmp.Lexicographic.{bytes_decides}
use Rattle.std.proofs.Common.{◌∙◌, sym}
use Rattle.bac_field_parts.specs.declared.names.Name.TheVariants as name
use Rattle.bac_lines.proofs.scanning.words.add_value.Goals as goal

pub returns-then-eq-clause-sound : goal.returns-then-eq-clause-sound
returns-then-eq-clause-sound c =
    let word = (bytes_decides c.args.word.now c.as_slice.result.now).0 (sym c.eq.ensures ∙ c.if-eq.true) ∙ c.as_slice.ensures in (
      record { name = name.Value; number = 0; head = []; contents = [] },
      (refl, ((refl, c.in_ok-open.ensures.opened), (word, (refl, c.in_ok-add.ensures.added (record { name = name.Value; number = 0; head = []; contents = [] }) refl refl refl)))),
    )
