use Rattle.std.specs.Prelude.{[], refl}
use Rattle.std.proofs.Common.{sym, ◌∙◌}
use Rattle.bac_field_parts.specs.declared.names.Name.TheVariants as name
use Rattle.bac_lines.proofs.scanning.brackets.add_context.Goals as goal

pub returns-clause-sound : goal.returns-clause-sound
returns-clause-sound c ends small =
    let s = (rw c.in-Some.is at c.in_ok-taken.ensures.sound) in
    record {
      field = record { name = name.ContextPrimitive; number = c.args.number; head = []; contents = s.0 };
      has = (refl, ((small, (s.1.0, refl)), refl));
      is_text = s.1.1.1;
      added = c.in_ok-add_since.ensures.added c.args.said.now (record { name = name.ContextPrimitive; number = c.args.number; head = []; contents = s.0 }) refl refl (sym (c.len-start.ensures ∙ c.args.said.now.contents.ok.0)) refl s.1.1.0;
    }
