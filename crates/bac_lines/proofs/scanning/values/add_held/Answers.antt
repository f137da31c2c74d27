use Rattle.std.specs.Prelude.{refl}
use Rattle.std.proofs.Common.{◌∙◌, sym}
use Rattle.bac_lines.proofs.LinkLemmas.{with_contents}
use Rattle.bac_lines.proofs.scanning.values.add_held.Goals as goal

pub returns-clause-sound : goal.returns-clause-sound
returns-clause-sound c = λ held.
    let added = rw c.in-Some.is at c.in_ok-taken.ensures.sound in
    record {
      field = with_contents c.args.name 0 added.0;
      has = (refl, (refl, added.1.0));
      is_text = added.1.1.1;
      added = c.in_ok-add_since.ensures.added c.args.said.now _ refl refl (sym (c.len-start.ensures ∙ c.args.said.now.contents.ok.0)) refl added.1.1.0;
    }
