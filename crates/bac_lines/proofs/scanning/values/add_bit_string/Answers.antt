use Rattle.std.specs.Prelude.{map, refl}
use Rattle.std.proofs.Common.{ap, sym, ◌∙◌}
use Rattle.bac_value.specs.BitsContents.{packed_bits, bits_in}
use Rattle.bac_text.specs.PrimitiveText.{bit_digit}
use Rattle.bac_field_parts.specs.declared.names.Name.TheVariants as name
use Rattle.bac_lines.proofs.LinkLemmas.{with_contents}
use Rattle.bac_lines.proofs.PackedBits.{bits_of_packed}
use Rattle.bac_lines.proofs.scanning.values.add_bit_string.Goals as goal

pub returns-clause-sound : goal.returns-clause-sound
returns-clause-sound c = λ ends.
    let added = c.in_ok-count.ensures.sound in
    let same = ap (bits_in (packed_bits added.0)) added.1.0 ∙ bits_of_packed added.0 in
    record {
      field = with_contents name.BitString c.in_ok-count.count (packed_bits added.0);
      has = (refl, (added.0, (refl, (added.1.0, (same, refl)))));
      is_text = added.1.1.1 ∙ ap (map bit_digit) (sym same);
      added = c.in_ok-add_since.ensures.added c.args.said.now _ refl refl (sym (c.len-start.ensures ∙ c.args.said.now.contents.ok.0)) refl added.1.1.0;
    }
