use Rattle.std.proofs.Common.{◌≡◌, ◌+◌, ◌∙◌, length, refl, sym, ap, arith}
use Rattle.bac_value.specs.BitsContents.{bits_in, octets_for}
use Rattle.bac_field_parts.proofs.FieldLemmas.{length-head_more, length-bits_in, length-packed_bits}
use Rattle.bac_fields.proofs.primitives.tell_bits.Goals as goal

pub returns : goal.returns
returns c =
    let bits = bits_in c.args.packed.now c.args.count in
    let count : length bits ≡ c.args.count = length-bits_in c.args.packed.now c.args.count in
    let octets : octets_for (length bits) ≡ length c.args.packed.now = ap octets_for count ∙ sym c.requires.few in
    let size : 1 + octets_for (length bits) ≡ c.in_ok-checked_add.field-0 = omega (arith, octets, c.in_ok-checked_add.ensures) in
    c.write_field.ensures _ refl count (length-head_more 8 _ _ _ c.head_len-head.result size (c.head_len-head.ensures.octets 0)) (length-packed_bits bits ∙ octets)
