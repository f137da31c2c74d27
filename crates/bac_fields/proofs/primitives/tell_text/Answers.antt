use Rattle.std.proofs.Common.{◌≡◌, suc, length, refl, sym, arith}
use Rattle.bac_field_parts.proofs.FieldLemmas.{length-head_more}
use Rattle.bac_fields.proofs.primitives.tell_text.Goals as goal

pub returns : goal.returns
returns c =
    let size : suc (length c.args.octets.now) ≡ c.in_ok-checked_add.field-0 = omega (arith, c.in_ok-checked_add.ensures) in
    c.write_field.ensures _ refl (sym c.from.ensures) (length-head_more 7 _ _ c.args.set c.head_len-head.result size (c.head_len-head.ensures.octets 0)) refl
