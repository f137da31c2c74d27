use Rattle.std.proofs.Common.{refl, sym}
use Rattle.bac_fields.proofs.open_values.tell_context.Goals as goal

pub returns : goal.returns
returns c = c.write_field.ensures _ refl (sym c.from.ensures) (sym (c.head_len-head.ensures.octets 1)) refl
