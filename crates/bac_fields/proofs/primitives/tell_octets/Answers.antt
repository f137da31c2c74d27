use Rattle.std.proofs.Common.{refl, sym}
use Rattle.bac_fields.proofs.primitives.tell_octets.Goals as goal

pub returns : goal.returns
returns c = c.write_field.ensures _ refl refl (sym (c.head_len-head.ensures.octets 0)) refl
