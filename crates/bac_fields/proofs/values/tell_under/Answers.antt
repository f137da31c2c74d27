use Rattle.std.proofs.Common.{length, refl, sym, ap, ◌∙◌}
use Rattle.bac_tag.specs.Writing.{narrow_head}
use Rattle.bac_fields.proofs.values.tell_under.Goals as goal

pub returns : goal.returns
returns g c =
    let contents = sym c.written_len-length.ensures.len in
    c.write_field.ensures _ refl (sym c.to_number.ensures) (ap (λ n. length (narrow_head 1 g.row.N n)) contents ∙ sym (c.head_len-head.ensures.octets 1)) contents
