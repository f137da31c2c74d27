use Rattle.bac_fields.proofs.WholeFrames.{decoded_said}
use Rattle.bac_fields.proofs.from_fields.frame_of.Goals as goal

pub returns-in-Ok-clause-made : goal.returns-in-Ok-clause-made
returns-in-Ok-clause-made c =
    decoded_said c.args.octets.now c.args.fields.now _ c.new-canonical.result.items c.append_octets.new.out.items c.deref.result.now c.new-canonical.ensures.items c.deref.ensures.value c.in_ok-append_octets.ensures.made c.in-Ok.ensures.found c.frames_have_one_value.ensures
