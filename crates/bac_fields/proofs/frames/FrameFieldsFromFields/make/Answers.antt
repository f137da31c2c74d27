use Rattle.bac_fields.proofs.FrameMaking.{frame_made}
use Rattle.bac_fields.proofs.frames.FrameFieldsFromFields.make.Goals as goal

pub returns-in-Ok-make_after-clause-made : goal.returns-in-Ok-make_after-clause-made
returns-in-Ok-make_after-clause-made c = frame_made c.args.octets.now c.args.fields.now _ c.in-Ok.found.1 c.in-Ok.ensures.read c.in-Ok-make_after.rest _ _ c.in-Ok-make_after.ensures.made
