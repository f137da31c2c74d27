use Rattle.bac_c.proofs.FrameLemmas.{result_in_place}
use Rattle.bac_c.proofs.in_place.decode_in_place.Goals as goal

pub returns-clause-made : goal.returns-clause-made
returns-clause-made c =
    result_in_place c.frames_have_few_fields.ensures c.frames_in_memory_fit.ensures c.args.octets.now c.args.room c.args.fields.now c.visit_in_place.new.fields c.visit_in_place.result c.visit_in_place.ensures.made
