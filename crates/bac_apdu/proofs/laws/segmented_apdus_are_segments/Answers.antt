use Rattle.bac_apdu.proofs.LawLemmas.{request_segmented, answer_segmented}
use Rattle.bac_apdu.proofs.laws.segmented_apdus_are_segments.Goals as goal

pub returns : goal.returns
returns c = record { requests = request_segmented; answers = answer_segmented }
