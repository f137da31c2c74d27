use Rattle.bac_pack.proofs.FileRuns.{result_over}
use Rattle.bac_pack.proofs.runs.run_lines.Goals as goal

pub returns-clause-files : goal.returns-clause-files
returns-clause-files g c = λ file known. result_over _ _ _ _ _ _ file _ _ known c.run_pieces.ensures.through c.run_pieces.ensures.stopped
