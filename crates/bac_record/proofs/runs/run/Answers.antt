use Rattle.bac_record.proofs.FileRuns.{result_over}
use Rattle.bac_record.proofs.runs.run.Goals as goal

pub returns-clause-files : goal.returns-clause-files
returns-clause-files g c = λ list rest file known records.
    result_over _ _ _ _ _ _ _ list rest file records _ _ known c.run_pieces.ensures.through c.run_pieces.ensures.stopped
