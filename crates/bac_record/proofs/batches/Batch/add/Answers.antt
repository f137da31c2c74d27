use Rattle.bac_record.proofs.BatchRecords.{fits_one}
use Rattle.bac_record.proofs.batches.Batch.add.Goals as goal

pub returns-in-Err-Memory-clause-memory : goal.returns-in-Err-Memory-clause-memory
returns-in-Err-Memory-clause-memory g c = λ has few.
    rw c.in-Err-Memory.field-0-is at (c.in-Err-Memory.ensures.memory has.some (fits_one g.J.Job.ROOM c.args.self.now has few))
