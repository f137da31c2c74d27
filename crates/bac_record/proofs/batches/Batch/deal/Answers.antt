use Rattle.std.proofs.Common.{arith}
use Rattle.bac_record.proofs.BatchRecords.{deals_more, counts_few, ends_more, still_held}
use Rattle.bac_record.proofs.batches.Batch.deal.Goals as goal

pub returns-in-Ok-None-clause-room : goal.returns-in-Ok-None-clause-room
returns-in-Ok-None-clause-room g c = λ has held.
    let loop = c.loop-count.invariant in
    c.in-Ok-None.ensures.room (loop.room has held) (still_held _ _ _ loop.ends loop.deals.within held)

pub returns-in-Err-clause-room : goal.returns-in-Err-clause-room
returns-in-Err-clause-room g c = λ has held.
    let loop = c.loop-count.invariant in
    c.in-Err.ensures.room (loop.room has held) (still_held _ _ _ loop.ends loop.deals.within held)

pub returns-in-Err-clause-memory : goal.returns-in-Err-clause-memory
returns-in-Err-clause-memory g c = λ has held.
    let loop = c.loop-count.invariant in
    c.in-Err.ensures.memory (loop.room has held) (still_held _ _ _ loop.ends loop.deals.within held)

pub loop-count-preserved : goal.loop-count-preserved
loop-count-preserved g c =
    let loop = c.loop-count.invariant in
    let dealt = rw c.in-Ok-Some.field-0-is at c.in-Ok-Some.ensures.dealt in
    record {
      deals = deals_more _ _ _ _ _ _ _ _ _ _ loop.deals dealt.1 dealt.2 dealt.3 dealt.4;
      canonical = counts_few _ _ _ _ _ dealt.4.canonical loop.canonical dealt.4.records;
      refused = counts_few _ _ _ _ _ dealt.4.refused loop.refused dealt.4.records;
      ends = omega (arith, loop.ends, dealt.2, ends_more _ _ _ _ _ _ _ dealt.4);
      room = λ has held. c.in-Ok-Some.ensures.room (loop.room has held) (still_held _ _ _ loop.ends loop.deals.within held);
    }
