use Rattle.bac_stream.specs.Lines.{IsChecked, said_of}
use Rattle.bac_stream.proofs.JudgingLemmas.{accepted_checked}
use Rattle.bac_stream.proofs.ReportingLemmas.{accepted_dealt, refused_dealt}
use Rattle.bac_stream.proofs.checking.CheckJob.deal.Goals as goal

pub returns-in_ok-push-in-Ok-clause-dealt : goal.returns-in_ok-push-in-Ok-clause-dealt
returns-in_ok-push-in-Ok-clause-dealt c =
    let mark = c.in-Ok.mark in
    let found = c.in-Ok.ensures in
    let told = c.accepted.ensures in
    accepted_dealt IsChecked c.args.self.now.mode c.args.number c.args.octets.now c.args.out.now.items c.push.new.out.items mark c.accepted.result
    (record {
      frame = found.accepted.frame;
      accepted = found.accepted.accepted;
      marked = found.accepted.marked;
      appended = record {
        said = said_of mark;
        is_said = λ mode octets a m. accepted_checked mode _ octets mark a m;
        appended = rw c.of_mark.ensures.said at c.in_ok-push-in-Ok.ensures.ok;
      };
    })
    found.canonical told.canonical told.accepted

pub returns-in_ok-push-in-Err-clause-dealt : goal.returns-in_ok-push-in-Err-clause-dealt
returns-in_ok-push-in-Err-clause-dealt c =
    let stop = c.in-Err.ensures in
    refused_dealt IsChecked c.args.self.now.mode c.args.number c.args.octets.now c.args.out.now.items c.push-in-Err.new.out.items c.in-Err.refusal c.refused.result
    stop.fault stop.refused c.in_ok-push-in-Err.ensures.ok c.refused.ensures
