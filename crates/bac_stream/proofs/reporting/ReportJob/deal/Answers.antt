use Rattle.std.proofs.Common.{◌∙◌, ◌++◌, List, ℕ, ap}
use Rattle.bac_stream.specs.Lines.{refused, said_text, numbered}
use Rattle.bac_stream.proofs.ReportingLemmas.{accepted_dealt, refused_dealt}
use Rattle.bac_stream.proofs.reporting.ReportJob.deal.Goals as goal

pub returns-in-Ok-clause-dealt : goal.returns-in-Ok-clause-dealt
returns-in-Ok-clause-dealt g c =
    let judged = c.in-Ok.ensures in
    let told = c.accepted.ensures in
    accepted_dealt g.R.Reporting.says c.args.self.now.mode c.args.number c.args.octets.now c.args.out.now.items c.judge.new.out.items c.in-Ok.mark c.accepted.result
    judged.accepted judged.canonical told.canonical told.accepted

pub returns-in_ok-push-in-Err-Stop-clause-dealt : goal.returns-in_ok-push-in-Err-Stop-clause-dealt
returns-in_ok-push-in-Err-Stop-clause-dealt g c =
    let mode = c.args.self.now.mode in
    let octets = c.args.octets.now in
    let refusal = c.in-Err-Stop.refusal in
    let stop = c.in-Err-Stop.ensures in
    let is = c.in-Err-Stop.field-0-is in
    let line = numbered c.args.number (said_text (refused refusal)) in
    refused_dealt g.R.Reporting.says mode c.args.number octets c.args.out.now.items c.push.new.out.items refusal c.refused.result
    (g.met.R.Reporting.says_refusals mode octets refusal (rw is at stop.fault)) (rw is at stop.refused)
    (c.in_ok-push-in-Err-Stop.ensures.ok ∙ ap (λ (l : List ℕ). l ++ line) stop.unchanged) c.refused.ensures
