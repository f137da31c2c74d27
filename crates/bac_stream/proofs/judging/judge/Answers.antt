use Rattle.std.proofs.Common.{rules, ◌≢◌}
use Rattle.bac_tag.specs.declared.refusals.Why.TheVariants.{OutOfMemory}
use Rattle.bac_stream.proofs.JudgingLemmas.{hopeless_none, hopeless_refused, judged_accepted, judged_canonical, judged_fault, judged_refused, reasoned}
use Rattle.bac_stream.proofs.judging.judge.Goals as goal

pub returns-in-Ok-clause-accepted : goal.returns-in-Ok-clause-accepted
returns-in-Ok-clause-accepted g c =
    let m = c.in-Ok.ensures.made in
    judged_accepted c.frames_have_one_value.ensures (g.A.Appending.appends c.args.appending) c.args.mode c.args.octets.now c.args.out.now.items c.visit_frame.new.place.items m.value m.mark m.spelled m.marked c.in-Ok.judged m.made_of

pub returns-in-Ok-clause-canonical : goal.returns-in-Ok-clause-canonical
returns-in-Ok-clause-canonical g c =
    let m = c.in-Ok.ensures.made in
    judged_canonical c.frames_have_one_value.ensures (g.A.Appending.appends c.args.appending) c.args.mode c.args.octets.now c.args.out.now.items c.visit_frame.new.place.items m.value m.mark m.spelled m.marked c.in-Ok.judged m.made_of

pub returns-in-Ok-clause-fault : goal.returns-in-Ok-clause-fault
returns-in-Ok-clause-fault g c =
    let m = c.in-Ok.ensures.made in
    judged_fault c.frames_have_one_value.ensures (g.A.Appending.appends c.args.appending) c.args.mode c.args.octets.now c.args.out.now.items c.visit_frame.new.place.items m.value m.mark m.spelled m.marked c.in-Ok.judged m.made_of

pub returns-in-Ok-clause-refused : goal.returns-in-Ok-clause-refused
returns-in-Ok-clause-refused g c =
    let m = c.in-Ok.ensures.made in
    judged_refused c.frames_have_one_value.ensures (g.A.Appending.appends c.args.appending) c.args.mode c.args.octets.now c.args.out.now.items c.visit_frame.new.place.items m.value m.mark m.spelled m.marked c.in-Ok.judged m.made_of

pub returns-in-Err-2-clause-refused : goal.returns-in-Err-2-clause-refused
returns-in-Err-2-clause-refused g c =
    let why : c.in-Err.refusal.why ≢ OutOfMemory = search (rules, c.if-eq.ensures) in
    let e = c.in-Err.ensures in
    hopeless_none c.args.mode c.args.octets.now c.in-Err.refusal (e.refused why, reasoned e.versions e.addresses e.types e.windows e.reasons, why)

pub returns-in-Err-2-clause-fault : goal.returns-in-Err-2-clause-fault
returns-in-Err-2-clause-fault g c =
    let why : c.in-Err.refusal.why ≢ OutOfMemory = search (rules, c.if-eq.ensures) in
    let e = c.in-Err.ensures in
    hopeless_refused c.args.mode c.args.octets.now c.in-Err.refusal (e.refused why, reasoned e.versions e.addresses e.types e.windows e.reasons, why)
