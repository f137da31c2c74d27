use Rattle.std.proofs.Common.{rules, ◌≢◌, [], ◌∷◌, ◌++◌, ap, ◌∙◌}
use Rattle.std.specs.Prelude.{Err}
use Rattle.bac_tag.specs.declared.refusals.Why.TheVariants.{OutOfMemory}
use Rattle.bac_stream.proofs.ItemLemmas.{item_pushed}
use Rattle.bac_stream.proofs.JudgingLemmas.{hopeless_none, hopeless_refused, reasoned}
use Rattle.bac_stream.proofs.items.push_item.Goals as goal

pub returns-in-Ok-Ok-clause-ok : goal.returns-in-Ok-Ok-clause-ok
returns-in-Ok-Ok-clause-ok c =
    let m = rw c.in-Ok-Ok.is at c.visit_frame.ensures.made in
    item_pushed c.frames_have_one_value.ensures c.args.mode c.args.octets.now m.value m.mark m.spelled m.marked c.args.out.now.items c.visit_frame.new.place.items tt (rw c.in-Ok-Ok.field-0-is at m.made_of)

pub returns-in_ok-push-in-Err-2-clause-ok : goal.returns-in_ok-push-in-Err-2-clause-ok
returns-in_ok-push-in-Err-2-clause-ok c =
    let why : c.in-Err.refusal.why ≢ OutOfMemory = search (rules, c.if-eq.ensures) in
    let e = c.in-Err.ensures in (
      Err c.in-Err.refusal,
      (hopeless_none c.args.mode c.args.octets.now c.in-Err.refusal (e.refused why, reasoned e.versions e.addresses e.types e.windows e.reasons, why), hopeless_refused c.args.mode c.args.octets.now c.in-Err.refusal (e.refused why, reasoned e.versions e.addresses e.types e.windows e.reasons, why)),
      c.in_ok-push-in-Err-2.ensures.items ∙ ap (λ place. place.items ++ Err c.in-Err.refusal ∷ []) e.unchanged,
    )
