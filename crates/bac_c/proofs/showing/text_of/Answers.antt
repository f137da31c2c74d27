use Rattle.std.proofs.Common.{ap, inr}
use Rattle.std.proofs.lemmas.Result.{err_from_is_err_and}
use Rattle.bac_tag.specs.declared.refusals.Refusal.{Refusal}
use Rattle.bac_c.proofs.OutcomeLemmas.{hopeless}
use Rattle.bac_c.proofs.showing.text_of.Goals as goal

pub returns-in_err-line-clause-refused : goal.returns-in_err-line-clause-refused
returns-in_err-line-clause-refused c =
    let p = err_from_is_err_and c.from_residual.result c.from_residual.ensures.1 in
    let e = c.in_err-line.ensures in
    rw (p.1, p.2) (λ memory. hopeless c.args.octets.now c.in_err-line.field-0.0 memory (e.refused memory) e.versions e.addresses e.types e.windows e.reasons)

pub returns-in-Ok-clause-text : goal.returns-in-Ok-clause-text
returns-in-Ok-clause-text c =
    let m = c.in_ok-line.ensures.made in
    (m.value, m.spelled, rw c.in-Ok.is at m.made_of)

pub returns-in-Err-clause-memory : goal.returns-in-Err-clause-memory
returns-in-Err-clause-memory c = let m = c.in_ok-line.ensures.made in λ memory. (ap (λ (r : Refusal). r.place) c.out_of_memory.ensures, inr (m.value, m.spelled))
