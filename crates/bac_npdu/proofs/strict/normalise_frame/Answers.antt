use Rattle.std.specs.Prelude.{◌≡◌, None, refl}
use Rattle.std.proofs.Common.{inr, sym, subst, arith, rules}
use Rattle.std.proofs.lemmas.Result.{err_from_is_err_and}
use Rattle.bac_npdu_parts.proofs.FrameReadLemmas.{spelled_memory}
use Rattle.bac_npdu.specs.Meanings.{IsNormalOf}
use Rattle.bac_npdu.proofs.MeaningLemmas.{normal_itself}
use Rattle.bac_npdu.proofs.strict.normalise_frame.Goals as goal

pub returns-in_err-mark-clause-memory : goal.returns-in_err-mark-clause-memory
returns-in_err-mark-clause-memory c =
    let p = err_from_is_err_and c.from_residual.result c.from_residual.ensures.1 in
    rw (p.1, p.2) (λ why. absurd (c.in_err-mark.ensures.memory why))

pub returns-in-Ok-clause-written : goal.returns-in-Ok-clause-written
returns-in-Ok-clause-written c =
    let b = c.args.octets.now in
    let found = c.in_ok-mark.ensures.found in
    let none : c.in_ok-mark.mark ≡ None = search (rules, c.is_some.ensures, c.if-is_some.false) in
    subst (IsNormalOf b) (sym c.in-Ok.ensures.items) (normal_itself found.value b c.in_ok-mark.mark none found.spelled found.marked)

pub returns-in-Err-clause-memory : goal.returns-in-Err-clause-memory
returns-in-Err-clause-memory c =
    let found = c.in_ok-mark.ensures.found in
    rw c.out_of_memory.ensures (λ why. (refl, inr (found.value, found.spelled)))

pub returns-in-Err-clause-reasons : goal.returns-in-Err-clause-reasons
returns-in-Err-clause-reasons c =
    let found = c.in_ok-mark.ensures.found in
    rw c.out_of_memory.ensures (spelled_memory c.args.octets.now (λ k. omega (arith, c.type_inv.octets k)) found.value found.spelled)
