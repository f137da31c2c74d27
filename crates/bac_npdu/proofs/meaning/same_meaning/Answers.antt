use Rattle.std.specs.Prelude.{◌≡◌, ◌↔◌, true}
use Rattle.std.proofs.Common.{rules}
use Rattle.std.proofs.lemmas.Result.{err_from_is_err_and}
use Rattle.bac_npdu.proofs.MeaningLemmas.{normal_compared}
use Rattle.bac_npdu.proofs.meaning.same_meaning.Goals as goal

pub returns-in_err-right_written-clause-right : goal.returns-in_err-right_written-clause-right
returns-in_err-right_written-clause-right c =
    let p = err_from_is_err_and c.from_residual-in_err-right_written.result c.from_residual-in_err-right_written.ensures.1 in
    rw (p.1, p.2) (λ side why. (c.in_ok-left_written.ensures.spelled, c.in_err-right_written.ensures.refused why))

pub returns-in_err-right_written-clause-right_memory : goal.returns-in_err-right_written-clause-right_memory
returns-in_err-right_written-clause-right_memory c =
    let p = err_from_is_err_and c.from_residual-in_err-right_written.result c.from_residual-in_err-right_written.ensures.1 in
    rw (p.1, p.2) (λ side why. let m = c.in_err-right_written.ensures.memory why in (m.0, c.in_ok-left_written.ensures.spelled, m.1))

pub returns-clause-spelled : goal.returns-clause-spelled
returns-clause-spelled c = (c.in_ok-left_written.ensures.spelled, c.in_ok-right_written.ensures.spelled)

pub returns-clause-same : goal.returns-clause-same
returns-clause-same c =
    let left = normal_compared c.in_ok-left_written.left_written (λ new. new.items) c.args.left.now c.compared.result.now c.in_ok-left_written.ensures.normal c.compared.ensures in
    let right = normal_compared c.in_ok-right_written.right_written (λ new. new.items) c.args.right.now c.compared-2.result.now c.in_ok-right_written.ensures.normal c.compared-2.ensures in
    let told = c.canonical_octets_tell_the_meaning.ensures _ _ _ _ left right in
    let equal : (c.eq.result ≡ true) ↔ (c.compared.result.now ≡ c.compared-2.result.now) = search (rules, c.eq.ensures) in
    (λ h. told.1 (equal.0 h), λ m. equal.1 (told.0 m))
