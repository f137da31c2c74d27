use Rattle.std.proofs.Common.{inl}
use Rattle.std.proofs.lemmas.Result.{err_from_is_err_and}
use Rattle.bac_npdu.proofs.strict.decoded_and_written.Goals as goal

pub returns-in-Ok-clause-written : goal.returns-in-Ok-clause-written
returns-in-Ok-clause-written c =
    let m = c.in_ok-canonical.ensures.made in
    (m.value, m.spelled, rw c.in-Ok.is at m.made_of)

pub returns-in_err-canonical-clause-memory : goal.returns-in_err-canonical-clause-memory
returns-in_err-canonical-clause-memory c =
    let p = err_from_is_err_and c.from_residual.result c.from_residual.ensures.1 in
    rw (p.1, p.2) (λ why. let m = c.in_err-canonical.ensures.memory why in (m.0, inl m.1))

pub returns-in_err-canonical-clause-reasons : goal.returns-in_err-canonical-clause-reasons
returns-in_err-canonical-clause-reasons c =
    let p = err_from_is_err_and c.from_residual.result c.from_residual.ensures.1 in
    let e = c.in_err-canonical.ensures in
    rw (p.1, p.2) (record { of_version = e.versions; of_address = e.addresses; of_type = e.types; of_window = e.windows; others = e.reasons })
