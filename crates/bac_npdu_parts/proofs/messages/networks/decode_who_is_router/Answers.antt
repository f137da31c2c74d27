use Rattle.std.proofs.lemmas.Result.{err_from_is_err_and}
use Rattle.bac_npdu_parts.proofs.CheckedLemmas.{no_message_refused}
use Rattle.bac_npdu_parts.proofs.messages.networks.decode_who_is_router.Goals as goal

pub returns-in_err-check_who_is_router : goal.returns-in_err-check_who_is_router
returns-in_err-check_who_is_router c =
    let p = err_from_is_err_and c.from_residual.result c.from_residual.ensures.1 in
    rw (p.1, p.2) (no_message_refused c.args.octets.now _ c.in_err-check_who_is_router.ensures.checked)
