use Rattle.std.proofs.Common.{sym, subst}
use Rattle.std.proofs.lemmas.Result.{err_from_is_err_and}
use Rattle.bac_npdu_parts.specs.MessageTypes.{OpaqueNetValue}
use Rattle.bac_npdu_parts.specs.Messages.{opaque, SpellsMessage}
use Rattle.bac_npdu_parts.proofs.CheckedLemmas.{no_message_refused}
use Rattle.bac_npdu_parts.proofs.UntypedLemmas.{untyped_memory}
use Rattle.bac_npdu_parts.proofs.messages.untyped.decode_opaque_net.Goals as goal

pub returns-in_err-vendor : goal.returns-in_err-vendor
returns-in_err-vendor c =
    let p = err_from_is_err_and c.from_residual.result c.from_residual.ensures.1 in
    rw (p.1, p.2) (no_message_refused c.args.octets.now _ c.in_err-vendor.ensures.refused)

pub returns-in-Err : goal.returns-in-Err
returns-in-Err c = rw c.out_of_memory.ensures (untyped_memory c.args.octets.now c.requires.untyped)

pub returns-in-Ok : goal.returns-in-Ok
returns-in-Ok c =
    subst (λ (m : OpaqueNetValue). SpellsMessage (opaque m) c.args.octets.now) (sym c.in-Ok.ensures.value) c.in_ok-vendor.ensures.found
