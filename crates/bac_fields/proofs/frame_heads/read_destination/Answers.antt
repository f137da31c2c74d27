use Rattle.std.proofs.Common.{subst}
use Rattle.std.specs.Prelude.{IsTrue, Option, ℕ}
use Rattle.std.proofs.lemmas.Result.{err_from_is_err_and}
use Rattle.bac_fields.specs.FrameSymbols.{destination_leads}
use Rattle.bac_field_parts.specs.Symbols.{has}
use Rattle.bac_fields.proofs.FrameMaking.{led, address_stops, hops_stop, destination_read_so}
use Rattle.bac_fields.proofs.frame_heads.read_destination.Goals as goal

pub returns-in_err-to-clause-stopped : goal.returns-in_err-to-clause-stopped
returns-in_err-to-clause-stopped c =
    let leads = subst (λ (n : Option ℕ). IsTrue (has destination_leads n)) c.lead.ensures (led 3 c.lead.result (rw c.number.ensures at c.if-ne.ensures)) in
    let p = err_from_is_err_and c.from_residual.result c.from_residual.ensures.1 in
    rw (p.1, p.2) (address_stops c.args.octets.now c.args.fields.now c.in_err-to.field-0.0 leads c.in_err-to.ensures.stopped)

pub returns-in-Ok-clause-read : goal.returns-in-Ok-clause-read
returns-in-Ok-clause-read c =
    let leads = subst (λ (n : Option ℕ). IsTrue (has destination_leads n)) c.lead.ensures (led 3 c.lead.result (rw c.number.ensures at c.if-ne.ensures)) in
    destination_read_so c.args.octets.now c.args.fields.now _ c.in_ok-to.ensures.some leads c.in_ok-to.ensures.read c.in-Ok.more c.in-Ok.hops c.in-Ok.ensures.within (rw c.number_named.ensures at (c.in-Ok.ensures.read c.args.octets.now))

pub returns-in-Err-clause-stopped : goal.returns-in-Err-clause-stopped
returns-in-Err-clause-stopped c =
    let leads = subst (λ (n : Option ℕ). IsTrue (has destination_leads n)) c.lead.ensures (led 3 c.lead.result (rw c.number.ensures at c.if-ne.ensures)) in
    rw c.behind.ensures (hops_stop c.args.octets.now c.args.fields.now _ c.in_ok-to.ensures.some leads c.in_ok-to.ensures.read c.in-Err.fault (rw c.number_named.ensures at (c.in-Err.ensures.stopped c.args.octets.now)))
