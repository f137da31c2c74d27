use Rattle.std.proofs.Common.{◌≡◌, ◌<◌, ℕ, subst}
use Rattle.bac_tag.specs.HeadOctets.{IsWindow}
use Rattle.bac_service.specs.declared.kind.Kind.TheVariants.{Confirmed, Unconfirmed, ComplexAck, Error}
use Rattle.bac_service.specs.declared.service.Service.{Service}
use Rattle.bac_service.specs.Services.{value_of as service_of}
use Rattle.bac_apdu.proofs.HeldLemmas.{HeldService, RequestFits, held_confirmed, held_unconfirmed, held_complex_ack, held_error, held_simple_ack, held_segment_ack, held_reject, held_abort}
use Rattle.bac_apdu.proofs.laws.held_apdus_have_canonical_octets.Goals as goal

pub returns-in-Confirmed : goal.returns-in-Confirmed
returns-in-Confirmed c =
    let request = c.in-Confirmed.request in
    let fits = subst RequestFits c.head.ensures c.is_request_head.ensures in
    let kind = subst (λ (s : Service). (service_of s).kind ≡ Confirmed) c.service.ensures.service c.service.ensures.kind in
    let held = subst (λ (s : Service). HeldService (service_of s)) c.service.ensures.service c.held_services_have_canonical_octets.ensures in
    rw c.in-Confirmed.is (held_confirmed request.head (service_of request.service) fits kind held)

pub returns-in-Unconfirmed : goal.returns-in-Unconfirmed
returns-in-Unconfirmed c =
    let told = c.service-in-Unconfirmed.ensures in
    let kind = subst (λ (s : Service). (service_of s).kind ≡ Unconfirmed) told.service told.kind in
    let held = subst (λ (s : Service). HeldService (service_of s)) told.service c.held_services_have_canonical_octets-in-Unconfirmed.ensures in
    rw c.in-Unconfirmed.is (held_unconfirmed (service_of c.in-Unconfirmed.request) kind held)

pub returns-in-SimpleAck : goal.returns-in-SimpleAck
returns-in-SimpleAck c = rw c.in-SimpleAck.is (held_simple_ack c.in-SimpleAck.invoke c.in-SimpleAck.choice c.is_octet.ensures c.is_octet-in-SimpleAck.ensures)

pub returns-in-ComplexAck : goal.returns-in-ComplexAck
returns-in-ComplexAck c =
    let ack = c.in-ComplexAck.ack in
    let fits = subst (λ (n : ℕ). n < 256) c.invoke.ensures c.is_octet-in-ComplexAck.ensures in
    let told = c.service-in-ComplexAck.ensures in
    let kind = subst (λ (s : Service). (service_of s).kind ≡ ComplexAck) told.service told.kind in
    let held = subst (λ (s : Service). HeldService (service_of s)) told.service c.held_services_have_canonical_octets-in-ComplexAck.ensures in
    rw c.in-ComplexAck.is (held_complex_ack ack.invoke (service_of ack.service) fits kind held)

pub returns-in-SegmentAck : goal.returns-in-SegmentAck
returns-in-SegmentAck c =
    let ack = c.in-SegmentAck in
    let window = subst IsWindow c.number.ensures.number c.number.ensures.range in
    rw ack.is (held_segment_ack ack.invoke ack.nak ack.srv ack.seq ack.window c.is_octet-in-SegmentAck.ensures c.is_octet-in-SegmentAck-2.ensures window)

pub returns-in-Error : goal.returns-in-Error
returns-in-Error c =
    let answer = c.in-Error.answer in
    let fits = subst (λ (n : ℕ). n < 256) c.invoke-in-Error.ensures c.is_octet-in-Error.ensures in
    let told = c.service-in-Error.ensures in
    let kind = subst (λ (s : Service). (service_of s).kind ≡ Error) told.service told.kind in
    let held = subst (λ (s : Service). HeldService (service_of s)) told.service c.held_services_have_canonical_octets-in-Error.ensures in
    rw c.in-Error.is (held_error answer.invoke (service_of answer.service) fits kind held)

pub returns-in-Reject : goal.returns-in-Reject
returns-in-Reject c = rw c.in-Reject.is (held_reject c.in-Reject.invoke c.in-Reject.reason c.is_octet-in-Reject.ensures c.is_octet-in-Reject-2.ensures)

pub returns-in-Abort : goal.returns-in-Abort
returns-in-Abort c = rw c.in-Abort.is (held_abort c.in-Abort.invoke c.in-Abort.srv c.in-Abort.reason c.is_octet-in-Abort.ensures c.is_octet-in-Abort-2.ensures)
