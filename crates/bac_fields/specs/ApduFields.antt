-- The fields of an APDU (clause 20.1). The octets of a head are numbered from 0, and each number of the head says in which of
-- them it is. The first octet says which APDU it is.
use Rattle.std.specs.Prelude.{ℕ, Bool, List, [], ◌∷◌, ◌++◌, ◌+◌}
use Rattle.bac_service.specs.Services.{ServiceValue}
use Rattle.bac_apdu.specs.declared.confirmed_request.RequestHead.{RequestHead}
use Rattle.bac_apdu.specs.declared.segment.SegHead.{SegHead}
use Rattle.bac_apdu.specs.declared.segment.SegHead.TheVariants.{Request, Ack}
use Rattle.bac_apdu.specs.Apdus.{ApduValue, confirmed_request, unconfirmed_request, simple_ack, complex_ack, segment_ack, error, reject, abort, segment}
use Rattle.bac_field_parts.specs.declared.names.Name.TheVariants as name
use Rattle.bac_field_parts.specs.Fields.{Step, next, aside, pass, octets_field}
use Rattle.bac_field_parts.specs.PrimitiveFields.{truth}
use Rattle.bac_fields.specs.ServiceFields.{service_steps}

-- The steps of the head of a request: the invoke id, and what the head says besides. That is whether a segmented answer is
-- accepted, max-segments and max-response.
abbrev pub request_head_steps : RequestHead → List Step
request_head_steps head =
    aside 2 name.InvokeId head.invoke ∷ aside 0 name.SegmentedAccepted (truth head.sa) ∷ aside 1 name.MaxSegments head.segs ∷ aside 1 name.MaxResponse head.resp ∷ []

-- The steps of a Confirmed-Request in one piece: its head of three octets, and its service.
abbrev pub confirmed_request_steps : RequestHead → ServiceValue → List Step
confirmed_request_steps head service = aside 0 name.ConfirmedRequest 0 ∷ (request_head_steps head ++ pass 3 ∷ service_steps service)

-- The steps of an Unconfirmed-Request: its head of one octet, and its service.
abbrev pub unconfirmed_request_steps : ServiceValue → List Step
unconfirmed_request_steps service = aside 0 name.UnconfirmedRequest 0 ∷ pass 1 ∷ service_steps service

-- The steps of a SimpleACK: the invoke id and the service choice.
abbrev pub simple_ack_steps : ℕ → ℕ → List Step
simple_ack_steps invoke choice = aside 0 name.SimpleAck 0 ∷ aside 1 name.InvokeId invoke ∷ aside 2 name.Choice choice ∷ pass 3 ∷ []

-- The steps of a ComplexACK in one piece: the invoke id, and its service.
abbrev pub complex_ack_steps : ℕ → ServiceValue → List Step
complex_ack_steps invoke service = aside 0 name.ComplexAck 0 ∷ aside 1 name.InvokeId invoke ∷ pass 2 ∷ service_steps service

-- The steps of a SegmentACK: the invoke id, whether it is negative, whether a server sends it, sequence number and window.
abbrev pub segment_ack_steps : ℕ → Bool → Bool → ℕ → ℕ → List Step
segment_ack_steps invoke nak srv seq window =
    aside 0 name.SegmentAck 0 ∷ aside 1 name.InvokeId invoke ∷ aside 0 name.Negative (truth nak) ∷ aside 0 name.Server (truth srv) ∷ aside 2 name.Sequence seq
    ∷ aside 3 name.Window window ∷ pass 4 ∷ []

-- The steps of an Error: the invoke id, and the service with the error.
abbrev pub error_pdu_steps : ℕ → ServiceValue → List Step
error_pdu_steps invoke service = aside 0 name.Error 0 ∷ aside 1 name.InvokeId invoke ∷ pass 2 ∷ service_steps service

-- The steps of a Reject: the invoke id and the reason.
abbrev pub reject_steps : ℕ → ℕ → List Step
reject_steps invoke reason = aside 0 name.Reject 0 ∷ aside 1 name.InvokeId invoke ∷ aside 2 name.Reason reason ∷ pass 3 ∷ []

-- The steps of an Abort: the invoke id, whether a server sends it, and the reason.
abbrev pub abort_steps : ℕ → Bool → ℕ → List Step
abort_steps invoke srv reason = aside 0 name.Abort 0 ∷ aside 1 name.InvokeId invoke ∷ aside 0 name.Server (truth srv) ∷ aside 2 name.Reason reason ∷ pass 3 ∷ []

-- The steps of what follows the invoke id in the head of a segment, whose next octet has this number, and of the piece.
abbrev pub segment_steps : ℕ → ℕ → ℕ → Bool → ℕ → List ℕ → List Step
segment_steps at seq window more choice piece =
    aside at name.Sequence seq ∷ aside (at + 1) name.Window window ∷ aside 0 name.More (truth more) ∷ aside (at + 2) name.Choice choice ∷ pass (at + 3)
    ∷ next (octets_field name.Octets piece) ∷ []

-- The steps of a segment of a request or of an answer.
abbrev pub part_steps : SegHead → ℕ → ℕ → Bool → ℕ → List ℕ → List Step
part_steps (Request head) seq window more choice piece = aside 0 name.RequestSegment 0 ∷ (request_head_steps head ++ segment_steps 3 seq window more choice piece)
part_steps (Ack invoke) seq window more choice piece = aside 0 name.AckSegment 0 ∷ aside 1 name.InvokeId invoke ∷ segment_steps 2 seq window more choice piece

-- The steps of an APDU, with a line for each of the nine APDUs.
abbrev pub apdu_steps : ApduValue → List Step
apdu_steps (confirmed_request head service) = confirmed_request_steps head service
apdu_steps (unconfirmed_request service) = unconfirmed_request_steps service
apdu_steps (simple_ack invoke choice) = simple_ack_steps invoke choice
apdu_steps (complex_ack invoke service) = complex_ack_steps invoke service
apdu_steps (segment_ack invoke nak srv seq window) = segment_ack_steps invoke nak srv seq window
apdu_steps (error invoke service) = error_pdu_steps invoke service
apdu_steps (reject invoke reason) = reject_steps invoke reason
apdu_steps (abort invoke srv reason) = abort_steps invoke srv reason
apdu_steps (segment head seq window more choice piece) = part_steps head seq window more choice piece
