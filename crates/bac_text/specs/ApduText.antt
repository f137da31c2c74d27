-- The text of APDUs.
use Rattle.std.specs.Prelude.{ℕ, List}
use Rattle.bac_apdu.specs.Apdus.{ApduValue, confirmed_request, unconfirmed_request, simple_ack, complex_ack, segment_ack, error, reject, abort, segment}
use Rattle.bac_text.specs.RequestText.{confirmed_request_text, unconfirmed_request_text}
use Rattle.bac_text.specs.AnswerText.{simple_ack_text, complex_ack_text, error_text, reject_text, abort_text}
use Rattle.bac_text.specs.SegmentText.{segment_ack_text, segment_text}

-- The text of an APDU, which for each of the nine is in RequestText.antt, AnswerText.antt or SegmentText.antt.
abbrev pub apdu_text : ApduValue → List ℕ
apdu_text (confirmed_request head service) = confirmed_request_text head service
apdu_text (unconfirmed_request service) = unconfirmed_request_text service
apdu_text (simple_ack invoke choice) = simple_ack_text invoke choice
apdu_text (complex_ack invoke service) = complex_ack_text invoke service
apdu_text (segment_ack invoke nak srv seq window) = segment_ack_text invoke nak srv seq window
apdu_text (error invoke service) = error_text invoke service
apdu_text (reject invoke reason) = reject_text invoke reason
apdu_text (abort invoke srv reason) = abort_text invoke srv reason
apdu_text (segment head seq window more choice piece) = segment_text head seq window more choice piece
