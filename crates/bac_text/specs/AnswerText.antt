-- The text of answers, and of ends of transactions.
use Rattle.std.specs.Prelude.{ℕ, Bool, List, ◌++◌}
use Rattle.bac_service.specs.Services.{ServiceValue}
use Rattle.bac_text.specs.Words.{number, truth, field}
use Rattle.bac_text.specs.ServiceText.{service_text}

-- The text of a SimpleACK: the invoke id and the service choice.
abbrev pub simple_ack_text : ℕ → ℕ → List ℕ
simple_ack_text invoke choice = field "simple id=" (number invoke) ++ field " choice=" (number choice)

-- The text of a ComplexACK: the invoke id and the service.
abbrev pub complex_ack_text : ℕ → ServiceValue → List ℕ
complex_ack_text invoke service = field "ack id=" (number invoke) ++ field " " (service_text service)

-- The text of an Error: the invoke id and the service.
abbrev pub error_text : ℕ → ServiceValue → List ℕ
error_text invoke service = field "error id=" (number invoke) ++ field " " (service_text service)

-- The text of a Reject: the invoke id and the reason.
abbrev pub reject_text : ℕ → ℕ → List ℕ
reject_text invoke reason = field "reject id=" (number invoke) ++ field " reason=" (number reason)

-- The text of an Abort: the invoke id, whether the server sent it, and the reason.
abbrev pub abort_text : ℕ → Bool → ℕ → List ℕ
abort_text invoke srv reason = field "abort id=" (number invoke) ++ field " srv=" (truth srv) ++ field " reason=" (number reason)
