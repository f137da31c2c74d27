-- The text of requests.
use Rattle.std.specs.Prelude.{ℕ, List, ◌++◌}
use Rattle.bac_service.specs.Services.{ServiceValue}
use Rattle.bac_apdu.specs.declared.confirmed_request.RequestHead.{RequestHead}
use Rattle.bac_text.specs.Words.{number, truth, field}
use Rattle.bac_text.specs.ServiceText.{service_text}

-- The invoke id of a request, and what its head says besides.
abbrev pub request_head_text : RequestHead → List ℕ
request_head_text head = number head.invoke ++ field " sa=" (truth head.sa) ++ field " segs=" (number head.segs) ++ field " resp=" (number head.resp)

-- The text of a Confirmed-Request: what its head says, and the service.
abbrev pub confirmed_request_text : RequestHead → ServiceValue → List ℕ
confirmed_request_text head service = field "conf id=" (request_head_text head) ++ field " " (service_text service)

-- The text of an Unconfirmed-Request, which is that of the service after a word.
abbrev pub unconfirmed_request_text : ServiceValue → List ℕ
unconfirmed_request_text service = field "unconf " (service_text service)
