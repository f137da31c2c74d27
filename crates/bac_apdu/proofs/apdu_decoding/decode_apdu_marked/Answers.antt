use Rattle.std.proofs.lemmas.Result.{IfOk-weaker}
use Rattle.bac_apdu.proofs.VisitLemmas.{visited_made}
use Rattle.bac_apdu.proofs.apdu_decoding.decode_apdu_marked.Goals as goal

pub returns-clause-mark : goal.returns-clause-mark
returns-clause-mark c = IfOk-weaker c.decode_pdu.result _ _ (λ found m. rw (m.made_of.0, m.made_of.1) m.marked) (visited_made _ _ _ _ c.decode_pdu.result c.decode_pdu.ensures)
