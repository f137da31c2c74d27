use Rattle.std.proofs.lemmas.Result.{err_from_is_err_and}
use Rattle.bac_record.proofs.Stops.{stops_after_length}
use Rattle.bac_record.proofs.records.next_record.Goals as goal

pub returns-in_err-read_octets-clause-stops : goal.returns-in_err-read_octets-clause-stops
returns-in_err-read_octets-clause-stops g c =
    let p = err_from_is_err_and c.from_residual-in_err-read_octets.result c.from_residual-in_err-read_octets.ensures.1 in
    rw (p.1, p.2) (stops_after_length _ _ _ _ _ (rw c.in-Some.is at c.in_ok-length.ensures.found) c.in_err-read_octets.ensures.stops)
