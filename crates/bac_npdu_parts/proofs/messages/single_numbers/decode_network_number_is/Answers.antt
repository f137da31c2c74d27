use Rattle.std.specs.Prelude.{◌+◌, ◌*◌, ◌<◌, ℕ, slice_index, refl}
use Rattle.std.proofs.Common.{arith}
use Rattle.std.proofs.lemmas.Result.{err_from_is_err_and}
use Rattle.bac_npdu_parts.specs.Messages.{network_number_is}
use Rattle.bac_npdu_parts.proofs.MessageLemmas.{sized_refused, high_octet, low_octet}
use Rattle.bac_npdu_parts.proofs.messages.single_numbers.decode_network_number_is.Goals as goal

pub returns-in_err-sized : goal.returns-in_err-sized
returns-in_err-sized c =
    let b = c.args.octets.now in
    let small : (k : ℕ) → slice_index c.args.octets.now k < 256 = λ k. omega (arith, c.type_inv.octets k) in
    let p = err_from_is_err_and c.from_residual.result c.from_residual.ensures.1 in
    rw (p.1, p.2) (sized_refused 19 3 b c.requires refl refl (network_number_is (256 * slice_index b 1 + slice_index b 2) (slice_index b 3)) (tt, ((c.requires.1, small 0), ((high_octet (slice_index b 1) (slice_index b 2) (small 2), small 1), ((low_octet (slice_index b 1) (slice_index b 2) (small 2), small 2), ((refl, small 3), refl))))) _ c.in_err-sized.ensures)
