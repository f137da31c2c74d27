use Rattle.std.specs.Prelude.{◌+◌, ◌*◌, ◌<◌, ℕ, slice_index, refl}
use Rattle.std.proofs.Common.{arith}
use Rattle.bac_npdu_parts.specs.Messages.{i_could_be_router, reject_message, establish, disconnect, what_is_network_number, network_number_is}
use Rattle.bac_npdu_parts.proofs.MessageLemmas.{high_octet, low_octet, nothing_refused}
use Rattle.bac_npdu_parts.proofs.CheckedLemmas.{early_why, no_message, sized_checked}
use Rattle.bac_npdu_parts.proofs.message.check_message.Goals as goal

pub returns-in_default : goal.returns-in_default
returns-in_default c = no_message c.args.octets.now c.at.result (rw c.at.ensures (nothing_refused c.args.octets.now c.in_default.len_below)) (early_why c.args.octets.now c.at.result c.at.ensures)

pub returns-in-2 : goal.returns-in-2
returns-in-2 c =
    let b = c.args.octets.now in
    let small : (k : ℕ) → slice_index b k < 256 = λ k. omega (arith, c.type_inv.octets k) in
    sized_checked 2 3 b (c.in-len1-up.len_at_least, c.in-2.is) refl refl (i_could_be_router (256 * slice_index b 1 + slice_index b 2) (slice_index b 3)) (tt, ((c.in-2.is, small 0), ((high_octet (slice_index b 1) (slice_index b 2) (small 2), small 1), ((low_octet (slice_index b 1) (slice_index b 2) (small 2), small 2), ((refl, small 3), refl))))) _ c.sized.ensures

pub returns-in-3 : goal.returns-in-3
returns-in-3 c =
    let b = c.args.octets.now in
    let small : (k : ℕ) → slice_index b k < 256 = λ k. omega (arith, c.type_inv.octets k) in
    sized_checked 3 3 b (c.in-len1-up.len_at_least, c.in-3.is) refl refl (reject_message (slice_index b 1) (256 * slice_index b 2 + slice_index b 3)) (tt, ((c.in-3.is, small 0), ((refl, small 1), ((high_octet (slice_index b 2) (slice_index b 3) (small 3), small 2), ((low_octet (slice_index b 2) (slice_index b 3) (small 3), small 3), refl))))) _ c.sized-in-3.ensures

pub returns-in-8 : goal.returns-in-8
returns-in-8 c =
    let b = c.args.octets.now in
    let small : (k : ℕ) → slice_index b k < 256 = λ k. omega (arith, c.type_inv.octets k) in
    sized_checked 8 3 b (c.in-len1-up.len_at_least, c.in-8.is) refl refl (establish (256 * slice_index b 1 + slice_index b 2) (slice_index b 3)) (tt, ((c.in-8.is, small 0), ((high_octet (slice_index b 1) (slice_index b 2) (small 2), small 1), ((low_octet (slice_index b 1) (slice_index b 2) (small 2), small 2), ((refl, small 3), refl))))) _ c.sized-in-8.ensures

pub returns-in-9 : goal.returns-in-9
returns-in-9 c =
    let b = c.args.octets.now in
    let small : (k : ℕ) → slice_index b k < 256 = λ k. omega (arith, c.type_inv.octets k) in
    sized_checked 9 2 b (c.in-len1-up.len_at_least, c.in-9.is) refl refl (disconnect (256 * slice_index b 1 + slice_index b 2)) (tt, ((c.in-9.is, small 0), ((high_octet (slice_index b 1) (slice_index b 2) (small 2), small 1), ((low_octet (slice_index b 1) (slice_index b 2) (small 2), small 2), refl)))) _ c.sized-in-9.ensures

pub returns-in-18 : goal.returns-in-18
returns-in-18 c =
    let b = c.args.octets.now in
    let small : (k : ℕ) → slice_index b k < 256 = λ k. omega (arith, c.type_inv.octets k) in
    sized_checked 18 0 b (c.in-len1-up.len_at_least, c.in-18.is) refl refl (what_is_network_number) (tt, ((c.in-18.is, small 0), refl)) _ c.sized-in-18.ensures

pub returns-in-19 : goal.returns-in-19
returns-in-19 c =
    let b = c.args.octets.now in
    let small : (k : ℕ) → slice_index b k < 256 = λ k. omega (arith, c.type_inv.octets k) in
    sized_checked 19 3 b (c.in-len1-up.len_at_least, c.in-19.is) refl refl (network_number_is (256 * slice_index b 1 + slice_index b 2) (slice_index b 3)) (tt, ((c.in-19.is, small 0), ((high_octet (slice_index b 1) (slice_index b 2) (small 2), small 1), ((low_octet (slice_index b 1) (slice_index b 2) (small 2), small 2), ((refl, small 3), refl))))) _ c.sized-in-19.ensures
