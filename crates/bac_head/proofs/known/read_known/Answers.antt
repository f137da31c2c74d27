use Rattle.std.proofs.Common.{ap}
use Rattle.std.specs.Prelude.{ℕ, ◌+◌}
use Rattle.bac_head.specs.declared.known.Known.TheVariants as known
use Rattle.bac_head.proofs.FrameLemmas.{addresses_known, reach_addresses, pdu_known, reach_pdu, whole_known}
use Rattle.bac_head.proofs.known.read_known.Goals as goal

pub returns-in_default-read_pdu_head-clause-agrees : goal.returns-in_default-read_pdu_head-clause-agrees
returns-in_default-read_pdu_head-clause-agrees c = addresses_known c.args.octets.now c.in-Some-read_npci.npci c.in-Some-read_npci.ensures.some c.split_at.result.1.now c.split_at.ensures.back

pub returns-in_default-read_pdu_head-clause-whole : goal.returns-in_default-read_pdu_head-clause-whole
returns-in_default-read_pdu_head-clause-whole c =
    let npci = c.in-Some-read_npci.npci in
    let reach = reach_addresses c.args.octets.now npci c.in-Some-read_npci.ensures.some c.split_at.result.1.now c.split_at.ensures.back c.in_default-read_pdu_head.ensures in
    whole_known c.args.octets.now (known.Addresses npci) reach

pub returns-in_default-read_pdu_head-clause-reach : goal.returns-in_default-read_pdu_head-clause-reach
returns-in_default-read_pdu_head-clause-reach c = reach_addresses c.args.octets.now c.in-Some-read_npci.npci c.in-Some-read_npci.ensures.some c.split_at.result.1.now c.split_at.ensures.back c.in_default-read_pdu_head.ensures

pub returns-clause-agrees : goal.returns-clause-agrees
returns-clause-agrees c =
    let npci = c.in-Some-read_npci.npci in
    pdu_known c.args.octets.now npci c.in-Some-read_npci.ensures.some c.split_at.result.1.now c.split_at.ensures.back c.in-Some-read_pdu_head.head (npci.size + c.size.result) c.in-Some-read_pdu_head.ensures
    (ap (λ (n : ℕ). npci.size + n) c.size.ensures)

pub returns-clause-reach : goal.returns-clause-reach
returns-clause-reach c = reach_pdu c.args.octets.now c.in-Some-read_npci.npci c.in-Some-read_npci.ensures.some c.split_at.result.1.now c.split_at.ensures.back c.in-Some-read_pdu_head.head c.size.result c.in-Some-read_pdu_head.ensures
