use Rattle.std.specs.Prelude.{◌≡◌, ◌≢◌, ◌+◌, ◌^◌, ◌<◌, ℕ, length, slice_index}
use Rattle.std.proofs.Common.{rules, arith}
use Rattle.bac_tag.specs.declared.refusals.Why.TheVariants.{OutOfMemory}
use Rattle.bac_npdu_parts.specs.FrameHeads.{address_read, destination_read}
use Rattle.bac_npdu_parts.specs.Frames.{SpellsBody}
use Rattle.bac_npdu_parts.specs.HeadsRead.{control_octet}
use Rattle.bac_npdu_parts.proofs.FrameReadLemmas.{destination_short, source_short, behind_refused, behind_memory, behind_found, within}
use Rattle.bac_npdu.proofs.frame_decoding.visit_any.Goals as goal

pub head-head-requires-clause-destination : goal.head-head-requires-clause-destination
head-head-requires-clause-destination g c =
    let b = c.args.octets.now in
    let small : (k : ℕ) → slice_index b k < 256 = λ k. omega (arith, c.type_inv.octets k) in
    let read = c.in_ok-read.read in
    let h = c.in_ok-read.ensures in
    destination_short b small (control_octet read.control) (destination_read read.destination) (address_read read.source) h.rest h.is_head

pub head-head-requires-clause-source : goal.head-head-requires-clause-source
head-head-requires-clause-source g c =
    let b = c.args.octets.now in
    let small : (k : ℕ) → slice_index b k < 256 = λ k. omega (arith, c.type_inv.octets k) in
    let read = c.in_ok-read.read in
    let h = c.in_ok-read.ensures in
    source_short b small (control_octet read.control) (destination_read read.destination) (address_read read.source) h.rest h.is_head

pub returns-in-Ok : goal.returns-in-Ok
returns-in-Ok g c =
    let b = c.args.octets.now in
    let small : (k : ℕ) → slice_index b k < 256 = λ k. omega (arith, c.type_inv.octets k) in
    let read = c.in_ok-read.read in
    let h = c.in_ok-read.ensures in
    let m = c.in-Ok.ensures in
    let says = c.head-head.ensures in
    let fits : read.size + length c.split_at.result.1.now < 2 ^ 64 = search rules in
    let p = behind_found b small (control_octet read.control) (destination_read read.destination) (address_read read.source) h.rest h.is_head read.size h.size c.has_message.result c.has_message.ensures _ c.split_at.ensures.back
    c.head-head.result m.body c.mark_of.result m.mark m.found c.mark_of.ensures says.reply says.priority says.destination says.source in
    record { value = _; mark = _; spelled = p.0; marked = p.1; made_of = m.made_of (within SpellsBody m.body _ read.size m.mark fits m.found.marked) }

pub returns-in-Err : goal.returns-in-Err
returns-in-Err g c =
    let b = c.args.octets.now in
    let small : (k : ℕ) → slice_index b k < 256 = λ k. omega (arith, c.type_inv.octets k) in
    let read = c.in_ok-read.read in
    let h = c.in_ok-read.ensures in
    let why : c.in-Err.refusal.why ≡ OutOfMemory = search (rules, c.if-eq.ensures) in
    (behind_memory b small (control_octet read.control) (destination_read read.destination) (address_read read.source) h.rest h.is_head read.size h.size c.has_message.result c.has_message.ensures _ c.split_at.ensures.back c.in-Err.refusal c.in-Err.ensures.0 why, c.in-Err.ensures.1)

pub returns-in-Err-2 : goal.returns-in-Err-2
returns-in-Err-2 g c =
    let b = c.args.octets.now in
    let small : (k : ℕ) → slice_index b k < 256 = λ k. omega (arith, c.type_inv.octets k) in
    let read = c.in_ok-read.read in
    let h = c.in_ok-read.ensures in
    let why : c.in-Err.refusal.why ≢ OutOfMemory = search (rules, c.if-eq.ensures) in
    rw c.behind.ensures (behind_refused b small (control_octet read.control) (destination_read read.destination) (address_read read.source) h.rest h.is_head read.size h.size c.has_message.result c.has_message.ensures _ c.split_at.ensures.back c.in-Err.refusal c.in-Err.ensures.0 why, c.in-Err.ensures.1)
