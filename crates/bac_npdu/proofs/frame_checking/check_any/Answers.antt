use Rattle.std.specs.Prelude.{◌≢◌, ◌+◌, ◌^◌, ◌<◌, ℕ, length, slice_index}
use Rattle.std.proofs.Common.{rules, arith}
use Rattle.bac_npdu_parts.specs.FrameHeads.{address_read, destination_read}
use Rattle.bac_npdu_parts.specs.Frames.{SpellsBody}
use Rattle.bac_npdu_parts.specs.HeadsRead.{control_octet}
use Rattle.bac_npdu_parts.proofs.FrameReadLemmas.{behind_refused, behind_checked, within}
use Rattle.bac_npdu.proofs.frame_checking.check_any.Goals as goal

pub returns-in-Ok : goal.returns-in-Ok
returns-in-Ok c =
    let b = c.args.octets.now in
    let small : (k : ℕ) → slice_index b k < 256 = λ k. omega (arith, c.type_inv.octets k) in
    let read = c.in_ok-read.read in
    let h = c.in_ok-read.ensures in
    let (body, found) = c.in-Ok.ensures in
    let fits : read.size + length c.split_at.result.1.now < 2 ^ 64 = search rules in
    behind_checked b small (control_octet read.control) (destination_read read.destination) (address_read read.source) h.rest h.is_head read.size h.size c.has_message.result c.has_message.ensures _ c.split_at.ensures.back
    body c.mark_of.result c.in-Ok.mark c.joined.result found c.mark_of.ensures (c.joined.ensures (within SpellsBody body _ read.size c.in-Ok.mark fits found.marked))

pub returns-in-Err : goal.returns-in-Err
returns-in-Err c =
    let b = c.args.octets.now in
    let small : (k : ℕ) → slice_index b k < 256 = λ k. omega (arith, c.type_inv.octets k) in
    let read = c.in_ok-read.read in
    let h = c.in_ok-read.ensures in
    let (refused, other) = c.in-Err.ensures in
    rw c.behind.ensures (behind_refused b small (control_octet read.control) (destination_read read.destination) (address_read read.source) h.rest h.is_head read.size h.size c.has_message.result c.has_message.ensures _ c.split_at.ensures.back c.in-Err.refusal refused other, other)
