use Rattle.std.specs.Prelude.{◌≡◌, ◌+◌, ◌^◌, ◌<◌, ℕ, Option, length, slice_index}
use Rattle.std.proofs.Common.{sym, subst, rules, arith}
use Rattle.bac_tag.specs.Octets.{joined_mark}
use Rattle.bac_tag.specs.Spelling.{HasMark}
use Rattle.bac_npdu_parts.specs.FrameHeads.{address_read, destination_read, frame_with}
use Rattle.bac_npdu_parts.specs.Frames.{FrameValue, SpellsBody, SpellsFrame, body_value}
use Rattle.bac_npdu_parts.specs.HeadsRead.{control_octet}
use Rattle.bac_npdu_parts.proofs.FrameReadLemmas.{destination_short, source_short, behind_found, within, kept_memory}
use Rattle.bac_npdu.proofs.StepLemmas.{control_mark, front_refused}
use Rattle.bac_npdu.proofs.frame_decoding.decode_any.Goals as goal

pub head-head-requires-clause-destination : goal.head-head-requires-clause-destination
head-head-requires-clause-destination c =
    let small : (k : ℕ) → slice_index c.args.octets.now k < 256 = λ k. omega (arith, c.type_inv.octets k) in
    let front = c.in_ok-front.front in
    let h = c.in_ok-front.ensures in
    destination_short c.args.octets.now small (control_octet front.control) (destination_read front.destination) (address_read front.source) h.rest h.is_head

pub head-head-requires-clause-source : goal.head-head-requires-clause-source
head-head-requires-clause-source c =
    let small : (k : ℕ) → slice_index c.args.octets.now k < 256 = λ k. omega (arith, c.type_inv.octets k) in
    let front = c.in_ok-front.front in
    let h = c.in_ok-front.ensures in
    source_short c.args.octets.now small (control_octet front.control) (destination_read front.destination) (address_read front.source) h.rest h.is_head

pub returns-in-Err : goal.returns-in-Err
returns-in-Err c =
    let b = c.args.octets.now in
    let small : (k : ℕ) → slice_index b k < 256 = λ k. omega (arith, c.type_inv.octets k) in
    let moved = c.behind_head.ensures in
    front_refused b small c.in_ok-front.front c.in_ok-front.ensures c.has_message.result c.has_message.ensures _ c.split_at.ensures.back c.in-Err.refusal c.behind_head.result c.in-Err.ensures moved.memory moved.moved

pub returns-in-Err-frame : goal.returns-in-Err-frame
returns-in-Err-frame c =
    let b = c.args.octets.now in
    let small : (k : ℕ) → slice_index b k < 256 = λ k. omega (arith, c.type_inv.octets k) in
    let front = c.in_ok-front.front in
    let h = c.in_ok-front.ensures in
    let head = c.head-head.result in
    let says = c.head-head.ensures in
    let value = body_value c.in-Ok.found.0 in
    let mark = control_mark (control_octet front.control) in
    let p = behind_found b small (control_octet front.control) (destination_read front.destination) (address_read front.source) h.rest h.is_head front.size h.size c.has_message.result c.has_message.ensures _ c.split_at.ensures.back
    head value mark.0 c.in-Ok.found.1 c.in-Ok.ensures mark.1 says.reply says.priority says.destination says.source in
    rw c.out_of_memory.ensures (kept_memory b small (frame_with head value) p.0 c.in-Err-frame.ensures.memory)

pub returns-in-Ok-frame : goal.returns-in-Ok-frame
returns-in-Ok-frame c =
    let b = c.args.octets.now in
    let small : (k : ℕ) → slice_index b k < 256 = λ k. omega (arith, c.type_inv.octets k) in
    let front = c.in_ok-front.front in
    let h = c.in_ok-front.ensures in
    let head = c.head-head.result in
    let says = c.head-head.ensures in
    let value = body_value c.in-Ok.found.0 in
    let p = behind_found b small (control_octet front.control) (destination_read front.destination) (address_read front.source) h.rest h.is_head front.size h.size c.has_message.result c.has_message.ensures _ c.split_at.ensures.back
    head value c.mark_of.result c.in-Ok.found.1 c.in-Ok.ensures c.mark_of.ensures says.reply says.priority says.destination says.source in
    let fits : front.size + length c.split_at.result.1.now < 2 ^ 64 = search rules in
    let mark : joined_mark c.mark_of.result front.size c.in-Ok.found.1 ≡ c.joined.result = search (rules, c.joined.ensures, within SpellsBody value _ front.size c.in-Ok.found.1 fits c.in-Ok.ensures.marked) in
    let same = sym c.in-Ok-frame.ensures.value in
    record {
      spelled = subst (λ (f : FrameValue). SpellsFrame f b) same p.0;
      marked = subst (λ (f : FrameValue). HasMark (SpellsFrame f) b c.joined.result) same (subst (λ (o : Option ℕ). HasMark (SpellsFrame (frame_with head value)) b o) mark p.1);
    }
