use Rattle.std.specs.Prelude.{◌+◌, ◌^◌, ◌<◌, ℕ, false, length, slice_index}
use Rattle.std.proofs.Common.{rules, arith}
use Rattle.bac_npdu_parts.specs.Frames.{SpellsBody, apdu}
use Rattle.bac_npdu_parts.specs.HeadsRead.{control_octet}
use Rattle.bac_npdu_parts.proofs.BodyLemmas.{apdu_found, apdu_refused}
use Rattle.bac_npdu_parts.proofs.FrameReadLemmas.{within}
use Rattle.bac_npdu.proofs.StepLemmas.{control_mark, front_refused, front_found}
use Rattle.bac_npdu.proofs.local.visit_local.Goals as goal

pub split_at-requires : goal.split_at-requires
split_at-requires g c = omega (arith, c.requires.read.size)

pub returns-in-Ok : goal.returns-in-Ok
returns-in-Ok g c =
    let b = c.args.octets.now in
    let small : (k : ℕ) → slice_index b k < 256 = λ k. omega (arith, c.type_inv.octets k) in
    let front = c.args.front.now in
    let m = c.in-Ok.ensures.made in
    let fits : front.size + length c.split_at.result.1.now < 2 ^ 64 = search rules in
    let found = apdu_found m.value _ m.mark m.spelled m.marked in
    let control = control_mark (control_octet front.control) in
    record {
      value = m.value;
      mark = m.mark;
      spelled = λ f of. (front_found b small front c.requires.read false c.requires.apdu _ c.split_at.ensures.back m.value f control.0 m.mark found control.1 of).0;
      marked = λ f first of mark. (front_found b small front c.requires.read false c.requires.apdu _ c.split_at.ensures.back m.value f first m.mark found mark of).1;
      behind = within SpellsBody (apdu m.value) _ front.size m.mark fits found.marked;
      made_of = m.made_of;
    }

pub returns-in-Err : goal.returns-in-Err
returns-in-Err g c =
    let b = c.args.octets.now in
    let small : (k : ℕ) → slice_index b k < 256 = λ k. omega (arith, c.type_inv.octets k) in
    let e = c.in-Err.ensures in
    let moved = c.behind_head.ensures in
    front_refused b small c.args.front.now c.requires.read false c.requires.apdu _ c.split_at.ensures.back c.in-Err.refusal c.behind_head.result (apdu_refused _ _ e.refused e.memory e.types e.windows e.reasons) moved.memory moved.moved
