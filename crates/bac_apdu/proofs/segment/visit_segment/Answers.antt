use Rattle.std.specs.Prelude.{◌≡◌, ◌-◌, length, drop, refl}
use Rattle.std.proofs.Common.{arith, ◌∙◌, length-drop}
use Rattle.std.proofs.lemmas.List.{take_all}
use Rattle.bac_apdu.proofs.StartLemmas.{started}
use Rattle.bac_apdu.proofs.segment.visit_segment.Goals as goal

pub returns-in_default : goal.returns-in_default
returns-in_default g c = rw c.out_of_memory.ensures (c.requires.memory, refl)

pub returns : goal.returns
returns g c =
    let b = c.args.octets.now in
    let size = c.args.size in
    let piece : c.in-Ok.piece.items ≡ drop size b = c.in-Ok.ensures.items ∙ take_all (length b - size) (drop size b) (omega (arith, length-drop size b)) in
    let p = started b size c.args.start c.in-Ok.piece.items c.requires piece in
    record { value = _; mark = _; spelled = p.0; marked = p.1; made_of = c.visit.ensures }
