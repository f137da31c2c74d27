use Rattle.std.proofs.Common.{take, subst, arith}
use Rattle.std.proofs.lemmas.List.{take_rest}
use Rattle.bac_pack.specs.Packing.{EndsAt, Adds}
use Rattle.bac_pack.proofs.PackingLemmas.{packs_none, packs_more}
use Rattle.bac_pack.proofs.packers.Packer.add_whole.Goals as goal

pub loop-count-init : goal.loop-count-init
loop-count-init g c = record {
  packed = packs_none g.L.LineForm.packs g.L.LineForm.LONGEST c.args.octets.now c.args.self.now c.requires.lines;
  within = omega arith;
  known = c.requires.passed;
}

pub loop-count-preserved : goal.loop-count-preserved
loop-count-preserved g c =
    let octets = c.args.octets.now in
    let old = c.loop-count.self in
    let new = c.add_next.new.self in
    let rest = take_rest octets c.loop-count.taken in
    let added = rw c.in-Ok-Some.field-0-is at c.in-Ok-Some.ensures.added in
    let found = subst (λ l. EndsAt l added.0) rest added.1 in
    let adds = subst (λ l. Adds g.L.LineForm.packs (take added.0 l) old new) rest added.4 in
    let packed = packs_more g.L.LineForm.packs g.L.LineForm.LONGEST octets c.loop-count.taken added.0 c.in-Ok-Some.count c.args.self.now old new c.loop-count.invariant.packed found c.requires.room added.2 added.3 adds in
    record { packed = packed; within = omega (arith, packed.within); known = tt }
