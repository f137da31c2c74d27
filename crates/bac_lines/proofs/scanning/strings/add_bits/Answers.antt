use Rattle.std.proofs.Common.{arith}
use Rattle.bac_lines.proofs.BitsAndTexts.{one_octet_more, all_bits, bits_sound}
use Rattle.bac_lines.proofs.scanning.strings.add_bits.Goals as goal

pub loop-index-preserved : goal.loop-index-preserved
loop-index-preserved c = one_octet_more _ _ _ _ c.loop-index.index c.octet_at.result c.loop-index.invariant c.octet_at.ensures c.in_ok-add_octet.ensures.added

pub returns-clause-found : goal.returns-clause-found
returns-clause-found c = all_bits c.args.line.now _ _ c.bits_in-count.result c.loop-index.index c.bits_in-count.ensures (omega (arith, c.loop-index-test.false, c.loop-index.auto.index-end, c.div_ceil-index-end.ensures)) c.loop-index.invariant

pub returns-clause-sound : goal.returns-clause-sound
returns-clause-sound c =
    let sound = bits_sound c.args.line.now _ _ c.bits_in-count.result c.loop-index.index c.bits_in-count.ensures (omega (arith, c.loop-index-test.false, c.loop-index.auto.index-end, c.div_ceil-index-end.ensures)) c.loop-index.invariant in
    (sound.0, (sound.1, (sound.2, sound.3)))
