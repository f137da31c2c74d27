use Rattle.std.proofs.Common.{◌∙◌, arith}
use Rattle.bac_lines.proofs.Digits.{sign_join}
use Rattle.bac_lines.proofs.BitsAndTexts.{new_coded}
use Rattle.bac_lines.proofs.scanning.strings.add_coded.Goals as goal

pub returns-clause-sound : goal.returns-clause-sound
returns-clause-sound c =
    let added = rw c.in-Some-2.is at c.in_ok-taken.ensures.sound in
    let coded = new_coded c.in-Some.set c.len-start.result c.args.contents.now.items c.add_octets.new.contents.items c.deref.result.now added.0 (c.len-start.ensures ∙ c.args.contents.now.ok.0) c.deref.ensures.value added.1.1.0 c.if-is_plain.ensures in
    (added.0, (omega (arith, c.if-set-gt255.false), (added.1.0, (coded, (added.1.1.0, sign_join c.args.line.now c.in-Some-after_colon.rest.now _ _ _ _ c.in-Some.ensures.sound.1 c.in-Some-after_colon.ensures.some added.1.1.1)))))
