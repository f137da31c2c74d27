use Rattle.std.specs.Prelude.{◌≡◌, ◌*◌, length, refl}
use Rattle.std.proofs.Common.{arith, ◌∙◌, ap}
use Rattle.std.proofs.lemmas.List.{length-take-le}
use Rattle.bac_record.specs.Digits.{hexadecimal}
use Rattle.bac_lines.specs.Scanning.{is_hex}
use Rattle.bac_lines.proofs.Hexes.{hex_length}
use Rattle.bac_lines.proofs.ScanLemmas.{clear_of}
use Rattle.bac_lines.proofs.LinkLemmas.{found_valued, same_pair}
use Rattle.bac_lines.proofs.scanning.values.add_bits_of.Goals as goal

pub returns-in-Some-clause-sound : goal.returns-in-Some-clause-sound
returns-in-Some-clause-sound c = λ bare.
    let read = c.in-Some.ensures.sound in
    let size : 2 * length read.0 ≡ c.args.digits = omega (arith, hex_length read.0, ap length read.1.1.1, length-take-le c.in-Some.taken c.args.line.now c.in-Some.ensures.within, c.if-taken-digits.true) in
    found_valued c.args.name _ _ (λ v. hexadecimal v.contents) c.args.line.now c.args.said.now _ c.add_found.result bare c.add_found.ensures.found c.add_found.ensures.sound
    (read.0, ((refl, (read.1.1.0, (size, read.1.0))), read.1.1.1))

pub returns-in_default-clause-found : goal.returns-in_default-clause-found
returns-in_default-clause-found c = λ v more is bare number size few are ended line.
    let read = c.find_bits.ensures.found v.contents more (omega (arith, size, few)) are (clear_of is_hex refl refl refl more ended) line in
    let taken = (same_pair _ _ _ _ _ c.in-Some.is read).1 in
    absurd (c.if-taken-digits.false (taken ∙ hex_length v.contents ∙ size))
