use Rattle.std.proofs.Common.{◌≡◌, ◌+◌, ◌∙◌, ℕ, Option, None, Some, length, ap, arith, refl, unwrap_or}
use Rattle.bac_lines.specs.Scanning.{text_tail}
use Rattle.bac_lines.proofs.BitsAndTexts.{found_pair, text_is_quoted, quoted_sound, coded_sound}
use Rattle.bac_lines.proofs.scanning.strings.add_text.Goals as goal

pub returns-in-Some-2-clause-found : goal.returns-in-Some-2-clause-found
returns-in-Some-2-clause-found c text more small are ends is =
    let q = text_is_quoted c.args.line.now c.in-Some.quoted.now c.in-Some.ensures.some text more small is in
    let found = (rw c.in-Some-2.is at c.in_ok-count-in-Some.ensures.found) text.octets more q.plain q.utf8 q.is in
    let count : c.in-Some-2.count ≡ length text.octets = ap (λ (o : Option ℕ). unwrap_or o 0) found.0 in
    let size : c.in-Some-2.count + 3 ≡ length (text_tail text) = ap (λ (n : ℕ). n + 3) count ∙ q.size in
    (found_pair 0 text.set (c.in-Some-2.count + 3) (length (text_tail text)) q.set size, found.1)

pub returns-in-Some-2-clause-sound : goal.returns-in-Some-2-clause-sound
returns-in-Some-2-clause-sound c =
    let s = rw c.in-Some-2.is at c.in_ok-count-in-Some.ensures.sound in
    (record { set = 0; octets = s.0 }, (refl, (omega arith, (s.1.1.1.0, (s.1.1.1.1.0, quoted_sound c.args.line.now c.in-Some.quoted.now s.0 c.in-Some-2.count c.in-Some.ensures.some s.1.0 s.1.1.0 s.1.1.1.1.1)))))

pub returns-in-None-2-clause-found : goal.returns-in-None-2-clause-found
returns-in-None-2-clause-found c text more small are ends is =
    let q = text_is_quoted c.args.line.now c.in-Some.quoted.now c.in-Some.ensures.some text more small is in
    let found = (rw c.in-None-2.is at c.in_ok-count-in-Some.ensures.found) text.octets more q.plain q.utf8 q.is in
    let none : ◌≡◌ {A = Option ℕ} None (Some (length text.octets)) = found.0 in
    absurd (cc)

pub returns-in-None-clause-sound : goal.returns-in-None-clause-sound
returns-in-None-clause-sound c = coded_sound c.args.line.now c.args.contents.now.items c.add_coded.new.contents.items c.add_coded.result c.add_coded.ensures.sound
