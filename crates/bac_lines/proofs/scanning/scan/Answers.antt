use Rattle.std.specs.Prelude.{◌≡◌, ◌-◌, length, take, drop, refl}
use Rattle.std.proofs.Common.{◌∙◌, sym, arith}
use Rattle.std.proofs.lemmas.List.{take_rest, length-drop}
use Rattle.bac_fields.specs.Line.{form_of, begins, printed_from}
use Rattle.bac_lines.proofs.ScanLemmas.{pair_is, not_both}
use Rattle.bac_lines.proofs.PartwayLemmas.{next_field, follows, scan_goes_on, scan_ends, scanned_more, all_scanned}
use Rattle.bac_lines.proofs.scanning.scan.Goals as goal

pub loop-taken-preserved : goal.loop-taken-preserved
loop-taken-preserved c = record {
  within =
      (let rest = length-drop c.loop-taken.taken c.args.line.now in
      let part : length (take (length c.args.line.now - c.loop-taken.taken) (drop c.loop-taken.taken c.args.line.now)) ≡ length (drop c.loop-taken.taken c.args.line.now) = λ i. length (take_rest c.args.line.now c.loop-taken.taken i) in
      let some = (rw c.in-Some.is at c.in_ok-more.ensures.within) in
      omega (arith, some, c.loop-taken.invariant.within, rest, part));
  scanned = λ vs t l.
      let line = c.args.line.now in
      let f = next_field line vs c.loop-taken.first c.loop-taken.taken c.loop-taken.ends.items c.loop-taken.said c.loop-taken-test.true (c.loop-taken.invariant.scanned vs t l) in
      let r = c.in_ok-more.ensures.found f.v f.after (printed_from (begins (form_of f.v.name)) f.rest) f.token (follows f.v f.rest) (take_rest line c.loop-taken.taken ∙ f.is_line) in
      let p = pair_is (sym c.in-Some.is ∙ r.0) in
      scan_goes_on line vs c.loop-taken.first c.in-Some.begins c.loop-taken.taken c.in-Some.more c.loop-taken.ends.items c.add_field.new.ends.items c.loop-taken.said c.add_field.new.said f p.0 p.1 r.1.0 r.1.1;
  printed = scanned_more c.args.line.now c.loop-taken.first c.in-Some.begins c.loop-taken.taken c.in-Some.more c.loop-taken.ends.items c.add_field.new.ends.items c.loop-taken.said c.add_field.new.said c.loop-taken.invariant.within c.loop-taken.invariant.printed
      (rw c.in-Some.is at c.in_ok-more.ensures.sound);
}

pub returns-in-None-clause-found : goal.returns-in-None-clause-found
returns-in-None-clause-found c vs t l =
    let line = c.args.line.now in
    let f = next_field line vs c.loop-taken.first c.loop-taken.taken c.loop-taken.ends.items c.loop-taken.said c.loop-taken-test.true (c.loop-taken.invariant.scanned vs t l) in
    absurd (not_both c.in-None.is (c.in_ok-more.ensures.found f.v f.after (printed_from (begins (form_of f.v.name)) f.rest) f.token (follows f.v f.rest) (take_rest line c.loop-taken.taken ∙ f.is_line)).0)

pub returns-clause-found : goal.returns-clause-found
returns-clause-found c vs t l =
    (refl, scan_ends c.args.line.now vs c.loop-taken.first c.loop-taken.taken c.loop-taken.ends.items c.loop-taken.said (omega (arith, c.loop-taken-test.false)) (c.loop-taken.invariant.scanned vs t l))

pub returns-clause-sound : goal.returns-clause-sound
returns-clause-sound c whole =
    all_scanned c.args.line.now c.loop-taken.first c.loop-taken.taken c.loop-taken.ends.items c.loop-taken.said (omega (arith, c.loop-taken-test.false)) c.loop-taken.invariant.printed
