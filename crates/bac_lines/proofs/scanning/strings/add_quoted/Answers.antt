use Rattle.std.proofs.Common.{◌≡◌, ◌++◌, ◌∷◌, [], ◌∙◌, ℕ, Some, true, false, length, take, ap, sym, arith}
use Rattle.std.specs.List.{position}
use Rattle.std.specs.Str.{is_utf8}
use Rattle.std.proofs.lemmas.List.{take_more}
use Rattle.bac_tag.specs.Laws.Octets.{octets_take}
use Rattle.bac_lines.proofs.BitsAndTexts.{not_plain, mark_after, quoted_at, plain_before, octets_known}
use Rattle.bac_lines.proofs.scanning.strings.add_quoted.Goals as goal

pub returns-in_default-clause-found : goal.returns-in_default-clause-found
returns-in_default-clause-found c octets more run utf8 is =
    absurd (c.in_default.not-Some (length octets) (c.plain_end.ensures ∙ ap (position not_plain) is ∙ mark_after octets more run))

pub returns-then-line-count-ne34-clause-found : goal.returns-then-line-count-ne34-clause-found
returns-then-line-count-ne34-clause-found c octets more run utf8 is =
    absurd (c.if-line-count-ne34.true (quoted_at c.args.line.now octets more c.in-Some.count c.in-Some.ensures run is).2)

pub returns-then-not-is_utf8-clause-found : goal.returns-then-not-is_utf8-clause-found
returns-then-not-is_utf8-clause-found c octets more run utf8 is =
    let at = quoted_at c.args.line.now octets more c.in-Some.count c.in-Some.ensures run is in
    let both : false ≡ true = c.if-not-is_utf8.ensures ∙ ap is_utf8 at.1 ∙ utf8 in
    absurd (cc)

pub returns-in-Ok-clause-found : goal.returns-in-Ok-clause-found
returns-in-Ok-clause-found c octets more run utf8 is =
    let at = quoted_at c.args.line.now octets more c.in-Some.count c.in-Some.ensures run is in
    (ap (λ (n : ℕ). Some n) at.0, c.in-Ok.ensures.items ∙ ap (λ l. c.args.contents.now.items ++ l) at.1)

pub returns-in-Ok-clause-sound : goal.returns-in-Ok-clause-sound
returns-in-Ok-clause-sound c =
    let plain = plain_before c.args.line.now c.in-Some.count c.in-Some.ensures in
    (_, (plain.1, (sym c.if-not-is_utf8.ensures, (octets_take c.in-Some.count c.args.line.now (octets_known c.args.line.now (λ i. omega (arith, c.type_inv.line i))), (c.in-Ok.ensures.items, take_more c.args.line.now c.in-Some.count 0 plain.0 ∙ ap (λ (x : ℕ). take c.in-Some.count c.args.line.now ++ x ∷ []) c.if-line-count-ne34.false)))))
