use Rattle.std.proofs.Common.{◌≡◌, ◌∙◌, true, false, sym, take}
use Rattle.bac_explain.proofs.LineLemmas.{noted, same_octets}
use Rattle.bac_explain.proofs.named_lines.write_note.Goals as goal

pub returns-clause-text : goal.returns-clause-text
returns-clause-text c =
    noted c.write_front.result c.args.own.now c.args.other.now c.args.canonical.now (take c.args.at c.args.out.now.items) (take c.in_ok-end.end c.write_word.new.out.items) c.write_front.new.out.items
    (λ is. absurd (let i : false ≡ true = sym c.if-eq.false ∙ c.eq.ensures ∙ same_octets c.args.own.now c.args.canonical.now is in cc)) c.in_ok-end.ensures.text c.write_front.ensures.text
