use Rattle.std.specs.Prelude.{◌++◌, length}
use Rattle.std.proofs.Common.{◌∙◌, sym, ap, subst, inl, inr}
use Rattle.bac_fields.specs.Line.{Form, form_of, shown, begins}
use Rattle.bac_lines.specs.Scanning.{TokenIn, is_decimal}
use Rattle.bac_lines.specs.Found.{by_parenthesis, by_bracket, sort_of, IsAdded}
use Rattle.bac_lines.proofs.ScanLemmas.{first_is, none_is}
use Rattle.bac_lines.proofs.WordLemmas.{head_is, not_nil}
use Rattle.bac_lines.proofs.StartLemmas.{shown_begins, sort_40, sort_91, sort_word, form_with}
use Rattle.bac_lines.proofs.scanning.add_shown.Goals as goal

pub returns-in_default-clause-found : goal.returns-in_default-clause-found
returns-in_default-clause-found c v after more n t b l =
    let begun = shown_begins (form_of v.name) c.args.ends.now.items v after more t in
    absurd (not_nil (sym (none_is c.args.line.now c.in_default.ensures.value) ∙ l ∙ begun.is))

pub returns-then-octet-eq40-clause-found : goal.returns-then-octet-eq40-clause-found
returns-then-octet-eq40-clause-found c v after more n t b l =
    let form = form_of v.name in
    let begun = shown_begins form c.args.ends.now.items v after more t in
    let first = first_is c.args.line.now c.in-Some.octet.now c.in-Some.ensures.value in
    let same = head_is (sym first.1 ∙ l ∙ begun.is) in
    let k = form_with by_parenthesis form (sort_40 (sort_of form) begun.first (sym same ∙ c.if-octet-eq40.true) begun.looks) in
    subst (λ (f : Form). IsAdded v after (length (shown f v)) c.args.said.now c.add_item.new.said c.add_item.new.ends.items c.add_item.result) (sym k)
    (c.add_item.ensures.found v after k (subst (λ (f : Form). TokenIn f c.args.ends.now.items v after) k t))

pub returns-then-octet-eq91-clause-found : goal.returns-then-octet-eq91-clause-found
returns-then-octet-eq91-clause-found c v after more n t b l =
    let form = form_of v.name in
    let begun = shown_begins form c.args.ends.now.items v after more t in
    let first = first_is c.args.line.now c.in-Some.octet.now c.in-Some.ensures.value in
    let same = head_is (sym first.1 ∙ l ∙ begun.is) in
    let at = λ (f : Form). IsAdded v after (length (shown f v)) c.args.said.now c.add_tagged.new.said c.add_tagged.new.ends.items c.add_tagged.result in
    elim (form_with by_bracket form (sort_91 (sort_of form) begun.first (sym same ∙ c.if-octet-eq91.true) begun.looks)) [
      | inl k ↦ subst at (sym k) (c.add_tagged.ensures.group v after more k (subst (λ (f : Form). TokenIn f c.args.ends.now.items v after) k t) (l ∙ ap (λ (f : Form). shown f v ++ more) k))
      | inr k ↦ subst at (sym k)
          (c.add_tagged.ensures.context v after more k (subst (λ (f : Form). TokenIn f c.args.ends.now.items v after) k t) (b (ap begins k)) (l ∙ ap (λ (f : Form). shown f v ++ more) k))
    ]

pub returns-clause-found : goal.returns-clause-found
returns-clause-found c v after more n t b l =
    let form = form_of v.name in
    let begun = shown_begins form c.args.ends.now.items v after more t in
    let first = first_is c.args.line.now c.in-Some.octet.now c.in-Some.ensures.value in
    let same = head_is (sym first.1 ∙ l ∙ begun.is) in
    let s = sort_word (sort_of form) begun.first (λ e. c.if-octet-eq40.false (same ∙ e)) (λ e. c.if-octet-eq91.false (same ∙ e)) (ap is_decimal (sym same) ∙ sym c.if-is_decimal.ensures) n begun.looks in
    c.add_worded.ensures.found v after more s t b l

pub returns-then-is_decimal-clause-sound : goal.returns-then-is_decimal-clause-sound
returns-then-is_decimal-clause-sound c = c.add_network.ensures.sound c.args.ends.now.items
