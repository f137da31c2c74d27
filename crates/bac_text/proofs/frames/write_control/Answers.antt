use Rattle.std.proofs.Common.{◌≡◌, ◌+◌, [], ◌∷◌, ap, sym, ◌∙◌}
use Rattle.std.proofs.lemmas.Fmt.{decimal_digit}
use Rattle.bac_text.specs.Words.{truth}
use Rattle.bac_text.proofs.TextLemmas.{truth_digit}
use Rattle.bac_text.proofs.frames.write_control.Goals as goal

pub returns-clause-text : goal.returns-clause-text
returns-clause-text c =
    let reply : truth c.args.reply ≡ (48 + c.from.result) ∷ [] = truth_digit c.args.reply ∙ ap (λ n. (48 + n) ∷ []) (sym c.from.ensures) in
    rw (decimal_digit c.args.priority c.requires.priority, reply) c.write_word.ensures.text
