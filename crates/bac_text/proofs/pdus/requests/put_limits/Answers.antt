use Rattle.std.proofs.Common.{◌≡◌, ◌+◌, [], ◌∷◌, ap, sym, ◌∙◌}
use Rattle.std.proofs.lemmas.Fmt.{decimal_digit}
use Rattle.bac_text.specs.Words.{truth}
use Rattle.bac_text.proofs.TextLemmas.{truth_digit}
use Rattle.bac_text.proofs.pdus.requests.put_limits.Goals as goal

pub returns-clause-text : goal.returns-clause-text
returns-clause-text c =
    let sa : truth c.args.sa ≡ (48 + c.from.result) ∷ [] = truth_digit c.args.sa ∙ ap (λ n. (48 + n) ∷ []) (sym c.from.ensures) in
    rw (decimal_digit c.args.segs c.requires.few, sa) c.put_field.ensures.text
