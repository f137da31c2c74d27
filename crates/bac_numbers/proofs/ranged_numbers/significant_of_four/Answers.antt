use Rattle.std.proofs.Common.{◌∙◌, ap, arith}
use Rattle.std.proofs.lemmas.List.{take_rest}
use Rattle.bac_tag.specs.Laws.Octets.{octets_at}
use Rattle.bac_numbers.specs.Numbers.{least_number}
use Rattle.bac_numbers.specs.Laws.Numbers.{last_of}
use Rattle.bac_numbers.proofs.ranged_numbers.significant_of_four.Goals as goal

pub returns : goal.returns
returns c =
    let octets = c.args.octets.now in
    (rw take_rest at c.significant.ensures) ∙ ap least_number (last_of octets c.saturating_sub.result (octets_at octets (λ k. omega (arith, c.type_inv.octets k))) c.saturating_sub.ensures c.requires.below)
