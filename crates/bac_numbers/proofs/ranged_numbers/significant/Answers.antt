use Rattle.std.proofs.Common.{◌∙◌, arith, length-drop}
use Rattle.std.proofs.lemmas.List.{take_all}
use Rattle.bac_tag.specs.Laws.Octets.{octets_at}
use Rattle.bac_numbers.specs.Laws.Numbers.{significant_is}
use Rattle.bac_numbers.proofs.ranged_numbers.significant.Goals as goal

pub returns : goal.returns
returns c =
    take_all _ _ (omega (arith, length-drop c.zeros_in_front.result c.args.octets.now))
    ∙ significant_is c.args.octets.now c.zeros_in_front.result (octets_at _ (λ k. omega (arith, c.type_inv.octets k)))
    c.requires.1 c.zeros_in_front.ensures.within c.zeros_in_front.ensures.zeros c.zeros_in_front.ensures.other
