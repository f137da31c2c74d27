use Rattle.std.proofs.Common.{◌∙◌, arith, length-drop}
use Rattle.std.proofs.lemmas.List.{take_all}
use Rattle.bac_numbers.specs.Laws.Signed.{significant_signed_is}
use Rattle.bac_tag.specs.Laws.Octets.{octets_at}
use Rattle.bac_numbers.proofs.signed_numbers.significant_signed.Goals as goal

pub returns : goal.returns
returns c =
    take_all _ _ (omega (arith, length-drop c.signs_in_front.result c.args.octets.now))
    ∙ significant_signed_is c.args.octets.now c.signs_in_front.result (octets_at _ (λ k. omega (arith, c.type_inv.octets k)))
    c.requires.1 c.signs_in_front.ensures.within c.signs_in_front.ensures.signs c.signs_in_front.ensures.other
