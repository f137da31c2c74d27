use Rattle.std.proofs.Common.{arith, ℕ, List, ◌++◌, take, ap, ◌∙◌}
use Rattle.bac_record.proofs.DigitLemmas.{few_digits, cut_behind}
use Rattle.bac_record.proofs.digits.put_front.Goals as goal

pub returns-clause-digits : goal.returns-clause-digits
returns-clause-digits c =
    let skipped = c.leading_zeros-zeros.result in
    cut_behind c.put_octets.new.room c.args.room.now c.without_first-digits.result c.args.at skipped c.put_octets.result (omega (arith, c.leading_zeros-zeros.ensures.most)) (omega (arith, c.requires.room)) (omega (arith, c.put_octets.ensures.end, c.without_first-digits.type_inv)) c.put_octets.ensures.text
    ∙ ap (λ (l : List ℕ). take c.args.at c.args.room.now ++ l) (c.without_first-digits.ensures
    ∙ few_digits c.args.number skipped _ _ _ _ c.requires.few c.pair-thousands.ensures.tens c.pair-thousands.ensures.ones c.pair-tens.ensures.tens c.pair-tens.ensures.ones c.leading_zeros-zeros.ensures.one c.leading_zeros-zeros.ensures.two c.leading_zeros-zeros.ensures.three c.leading_zeros-zeros.ensures.four)
