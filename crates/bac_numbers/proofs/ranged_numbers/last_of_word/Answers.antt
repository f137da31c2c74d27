use Rattle.std.proofs.Common.{take, ap, refl, ◌∙◌}
use Rattle.bac_numbers.specs.Laws.Numbers.{front_of_word}
use Rattle.bac_numbers.proofs.ranged_numbers.last_of_word.Goals as goal

pub returns : goal.returns
returns c = ap (take c.args.count) c.to_be_bytes.ensures ∙ front_of_word c.args.number c.args.count _ c.ranges.number.fits c.requires.some c.requires.most refl
