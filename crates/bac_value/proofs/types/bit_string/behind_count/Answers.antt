use Rattle.bac_value.specs.Laws.Bits.{least_behind}
use Rattle.bac_value.proofs.types.bit_string.behind_count.Goals as goal

pub returns : goal.returns
returns c = least_behind c.args.contents.now c.requires.least
