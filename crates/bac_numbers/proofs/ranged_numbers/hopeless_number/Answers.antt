use Rattle.bac_numbers.specs.Laws.Numbers.{low_fits}
use Rattle.bac_numbers.proofs.ranged_numbers.hopeless_number.Goals as goal

pub first_hopeless-requires-clause-room : goal.first_hopeless-requires-clause-room
first_hopeless-requires-clause-room c = low_fits c.args.low c.args.size c.requires.room c.requires.size
