use Rattle.bac_record.proofs.PairLemmas.{pair_tens, pair_ones}
use Rattle.bac_record.proofs.digits.pair.Goals as goal

pub returns-clause-tens : goal.returns-clause-tens
returns-clause-tens c = pair_tens c.args.number c.requires

pub returns-clause-ones : goal.returns-clause-ones
returns-clause-ones c = pair_ones c.args.number c.requires
