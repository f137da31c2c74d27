use Rattle.bac_tag.proofs.WritingLemmas.{lvt_of_long}
use Rattle.bac_tag.proofs.writing.length_lvt.Goals as goal

pub returns-else-len-lt5-clause-lvt : goal.returns-else-len-lt5-clause-lvt
returns-else-len-lt5-clause-lvt c = lvt_of_long c.args.len c.if-len-lt5.false
