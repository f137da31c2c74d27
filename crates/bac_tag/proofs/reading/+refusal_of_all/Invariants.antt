use Rattle.std.proofs.Common.{length}
use Rattle.bac_tag.proofs.reading.+refusal_of_all.Given as goal

abbrev pub decreases-refusal_of_all : goal.decreases-refusal_of_all
decreases-refusal_of_all l = length l.expected.now
