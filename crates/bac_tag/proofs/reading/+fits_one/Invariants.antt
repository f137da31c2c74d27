use Rattle.std.proofs.Common.{length}
use Rattle.bac_tag.proofs.reading.+fits_one.Given as goal

abbrev pub decreases-fits_one : goal.decreases-fits_one
decreases-fits_one l = length l.expected.now
