use Rattle.std.proofs.Common.{length}
use Rattle.bac_explain.proofs.heads.+put_octets.Given as goal

abbrev pub decreases-put_octets : goal.decreases-put_octets
decreases-put_octets l = length l.kinds.now
