use Rattle.std.proofs.Common.{subst}
use Rattle.bac_data.specs.HeldLists.{IsSound}
use Rattle.bac_data.proofs.held.Held.octets.Goals as goal

pub shared_ref_as_front-result : goal.shared_ref_as_front-result
shared_ref_as_front-result c = let s = subst IsSound c.in-Short.is c.requires in s.1
