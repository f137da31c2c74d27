use Rattle.bac_data.proofs.StandingLeast.{primitive_stands}
use Rattle.bac_data.proofs.items.next_canonical.Goals as goal

pub returns-in-Some : goal.returns-in-Some
returns-in-Some c = primitive_stands c.args.room c.args.closing c.args.octets.now c.in-Some.found.0 c.in-Some.found.1 c.in-Some.ensures.found c.in-Some.ensures.within
