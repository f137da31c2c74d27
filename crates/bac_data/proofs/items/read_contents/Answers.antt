use Rattle.std.proofs.Common.{arith}
use Rattle.bac_data.proofs.ReadingLemmas.{hopeless_refused}
use Rattle.bac_data.proofs.items.read_contents.Goals as goal

pub returns-in-Some-clause-refused : goal.returns-in-Some-clause-refused
returns-in-Some-clause-refused c = rw c.at.ensures (hopeless_refused c.args.number c.args.size c.min.result c.in-Some.place c.args.octets.now (omega (arith, c.min.ensures)) (omega (arith, c.min.ensures)) c.in-Some.ensures.some)
