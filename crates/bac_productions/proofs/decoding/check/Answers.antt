use Rattle.std.specs.Prelude.{◌≢◌, length}
use Rattle.std.proofs.Common.{arith}
use Rattle.bac_productions.specs.Laws.Faults.{part_trails}
use Rattle.bac_productions.specs.Laws.Whole.{whole_refused, whole_trails, whole_reaches}
use Rattle.bac_productions.proofs.decoding.check.Goals as goal

pub check-requires : goal.check-requires
check-requires g c = g.met.P.Production.decided c.requires

pub returns-in-Err-Refused-clause-refused : goal.returns-in-Err-Refused-clause-refused
returns-in-Err-Refused-clause-refused g c = λ memory.
    let told = rw c.in-Err-Refused.field-0-is at c.in-Err-Refused.ensures in
    whole_refused g.P.Production.spells c.args.octets.now c.in-Err-Refused.refusal told.refused (part_trails c.in-Err-Refused.refusal.why told.reasons)

pub returns-then-front-clause-refused : goal.returns-then-front-clause-refused
returns-then-front-clause-refused g c = λ memory.
    let other : c.in-Ok.front.taken ≢ length c.args.octets.now = λ e. omega (arith, e, c.if-front-octets.false) in
    rw c.at.ensures (whole_trails g.P.Production.spells c.args.octets.now _ c.in-Ok.front.taken c.in-Ok.front.reach c.in-Ok.ensures.found.longest c.in-Ok.ensures.reach other (omega (arith, c.if-front.true)))

pub returns-clause-refused : goal.returns-clause-refused
returns-clause-refused g c = λ memory.
    let other : c.in-Ok.front.taken ≢ length c.args.octets.now = λ e. omega (arith, e, c.if-front-octets.false) in
    let far : c.in-Ok.front.reach.place ≢ c.in-Ok.front.taken = λ e. omega (arith, e, c.if-front.false) in
    whole_reaches g.P.Production.spells c.args.octets.now _ c.in-Ok.front.taken c.in-Ok.front.reach c.in-Ok.ensures.found.longest c.in-Ok.ensures.reach other far c.in-Ok.ensures.trailing.0
