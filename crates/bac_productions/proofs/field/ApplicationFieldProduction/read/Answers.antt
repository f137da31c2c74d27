use Rattle.std.specs.Prelude.{None}
use Rattle.bac_productions.specs.Laws.Field.{field_longest, field_reach}
use Rattle.bac_productions.proofs.field.ApplicationFieldProduction.read.Goals as goal

pub returns-clause-found : goal.returns-clause-found
returns-clause-found g c =
    rw (c.with.ensures, c.split-value.ensures) (field_longest g.T.Primitive.contents None g.T.Primitive.APP g.met.T.Primitive.one_value c.args.octets.now c.in_ok-front.front.value c.in_ok-front.front.taken c.in_ok-front.ensures.found)

pub returns-clause-reach : goal.returns-clause-reach
returns-clause-reach g c =
    rw (c.with.ensures, c.split-value.ensures) (field_reach g.T.Primitive.contents None g.T.Primitive.APP g.met.T.Primitive.one_value c.args.octets.now c.in_ok-front.front.value c.in_ok-front.front.taken c.in_ok-front.front.reach c.in_ok-front.ensures.found c.in_ok-front.ensures.place c.in_ok-front.ensures.short)

pub returns-clause-mark : goal.returns-clause-mark
returns-clause-mark g c = rw (c.with.ensures, c.split-value.ensures) c.in_ok-front.ensures.mark

pub returns-clause-trailing : goal.returns-clause-trailing
returns-clause-trailing g c = rw (c.with.ensures, c.split-value.ensures) c.in_ok-front.ensures.trailing
