use Rattle.bac_productions.specs.Laws.Field.{least_mark}
use Rattle.bac_productions.proofs.field.mark_of_short.Goals as goal

pub returns-in-None : goal.returns-in-None
returns-in-None g c =
    let laws = g.met.T.Primitive in
    let v = c.args.value.now in
    least_mark g.T.Primitive.contents c.args.context g.T.Primitive.APP v (g.T.Primitive.written v) (laws.written_contents v (laws.only_values v c.args.contents.now c.requires.spelled)) (laws.written_least v)
    c.args.head.now c.args.contents.now c.requires.least (rw c.in-None.is at c.mark.ensures.none)
