use Rattle.std.proofs.Common.{arith, ◌^◌, ◌<◌, length}
use Rattle.bac_tag.proofs.MarksLemmas.{spelled_some}
use Rattle.bac_productions.specs.Laws.WideNumber.{wide_mark}
use Rattle.bac_productions.proofs.field.mark_of_long.Goals as goal

pub bounds-head-0 : goal.bounds-head-0
bounds-head-0 g c = spelled_some _ _ c.requires.headed

pub returns-then-number_of-lt15 : goal.returns-then-number_of-lt15
returns-then-number_of-lt15 g c =
    let laws = g.met.T.Primitive in
    let v = c.args.value.now in
    let w = g.T.Primitive.written v in
    let spelled = laws.written_contents v (laws.only_values v c.args.contents.now c.requires.spelled) in
    let sized = laws.lengths v w spelled in
    let small : length w < 2 ^ 32 = omega (arith, sized.1, laws.within_limit.1) in
    wide_mark g.T.Primitive.contents c.args.context g.T.Primitive.APP v w spelled (laws.written_least v) c.args.head.now c.args.contents.now c.requires.heading small
    (omega (arith, c.number_of.ensures, c.if-number_of-lt15.true)) (spelled_some _ _ c.requires.headed) c.if-head-ge240.true
