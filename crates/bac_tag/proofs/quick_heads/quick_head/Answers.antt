use Rattle.std.proofs.Common.{arith}
use Rattle.bac_tag.proofs.QuickHeadLemmas.{takes_context, takes_application}
use Rattle.bac_tag.proofs.quick_heads.quick_head.Goals as goal

pub returns-then-context-3 : goal.returns-then-context-3
returns-then-context-3 c =
    takes_context c.in_ok-context.context c.in_ok-context.number c.in_ok-len.len c.args.octets.now c.in_ok-context.start c.in_ok-len.end c.in_ok-context.lvt c.if-context-3.true c.in_ok-context.ensures.number c.in_ok-len.ensures.within.0
    c.in_ok-len.ensures.within.1 c.in_ok-context.ensures.opening c.in_ok-len.ensures.length

pub returns : goal.returns
returns c =
    takes_application c.in_ok-context.context c.in_ok-context.number c.in_ok-len.len c.args.octets.now c.in_ok-context.start c.in_ok-len.end c.in_ok-context.lvt c.if-context-3.false (omega (arith, c.if-number-gt12.false)) c.if-number-eq1.false c.in_ok-len.ensures.within.0
    c.in_ok-len.ensures.within.1 c.in_ok-context.ensures.opening c.in_ok-len.ensures.length
