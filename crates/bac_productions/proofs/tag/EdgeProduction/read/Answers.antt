use Rattle.std.specs.Prelude.{not, nat_eq}
use Rattle.bac_productions.specs.Productions.{edge}
use Rattle.bac_productions.specs.Laws.Tag.{edge_some_least, edge_taken, edge_refused, head_mark, tag_reach, tag_longest, short_taken, short_mark}
use Rattle.bac_productions.proofs.tag.EdgeProduction.read.Goals as goal

pub returns-in-Ok-clause-mark : goal.returns-in-Ok-clause-mark
returns-in-Ok-clause-mark g c =
    let l = edge_some_least (not (nat_eq g.row.OPENS 0)) g.row.N c.requires in
    head_mark (edge (not (nat_eq g.row.OPENS 0)) g.row.N) _ c.mark_read_head.result l.0 l.1 ((rw c.head_of.ensures at c.mark_read_head.ensures) l.0 l.1)

pub returns-in-Ok-clause-reach : goal.returns-in-Ok-clause-reach
returns-in-Ok-clause-reach g c = tag_reach (edge (not (nat_eq g.row.OPENS 0)) g.row.N) c.args.octets.now c.in-Ok.taken c.complete_at-in-Ok.result (edge_taken (not (nat_eq g.row.OPENS 0)) g.row.N c.args.octets.now _ c.in-Ok.taken (rw c.expected_head.ensures at c.in-Ok.ensures.found)) c.complete_at-in-Ok.ensures.place c.complete_at-in-Ok.ensures.short

pub returns-in-Err-clause-refused : goal.returns-in-Err-clause-refused
returns-in-Err-clause-refused g c = edge_refused (not (nat_eq g.row.OPENS 0)) g.row.N c.args.octets.now c.in-Err.refusal (rw c.expected_head.ensures at c.in-Err.ensures.refused)

pub returns-then-is_short-clause-found : goal.returns-then-is_short-clause-found
returns-then-is_short-clause-found g c = tag_longest (edge (not (nat_eq g.row.OPENS 0)) g.row.N) c.args.octets.now 1 (short_taken (edge (not (nat_eq g.row.OPENS 0)) g.row.N) c.args.octets.now (c.is_short.ensures.0 c.if-is_short.true))

pub returns-then-is_short-clause-mark : goal.returns-then-is_short-clause-mark
returns-then-is_short-clause-mark g c = short_mark (edge (not (nat_eq g.row.OPENS 0)) g.row.N) c.args.octets.now (c.is_short.ensures.0 c.if-is_short.true)

pub returns-then-is_short-clause-reach : goal.returns-then-is_short-clause-reach
returns-then-is_short-clause-reach g c = tag_reach (edge (not (nat_eq g.row.OPENS 0)) g.row.N) c.args.octets.now 1 c.complete_at.result (short_taken (edge (not (nat_eq g.row.OPENS 0)) g.row.N) c.args.octets.now (c.is_short.ensures.0 c.if-is_short.true)) c.complete_at.ensures.place c.complete_at.ensures.short

pub returns-in-Ok-clause-found : goal.returns-in-Ok-clause-found
returns-in-Ok-clause-found g c = tag_longest (edge (not (nat_eq g.row.OPENS 0)) g.row.N) c.args.octets.now c.in-Ok.taken (edge_taken (not (nat_eq g.row.OPENS 0)) g.row.N c.args.octets.now _ c.in-Ok.taken (rw c.expected_head.ensures at c.in-Ok.ensures.found))

pub returns-in-Ok-clause-trailing : goal.returns-in-Ok-clause-trailing
returns-in-Ok-clause-trailing g c = (λ w. c.complete_at-in-Ok.ensures.place, c.complete_at-in-Ok.ensures.reason)

pub returns-then-is_short-clause-trailing : goal.returns-then-is_short-clause-trailing
returns-then-is_short-clause-trailing g c = (λ w. c.complete_at.ensures.place, c.complete_at.ensures.reason)
