use Rattle.std.proofs.Common.{sym, arith}
use Rattle.bac_tag.specs.Laws.Octets.{octets_at}
use Rattle.bac_field_parts.specs.Laws.OctetForms.{counted_made}
use Rattle.bac_field_parts.proofs.leaves.CountedOctetsHolding.append.Goals as goal

pub returns-clause-made : goal.returns-clause-made
returns-clause-made c t =
    let are = octets_at c.args.held.now (λ k. omega (arith, c.type_inv.held k)) in
    rw (sym c.requires.is_given, c.in_ok-extend_from_slice.ensures.items, c.in_ok-push.ensures.items) (counted_made c.args.held.now c.args.out.now.items c.in-Ok.count are c.in-Ok.ensures.0 c.in-Ok.ensures.1)
