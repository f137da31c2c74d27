use Rattle.bac_explain.proofs.LineLemmas.{named_explained}
use Rattle.bac_explain.proofs.named_pieces.append_many_named.Goals as goal

pub returns-clause-ok : goal.returns-clause-ok
returns-clause-ok c =
    named_explained c.append_beside_each.result c.args.octets.now c.args.mark c.args.typed c.args.canonical.now c.args.fields.now c.deref.result.now c.in_ok-pieces.pieces.items c.deref-2.result.now c.in_ok-others.others.items c.args.out.now.items c.append_beside_each.new.out.items c.deref.ensures.value c.deref-2.ensures.value
    c.in_ok-pieces.ensures c.in_ok-others.ensures c.append_beside_each.ensures.ok
