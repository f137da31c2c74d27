use Rattle.bac_explain.proofs.LineLemmas.{named_explained}
use Rattle.std.specs.Prelude.{None}
use Rattle.bac_explain.proofs.named_pieces.append_many_canonical.Goals as goal

pub returns-clause-ok : goal.returns-clause-ok
returns-clause-ok c =
    named_explained c.append_each_canonical.result c.args.octets.now None c.args.typed c.args.octets.now c.args.fields.now c.deref.result.now c.in_ok-pieces.pieces.items c.deref.result.now c.in_ok-pieces.pieces.items c.args.out.now.items c.append_each_canonical.new.out.items c.deref.ensures.value c.deref.ensures.value
    c.in_ok-pieces.ensures c.in_ok-pieces.ensures c.append_each_canonical.ensures.ok
