use Rattle.bac_explain.proofs.LineLemmas.{explained_lines}
use Rattle.bac_explain.proofs.explanation.append_many.Goals as goal

pub returns-clause-ok : goal.returns-clause-ok
returns-clause-ok c = explained_lines c.append_lines.result c.args.octets.now c.args.verdict c.deref.result.now c.in_ok-pieces.pieces.items c.args.out.now.items c.append_lines.new.out.items c.deref.ensures.value c.in_ok-pieces.ensures c.append_lines.ensures.ok
