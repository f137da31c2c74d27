use Rattle.bac_explain.proofs.CompletionLemmas.{alone_told, beside_told}
use Rattle.bac_explain.proofs.named_refusal.append_refusal_explanation.Goals as goal

pub returns-in-Some-clause-ok : goal.returns-in-Some-clause-ok
returns-in-Some-clause-ok c = beside_told c.append_beside_frame.result c.args.octets.now c.args.refusal c.args.out.now.items c.append_beside_frame.new.out.items c.append_beside_frame.ensures.ok

pub returns-clause-ok : goal.returns-clause-ok
returns-clause-ok c = alone_told c.append_explanation.result c.args.octets.now c.args.refusal c.args.out.now.items c.append_explanation.new.out.items c.append_explanation.ensures.ok
