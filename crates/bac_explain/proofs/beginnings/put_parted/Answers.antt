use Rattle.bac_explain.proofs.LineLemmas.{parted_length}
use Rattle.bac_explain.proofs.beginnings.put_parted.Goals as goal

pub returns-clause-end : goal.returns-clause-end
returns-clause-end c =
    parted_length c.args.head.now c.args.contents.now c.args.at c.put_hexadecimal-head_end.result c.put_gap-start.result c.put_hexadecimal.result c.put_hexadecimal-head_end.ensures.end c.put_gap-start.ensures.end c.put_hexadecimal.ensures.end
