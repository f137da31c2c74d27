use Rattle.std.proofs.Common.{sym, ◌∙◌}
use Rattle.bac_value.specs.Laws.Prim.{prim_once}
use Rattle.bac_value.proofs.laws.contents_have_one_value.Goals as goal

pub returns : goal.returns
returns c = λ number a b octets p q. prim_once a b octets (p.0 ∙ sym q.0) p.1 q.1
