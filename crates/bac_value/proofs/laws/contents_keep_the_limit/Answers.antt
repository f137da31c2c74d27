use Rattle.bac_value.specs.Laws.Prim.{prim_limit}
use Rattle.bac_value.proofs.laws.contents_keep_the_limit.Goals as goal

pub returns : goal.returns
returns c = prim_limit
