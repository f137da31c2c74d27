use Rattle.bac_tag.specs.Laws.Heads.{heads_end}
use Rattle.bac_tag.proofs.laws.heads_end_themselves.Goals as goal

pub returns : goal.returns
returns c = heads_end
