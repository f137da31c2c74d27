use Rattle.bac_value.specs.Laws.Prim.{prim_only_values}
use Rattle.bac_value.proofs.laws.only_values_have_contents.Goals as goal

pub returns : goal.returns
returns c = prim_only_values
