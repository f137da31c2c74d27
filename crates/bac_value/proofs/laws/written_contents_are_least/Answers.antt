use Rattle.bac_value.specs.Laws.Prim.{prim_written_contents, prim_written_least}
use Rattle.bac_value.proofs.laws.written_contents_are_least.Goals as goal

pub returns : goal.returns
returns c = λ prim h. record { member = prim_written_contents prim h; least = prim_written_least prim }
