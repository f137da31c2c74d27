use Rattle.bac_value.specs.Laws.PrimOfContents.{prim_of_contents_is}
use Rattle.bac_value.proofs.laws.contents_tell_the_value.Goals as goal

pub returns : goal.returns
returns c = prim_of_contents_is
