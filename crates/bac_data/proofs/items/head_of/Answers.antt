use Rattle.std.proofs.Common.{subst, arith}
use Rattle.bac_value.specs.Laws.Prim.{prim_limit}
use Rattle.bac_data.specs.Reading.{IsItem}
use Rattle.bac_data.proofs.items.head_of.Goals as goal

pub overflow_cast-len : goal.overflow_cast-len
overflow_cast-len c =
    let found = (subst IsItem c.in-Application.is c.requires).2 in
    omega (arith, prim_limit found.0 c.in-Application.contents.now found.1.1)
