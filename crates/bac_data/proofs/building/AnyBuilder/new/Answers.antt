use Rattle.bac_data.proofs.HeldSteps.{held_nothing}
use Rattle.bac_data.proofs.building.AnyBuilder.new.Goals as goal

pub invariant_of-result : goal.invariant_of-result
invariant_of-result c = held_nothing _ _ _ c.in_ok-with_capacity.ensures.items c.new.ensures.nodes c.new.ensures.groups
