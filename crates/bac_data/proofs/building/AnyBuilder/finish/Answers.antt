use Rattle.std.proofs.Common.{◌≡◌, false, true, ◌∙◌}
use Rattle.bac_data.proofs.HeldSteps.{held_not_open}
use Rattle.bac_data.proofs.building.AnyBuilder.finish.Goals as goal

pub returns-then-depth-ne0-clause-complete : goal.returns-then-depth-ne0-clause-complete
returns-then-depth-ne0-clause-complete c = (
  λ e. absurd (let i : false ≡ true = e in cc),
  λ h. absurd (held_not_open c.self.inside.octets.items c.self.inside.nodes.nodes.items c.self.inside.nodes.groups.items c.self.invariant _ c.self.view_is 0 (λ e. c.if-depth-ne0.true (c.depth.ensures ∙ e)) h),
)
