use Rattle.std.proofs.Common.{List, [], ◌∷◌, ◌++◌, refl, ◌∙◌, ap}
use Rattle.bac_data.specs.declared.nodes.Node.{Node}
use Rattle.bac_data.specs.Events.{Event, application}
use Rattle.bac_data.proofs.HeldSteps.{Holds, primitive_held}
use Rattle.bac_data.proofs.ResultLemmas.{went_well}
use Rattle.bac_data.proofs.building.AnyBuilder.push.Goals as goal

-- what is held behind it
more : (c : goal.Joined-prim) → Holds c.self.inside.octets.items c.append_primitive.new.out.items c.self.inside.nodes.nodes.items c.self.inside.nodes.groups.items c.self.invariant (application c.args.prim) (went_well c.append_primitive.result c.is_err-2.result c.is_err-2.ensures.value c.if-is_err-2.false c.append_primitive.ensures.ok) c.push.new.self.nodes.items c.push.new.self.groups.items
more c = primitive_held c.self.inside.octets.items c.append_primitive.new.out.items c.self.inside.nodes.nodes.items c.self.inside.nodes.groups.items c.self.invariant (application c.args.prim) (went_well c.append_primitive.result c.is_err-2.result c.is_err-2.ensures.value c.if-is_err-2.false c.append_primitive.ensures.ok) c.push.new.self.nodes.items c.push.new.self.groups.items
    c.len.result c.primitive_node-node.result refl (c.len.ensures ∙ c.append_primitive.new.out.ok.0) c.primitive_node-node.ensures
    (c.push.ensures.nodes ∙ ap (λ (ns : List Node). ns ++ c.primitive_node-node.result ∷ []) c.reserve.ensures.nodes) (c.push.ensures.groups ∙ c.reserve.ensures.groups)

pub invariant_of-self-2 : goal.invariant_of-self-2
invariant_of-self-2 c = (more c).held

pub returns-clause-ok : goal.returns-clause-ok
returns-clause-ok c = (more c).events_are ∙ ap (λ (es : List Event). es ++ application c.args.prim ∷ []) c.self.view_is
