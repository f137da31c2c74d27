use Rattle.std.proofs.Common.{◌≤◌, ◌-◌, List, [], ◌∷◌, ◌++◌, length, refl, ◌∙◌, ap, arith, length-append}
use Rattle.bac_data.specs.declared.nodes.Node.{Node}
use Rattle.bac_data.specs.declared.nodes.Node.TheVariants as node
use Rattle.bac_data.specs.Events.{Event, contextual}
use Rattle.bac_data.proofs.HeldSteps.{Holds, primitive_held}
use Rattle.bac_data.proofs.NodeLemmas.{context_fits}
use Rattle.bac_data.proofs.ResultLemmas.{went_well}
use Rattle.bac_data.proofs.building.AnyBuilder.push_ctx.Goals as goal

-- the contents are no more than what was appended
fits : (c : goal.After-push) → length c.args.octets.now ≤ c.len.result
fits c =
    let a = went_well c.append_context.result c.is_err-2.result c.is_err-2.ensures.value c.if-is_err-2.false c.append_context.ensures.ok in
    context_fits c.args.number c.args.octets.now (length c.self.inside.octets.items) a.more c.len.result a.is_least (c.len.ensures ∙ c.append_context.new.out.ok.0 ∙ ap length a.new_is ∙ length-append c.self.inside.octets.items a.more)

-- what is held behind it
more : (c : goal.After-push) → Holds c.self.inside.octets.items c.append_context.new.out.items c.self.inside.nodes.nodes.items c.self.inside.nodes.groups.items c.self.invariant (contextual c.args.number c.args.octets.now) (went_well c.append_context.result c.is_err-2.result c.is_err-2.ensures.value c.if-is_err-2.false c.append_context.ensures.ok) c.push.new.self.nodes.items c.push.new.self.groups.items
more c = primitive_held c.self.inside.octets.items c.append_context.new.out.items c.self.inside.nodes.nodes.items c.self.inside.nodes.groups.items c.self.invariant (contextual c.args.number c.args.octets.now) (went_well c.append_context.result c.is_err-2.result c.is_err-2.ensures.value c.if-is_err-2.false c.append_context.ensures.ok) c.push.new.self.nodes.items c.push.new.self.groups.items
    c.len.result (node.Context c.args.number (length c.args.octets.now) (c.len.result - length c.args.octets.now)) refl (c.len.ensures ∙ c.append_context.new.out.ok.0) (c.args.octets.now, refl, refl, omega (arith, fits c))
    (c.push.ensures.nodes ∙ ap (λ (ns : List Node). ns ++ (node.Context c.args.number (length c.args.octets.now) (c.len.result - length c.args.octets.now)) ∷ []) c.reserve.ensures.nodes) (c.push.ensures.groups ∙ c.reserve.ensures.groups)

pub invariant_of-self-2 : goal.invariant_of-self-2
invariant_of-self-2 c = (more c).held

pub returns-clause-ok : goal.returns-clause-ok
returns-clause-ok c = (more c).events_are ∙ ap (λ (es : List Event). es ++ contextual c.args.number c.args.octets.now ∷ []) c.self.view_is
