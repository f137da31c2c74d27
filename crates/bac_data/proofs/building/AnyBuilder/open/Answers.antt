use Rattle.std.proofs.Common.{◌≡◌, ℕ, List, [], ◌∷◌, ◌++◌, length, refl, ◌∙◌, ap, arith}
use Rattle.bac_data.specs.declared.build_faults.BuildFault.TheVariants.{OutOfMemory, Depth}
use Rattle.bac_data.specs.declared.nodes.Node.{Node}
use Rattle.bac_data.specs.declared.nodes.Node.TheVariants as node
use Rattle.bac_data.specs.Events.{Event, opening}
use Rattle.bac_data.proofs.HeldSteps.{Holds, held_few, held_open, held_not_open, opening_held}
use Rattle.bac_data.proofs.ResultLemmas.{went_well, other_fault, no_fault}
use Rattle.bac_data.proofs.building.AnyBuilder.open.Goals as goal

pub returns-then-depth-ge-MAX_GROUPS-clause-depth : goal.returns-then-depth-ge-MAX_GROUPS-clause-depth
returns-then-depth-ge-MAX_GROUPS-clause-depth c =
    let few = held_few c.self.inside.octets.items c.self.inside.nodes.nodes.items c.self.inside.nodes.groups.items c.self.invariant in (
      λ e. (c.if-number-eq255.false, held_open c.self.inside.octets.items c.self.inside.nodes.nodes.items c.self.inside.nodes.groups.items c.self.invariant _ c.self.view_is 32 (omega (arith, few, c.depth.ensures, c.if-depth-ge-MAX_GROUPS.true))),
      λ p. refl,
    )

pub returns-then-is_err-clause-depth : goal.returns-then-is_err-clause-depth
returns-then-is_err-clause-depth c = other_fault OutOfMemory Depth (λ e. let i : OutOfMemory ≡ Depth = e in cc) (λ h. held_not_open c.self.inside.octets.items c.self.inside.nodes.nodes.items c.self.inside.nodes.groups.items c.self.invariant _ c.self.view_is 32 (λ e. omega (arith, c.depth.ensures, c.if-depth-ge-MAX_GROUPS.false, e)) h.1)

pub returns-then-is_err-2-clause-depth : goal.returns-then-is_err-2-clause-depth
returns-then-is_err-2-clause-depth c = other_fault OutOfMemory Depth (λ e. let i : OutOfMemory ≡ Depth = e in cc) (λ h. held_not_open c.self.inside.octets.items c.self.inside.nodes.nodes.items c.self.inside.nodes.groups.items c.self.invariant _ c.self.view_is 32 (λ e. omega (arith, c.depth.ensures, c.if-depth-ge-MAX_GROUPS.false, e)) h.1)

pub returns-clause-depth : goal.returns-clause-depth
returns-clause-depth c = no_fault tt Depth (λ h. held_not_open c.self.inside.octets.items c.self.inside.nodes.nodes.items c.self.inside.nodes.groups.items c.self.invariant _ c.self.view_is 32 (λ e. omega (arith, c.depth.ensures, c.if-depth-ge-MAX_GROUPS.false, e)) h.1)

-- what is held behind the opening
opened : (c : goal.After-open) → Holds c.self.inside.octets.items c.append_head.new.out.items c.self.inside.nodes.nodes.items c.self.inside.nodes.groups.items c.self.invariant (opening c.args.number) (went_well c.append_head.result c.is_err-2.result c.is_err-2.ensures.value c.if-is_err-2.false c.append_head.ensures.ok) c.open.new.self.nodes.items c.open.new.self.groups.items
opened c = opening_held c.self.inside.octets.items c.append_head.new.out.items c.self.inside.nodes.nodes.items c.self.inside.nodes.groups.items c.self.invariant c.args.number (went_well c.append_head.result c.is_err-2.result c.is_err-2.ensures.value c.if-is_err-2.false c.append_head.ensures.ok) c.open.new.self.nodes.items c.open.new.self.groups.items
    (omega (arith, c.depth.ensures, c.if-depth-ge-MAX_GROUPS.false))
    (c.open.ensures.nodes ∙ ap (λ (ns : List Node). ns ++ node.Open c.args.number 0 ∷ []) c.reserve.ensures.nodes)
    (c.open.ensures.groups ∙ ap (λ (gs : List ℕ). gs ++ length c.reserve.new.self.nodes.items ∷ []) c.reserve.ensures.groups ∙ ap (λ (ns : List Node). c.self.inside.nodes.groups.items ++ length ns ∷ []) c.reserve.ensures.nodes)

pub invariant_of-self-2 : goal.invariant_of-self-2
invariant_of-self-2 c = (opened c).held

pub returns-clause-ok : goal.returns-clause-ok
returns-clause-ok c = (opened c).events_are ∙ ap (λ (es : List Event). es ++ opening c.args.number ∷ []) c.self.view_is
