use Rattle.std.proofs.Common.{◌≡◌, List, [], ◌∷◌, ◌++◌, set, length, refl, sym, ◌∙◌, ap, arith}
use Rattle.bac_data.specs.declared.build_faults.BuildFault.TheVariants.{OutOfMemory, NothingOpen}
use Rattle.bac_data.specs.declared.nodes.Node.{Node}
use Rattle.bac_data.specs.declared.nodes.Node.TheVariants as node
use Rattle.bac_data.specs.Events.{Event, closing}
use Rattle.bac_data.specs.NodeEvents.{node_events}
use Rattle.bac_data.proofs.HeldSteps.{Holds, held_open, held_not_open, held_no_group, held_some_group, held_number, held_innermost, closing_some, closing_held}
use Rattle.bac_data.proofs.ResultLemmas.{went_well, other_fault, no_fault}
use Rattle.bac_data.proofs.building.AnyBuilder.close.Goals as goal

pub returns-in_default-clause-nothing_open : goal.returns-in_default-clause-nothing_open
returns-in_default-clause-nothing_open c =
    let none = sym (c.innermost.ensures (node_events c.self.inside.octets.items c.self.inside.nodes.nodes.items) c.self.inside.octets.items c.self.invariant.numbers c.self.invariant.are_nodes) ∙ c.in_default.is in (
      λ e. held_open c.self.inside.octets.items c.self.inside.nodes.nodes.items c.self.inside.nodes.groups.items c.self.invariant _ c.self.view_is 0 (held_no_group c.self.inside.octets.items c.self.inside.nodes.nodes.items c.self.inside.nodes.groups.items c.self.invariant none),
      λ p. refl,
    )

pub returns-then-is_err-clause-nothing_open : goal.returns-then-is_err-clause-nothing_open
returns-then-is_err-clause-nothing_open c =
    let first = sym (c.innermost.ensures (node_events c.self.inside.octets.items c.self.inside.nodes.nodes.items) c.self.inside.octets.items c.self.invariant.numbers c.self.invariant.are_nodes) ∙ c.in-Some.is in
    other_fault OutOfMemory NothingOpen (λ e. let i : OutOfMemory ≡ NothingOpen = e in cc) (held_not_open c.self.inside.octets.items c.self.inside.nodes.nodes.items c.self.inside.nodes.groups.items c.self.invariant _ c.self.view_is 0
    (held_some_group c.self.inside.octets.items c.self.inside.nodes.nodes.items c.self.inside.nodes.groups.items c.self.invariant c.in-Some.number first))

pub append_head-requires : goal.append_head-requires
append_head-requires c =
    let first = sym (c.innermost.ensures (node_events c.self.inside.octets.items c.self.inside.nodes.nodes.items) c.self.inside.octets.items c.self.invariant.numbers c.self.invariant.are_nodes) ∙ c.in-Some.is in
    held_number c.self.inside.octets.items c.self.inside.nodes.nodes.items c.self.inside.nodes.groups.items c.self.invariant c.in-Some.number first

pub returns-then-is_err-2-clause-nothing_open : goal.returns-then-is_err-2-clause-nothing_open
returns-then-is_err-2-clause-nothing_open c =
    let first = sym (c.innermost.ensures (node_events c.self.inside.octets.items c.self.inside.nodes.nodes.items) c.self.inside.octets.items c.self.invariant.numbers c.self.invariant.are_nodes) ∙ c.in-Some.is in
    other_fault OutOfMemory NothingOpen (λ e. let i : OutOfMemory ≡ NothingOpen = e in cc) (held_not_open c.self.inside.octets.items c.self.inside.nodes.nodes.items c.self.inside.nodes.groups.items c.self.invariant _ c.self.view_is 0
    (held_some_group c.self.inside.octets.items c.self.inside.nodes.nodes.items c.self.inside.nodes.groups.items c.self.invariant c.in-Some.number first))

pub returns-clause-nothing_open : goal.returns-clause-nothing_open
returns-clause-nothing_open c =
    let first = sym (c.innermost.ensures (node_events c.self.inside.octets.items c.self.inside.nodes.nodes.items) c.self.inside.octets.items c.self.invariant.numbers c.self.invariant.are_nodes) ∙ c.in-Some.is in
    no_fault tt NothingOpen (held_not_open c.self.inside.octets.items c.self.inside.nodes.nodes.items c.self.inside.nodes.groups.items c.self.invariant _ c.self.view_is 0
    (held_some_group c.self.inside.octets.items c.self.inside.nodes.nodes.items c.self.inside.nodes.groups.items c.self.invariant c.in-Some.number first))

pub close-requires-clause-some : goal.close-requires-clause-some
close-requires-clause-some c =
    let first = sym (c.innermost.ensures (node_events c.self.inside.octets.items c.self.inside.nodes.nodes.items) c.self.inside.octets.items c.self.invariant.numbers c.self.invariant.are_nodes) ∙ c.in-Some.is in
    let (outer, index, g, below) = closing_some c.self.inside.octets.items c.append_head.new.out.items c.self.inside.nodes.nodes.items c.self.inside.nodes.groups.items c.self.invariant c.in-Some.number
    (went_well c.append_head.result c.is_err-2.result c.is_err-2.ensures.value c.if-is_err-2.false c.append_head.ensures.ok) first in
    (outer, index, c.reserve.ensures.groups ∙ g, omega (arith, below, ap length c.reserve.ensures.nodes))

-- what is held behind the closing
closed : (c : goal.After-close) → Holds c.self.inside.octets.items c.append_head.new.out.items c.self.inside.nodes.nodes.items c.self.inside.nodes.groups.items c.self.invariant (closing c.in-Some.number) (went_well c.append_head.result c.is_err-2.result c.is_err-2.ensures.value c.if-is_err-2.false c.append_head.ensures.ok) c.close.new.self.nodes.items c.close.new.self.groups.items
closed c =
    let first = sym (c.innermost.ensures (node_events c.self.inside.octets.items c.self.inside.nodes.nodes.items) c.self.inside.octets.items c.self.invariant.numbers c.self.invariant.are_nodes) ∙ c.in-Some.is in
    closing_held c.self.inside.octets.items c.append_head.new.out.items c.self.inside.nodes.nodes.items c.self.inside.nodes.groups.items c.self.invariant c.in-Some.number
    (went_well c.append_head.result c.is_err-2.result c.is_err-2.ensures.value c.if-is_err-2.false c.append_head.ensures.ok) first c.close.new.self.nodes.items c.close.new.self.groups.items
    (λ outer index g.
    let k = c.close.ensures outer index (c.reserve.ensures.groups ∙ g) in
    (k.0, k.1 ∙ ap (λ (ns : List Node). set ns index (node.Open c.in-Some.number (length ns)) ++ node.Close c.in-Some.number ∷ []) c.reserve.ensures.nodes))

pub invariant_of-self-2 : goal.invariant_of-self-2
invariant_of-self-2 c = (closed c).held

pub returns-clause-ok : goal.returns-clause-ok
returns-clause-ok c =
    let first = sym (c.innermost.ensures (node_events c.self.inside.octets.items c.self.inside.nodes.nodes.items) c.self.inside.octets.items c.self.invariant.numbers c.self.invariant.are_nodes) ∙ c.in-Some.is in (
      c.in-Some.number,
      held_innermost c.self.inside.octets.items c.self.inside.nodes.nodes.items c.self.inside.nodes.groups.items c.self.invariant c.in-Some.number first _ c.self.view_is,
      (closed c).events_are ∙ ap (λ (es : List Event). es ++ closing c.in-Some.number ∷ []) c.self.view_is,
    )
