use Rattle.std.proofs.Common.{◌≡◌, ℕ, false, Some, List, ◌-◌, length, get_or, sym, ◌∙◌, ap, arith}
use Rattle.std.specs.Prelude.{slice_get}
use Rattle.std.proofs.lemmas.Option.{slice_get_within, get_or_from_slice_get}
use Rattle.bac_data.specs.declared.nodes.Node.{Node}
use Rattle.bac_data.specs.declared.nodes.Node.TheVariants as node
use Rattle.bac_data.proofs.BuildingLemmas.{not_none}
use Rattle.bac_data.proofs.NodeLemmas.{Innermost, innermost_node, open_number}
use Rattle.bac_data.proofs.nodes.NodeList.innermost.Goals as goal

-- the node there is the opening of the innermost group
found : (nodes read : List Node) (groups numbers looked : List ℕ) (len : ℕ) (i : Innermost nodes groups numbers) → read ≡ nodes → looked ≡ groups → len ≡ length groups → slice_get read (get_or looked (len - 1) 0) ≡ Some (node.Open i.number i.end)
found nodes read groups numbers looked len i r l n =
    ap (λ (ns : List Node). slice_get ns (get_or looked (len - 1) 0)) r ∙ ap (λ (gs : List ℕ). slice_get nodes (get_or gs (len - 1) 0)) l ∙ ap (λ (k : ℕ). slice_get nodes (get_or groups (k - 1) 0)) n ∙ i.node_is

pub returns-then-index-nodes : goal.returns-then-index-nodes
returns-then-index-nodes c = λ es octets numbers h.
    let i = innermost_node es octets c.args.self.now.nodes.items c.args.self.now.groups.items numbers h (not_none (length c.args.self.now.groups.items) c.is_empty.result c.is_empty.ensures c.if-is_empty.false) in
    let there = found _ c.as_slice-nodes.result.now _ numbers c.deref.result.now c.len.result i c.as_slice-nodes.ensures.value c.deref.ensures.0 c.len.ensures.value in
    absurd (omega (arith, slice_get_within c.as_slice-nodes.result.now (get_or c.deref.result.now (c.len.result - 1) 0) (node.Open i.number i.end) there, c.if-index-nodes.true))

pub returns-in-Open : goal.returns-in-Open
returns-in-Open c = λ es octets numbers h.
    let i = innermost_node es octets c.args.self.now.nodes.items c.args.self.now.groups.items numbers h (not_none (length c.args.self.now.groups.items) c.is_empty.result c.is_empty.ensures c.if-is_empty.false) in
    let there = found _ c.as_slice-nodes.result.now _ numbers c.deref.result.now c.len.result i c.as_slice-nodes.ensures.value c.deref.ensures.0 c.len.ensures.value in
    ap (λ (n : ℕ). Some n) (open_number c.in-Open.number c.in-Open.closing i.number i.end (sym c.in-Open.is ∙ get_or_from_slice_get c.as_slice-nodes.result.now (get_or c.deref.result.now (c.len.result - 1) 0) (node.Open i.number i.end) (node.Boolean false) there)) ∙ sym i.first

pub returns-in_default : goal.returns-in_default
returns-in_default c = λ es octets numbers h.
    let i = innermost_node es octets c.args.self.now.nodes.items c.args.self.now.groups.items numbers h (not_none (length c.args.self.now.groups.items) c.is_empty.result c.is_empty.ensures c.if-is_empty.false) in
    let there = found _ c.as_slice-nodes.result.now _ numbers c.deref.result.now c.len.result i c.as_slice-nodes.ensures.value c.deref.ensures.0 c.len.ensures.value in
    absurd (c.in_default.not-Open i.number i.end (get_or_from_slice_get c.as_slice-nodes.result.now (get_or c.deref.result.now (c.len.result - 1) 0) (node.Open i.number i.end) (node.Boolean false) there))
