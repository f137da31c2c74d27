use Rattle.std.proofs.Common.{◌<◌, false, List, Some, get_or, length, sym, ◌∙◌, ap, subst, arith}
use Rattle.std.specs.Prelude.{slice_get}
use Rattle.std.proofs.lemmas.Option.{slice_get-get_or}
use Rattle.bac_data.specs.declared.held.Held.{Held}
use Rattle.bac_data.specs.declared.nodes.Node.{Node}
use Rattle.bac_data.specs.declared.nodes.Node.TheVariants as node
use Rattle.bac_data.specs.declared.short_nodes.ShortNode.TheVariants as short
use Rattle.bac_data.specs.HeldLists.{nodes_of, IsSound}
use Rattle.bac_data.proofs.ShortLemmas.{counted, node_there}
use Rattle.bac_data.proofs.held.Held.node.Goals as goal

pub bounds-nodes-index : goal.bounds-nodes-index
bounds-nodes-index c =
    let s = subst IsSound c.in-Short.is c.requires.sound in
    let within = subst (λ (h : Held). c.args.index < length (nodes_of h)) c.in-Short.is c.requires.within in
    omega (arith, within, counted c.in-Short.count c.in-Short.nodes s.0 s.2, s.0)

pub offset_bounds-nodes-index : goal.offset_bounds-nodes-index
offset_bounds-nodes-index c =
    let s = subst IsSound c.in-Short.is c.requires.sound in
    let within = subst (λ (h : Held). c.args.index < length (nodes_of h)) c.in-Short.is c.requires.within in
    omega (arith, within, counted c.in-Short.count c.in-Short.nodes s.0 s.2, s.0)

pub returns-in-Short : goal.returns-in-Short
returns-in-Short c =
    let s = subst IsSound c.in-Short.is c.requires.sound in
    let within = subst (λ (h : Held). c.args.index < length (nodes_of h)) c.in-Short.is c.requires.within in
    ap (λ (h : Held). slice_get (nodes_of h) c.args.index) c.in-Short.is
    ∙ node_there c.in-Short.count c.in-Short.nodes c.args.index (short.Boolean false) s.0 s.2 (omega (arith, within, counted c.in-Short.count c.in-Short.nodes s.0 s.2))
    ∙ ap (λ (n : Node). Some n) (sym c.wide.ensures)

pub returns-in-Long : goal.returns-in-Long
returns-in-Long c =
    let within = subst (λ (h : Held). c.args.index < length (nodes_of h)) c.in-Long.is c.requires.within in
    ap (λ (h : Held). slice_get (nodes_of h) c.args.index) c.in-Long.is ∙ slice_get-get_or c.in-Long.nodes.items c.args.index (node.Boolean false) within
    ∙ ap (λ (ns : List Node). Some (get_or ns c.args.index (node.Boolean false))) (sym c.as_slice.ensures.value)
