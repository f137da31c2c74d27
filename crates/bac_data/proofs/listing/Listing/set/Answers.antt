use Rattle.std.proofs.Common.{◌≡◌, List, [], set, take, map, sym, ◌∙◌, ap}
use Rattle.std.proofs.lemmas.Bool.{eqb-true}
use Rattle.std.proofs.lemmas.List.{map-set, nil_from_length}
use Rattle.bac_data.specs.declared.nodes.Node.{Node}
use Rattle.bac_data.specs.ShortNodes.{wide_node}
use Rattle.bac_data.proofs.LinkLemmas.{few_alone, take_written}
use Rattle.bac_data.proofs.listing.Listing.set.Goals as goal

pub returns-then-is_empty-clause-nodes : goal.returns-then-is_empty-clause-nodes
returns-then-is_empty-clause-nodes c =
    let l = c.args.self.now in
    let s = c.short.result in
    let none : l.many.items ≡ [] = nil_from_length l.many.items (sym l.many.ok.0 ∙ eqb-true l.many.len 0 (sym c.is_empty.ensures ∙ c.if-is_empty.true)) in
    few_alone (take l.count (set l.few c.args.index s)) l.many.items none ∙ ap (map wide_node) (take_written l.count l.few c.args.index s) ∙ map-set wide_node (take l.count l.few) c.args.index s
    ∙ ap (λ (n : Node). set (map wide_node (take l.count l.few)) c.args.index n) c.short.ensures ∙ ap (λ (ns : List Node). set ns c.args.index c.args.node) (sym (few_alone (take l.count l.few) l.many.items none))
