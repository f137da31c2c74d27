use Rattle.std.proofs.Common.{◌≡◌, false, List, [], Some, get_or, take, length, sym, ◌∙◌, ap, arith}
use Rattle.std.specs.Prelude.{slice_get}
use Rattle.std.proofs.lemmas.Bool.{eqb-true, eqb-false}
use Rattle.std.proofs.lemmas.List.{nil_from_length}
use Rattle.std.proofs.lemmas.Option.{slice_get-get_or}
use Rattle.bac_data.specs.declared.nodes.Node.{Node}
use Rattle.bac_data.specs.declared.nodes.Node.TheVariants as node
use Rattle.bac_data.specs.declared.short_nodes.ShortNode.TheVariants as short
use Rattle.bac_data.proofs.LinkLemmas.{few_alone, few_count, many_alone}
use Rattle.bac_data.proofs.ShortLemmas.{node_there}
use Rattle.bac_data.proofs.listing.Listing.node.Goals as goal

pub returns-then-is_empty : goal.returns-then-is_empty
returns-then-is_empty c =
    let l = c.args.self.now in
    let none : l.many.items ≡ [] = nil_from_length l.many.items (sym l.many.ok.0 ∙ eqb-true l.many.len 0 (sym c.is_empty.ensures ∙ c.if-is_empty.true)) in
    let count = few_count l c.requires.sound none in
    ap (λ (ns : List Node). slice_get ns c.args.index) (few_alone (take l.count l.few) l.many.items none)
    ∙ node_there l.count l.few c.args.index (short.Boolean false) c.requires.sound.most c.requires.sound.places (omega (arith, c.requires.within, count)) ∙ ap (λ (n : Node). Some n) (sym c.wide.ensures)

pub returns-else-is_empty : goal.returns-else-is_empty
returns-else-is_empty c =
    let l = c.args.self.now in
    let alone = many_alone (take l.count l.few) l.many.items (λ none. eqb-false l.many.len 0 (sym c.is_empty.ensures ∙ c.if-is_empty.false) (l.many.ok.0 ∙ ap length none)) in
    ap (λ (ns : List Node). slice_get ns c.args.index) alone ∙ slice_get-get_or l.many.items c.args.index (node.Boolean false) (omega (arith, c.requires.within, ap length alone))
    ∙ ap (λ (ns : List Node). Some (get_or ns c.args.index (node.Boolean false))) (sym c.as_slice.ensures.value)
