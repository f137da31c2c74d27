use Rattle.std.proofs.Common.{◌≡◌, ◌-◌, ℕ, List, [], ◌∷◌, ◌++◌, set, length, ◌∙◌, ap, arith}
use Rattle.bac_data.specs.declared.nodes.Node.{Node}
use Rattle.bac_data.specs.declared.nodes.Node.TheVariants as node
use Rattle.bac_data.specs.Building.{closing_number}
use Rattle.bac_data.specs.Listings.{listed_nodes}
use Rattle.bac_data.proofs.LinkLemmas.{ended, ended_within, ended_deep, outer_is, closing_linked, closing_lists}
use Rattle.bac_data.proofs.ResultLemmas.{on_ok_all}
use Rattle.bac_data.proofs.listing.Listing.close.Goals as goal

pub opening_at-outer-requires-clause-some : goal.opening_at-outer-requires-clause-some
opening_at-outer-requires-clause-some c =
    let (value, es, octets, more, before, behind, m) = c.requires.may in
    let i = ended value c.args.number c.args.end c.args.self.now es octets more before behind m in
    (c.args.number, i.outer, i.there)

pub set-requires-clause-within : goal.set-requires-clause-within
set-requires-clause-within c =
    let (value, es, octets, more, before, behind, m) = c.requires.may in
    ended_within value c.args.number c.args.end c.args.self.now es octets more before behind m

pub number_of_innermost-self-requires-clause-linked : goal.number_of_innermost-self-requires-clause-linked
number_of_innermost-self-requires-clause-linked c =
    let l = c.args.self.now in
    let (value, es, octets, more, before, behind, m) = c.requires.may in
    let i = ended value c.args.number c.args.end l es octets more before behind m in
    let deep = ended_deep value c.args.number c.args.end l es octets more before behind m in (
      i.others,
      behind,
      omega (arith, deep, c.set.ensures.groups.depth),
      closing_linked value c.args.number c.args.end l es octets more before behind m (listed_nodes c.set.new.self) (node.Open c.args.number c.len.result) c.opening_at-outer.result.0 c.opening_at-outer.result.1 c.set.ensures.nodes c.opening_at-outer.ensures,
    )

pub returns : goal.returns
returns c = on_ok_all c.push.result c.push.ensures.nodes c.push.ensures.sound c.push.ensures.few (λ nodes sound few.
    λ value es octets more before behind m.
    let l = c.args.self.now in
    let i = ended value c.args.number c.args.end l es octets more before behind m in
    let deep = ended_deep value c.args.number c.args.end l es octets more before behind m in
    let linked = closing_linked value c.args.number c.args.end l es octets more before behind m (listed_nodes c.set.new.self) (node.Open c.args.number c.len.result) c.opening_at-outer.result.0 c.opening_at-outer.result.1 c.set.ensures.nodes c.opening_at-outer.ensures in
    let left : c.set.new.self.depth - 1 ≡ length behind = omega (arith, deep, c.set.ensures.groups.depth) in
    closing_lists value c.args.number c.args.end l es octets more before behind m c.push.new.self
    (nodes ∙ ap (λ (ns : List Node). ns ++ node.Close c.args.number ∷ []) (c.set.ensures.nodes ∙ ap (λ (k : ℕ). set (listed_nodes l) l.innermost (node.Open c.args.number k)) c.len.ensures))
    (c.push.ensures.groups.innermost ∙ outer_is value c.args.number c.args.end l es octets more before behind m c.opening_at-outer.result.0 c.opening_at-outer.result.1 c.opening_at-outer.ensures)
    (c.push.ensures.groups.depth ∙ ap (λ (d : ℕ). d - 1) c.set.ensures.groups.depth)
    (c.push.ensures.groups.closing ∙ c.number_of_innermost-self.ensures i.others behind left linked ∙ ap (λ (j : ℕ). closing_number j behind) c.set.ensures.groups.number)
    (c.push.ensures.groups.number ∙ c.set.ensures.groups.number) sound few)
