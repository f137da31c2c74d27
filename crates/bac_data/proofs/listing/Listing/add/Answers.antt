use Rattle.std.proofs.Common.{◌≡◌, ◌-◌, ℕ, List, [], ◌∷◌, ◌++◌, length, refl, sym, ◌∙◌, ap, subst, arith}
use Rattle.bac_value.specs.declared.prim.PrimitiveValue.{PrimitiveValue}
use Rattle.bac_value.specs.Laws.PrimOfContents.{prim_of_contents_is}
use Rattle.bac_tag.specs.Spelling.{IsLeast}
use Rattle.bac_data.specs.declared.items.Item.{Item}
use Rattle.bac_data.specs.declared.items.Item.TheVariants as item
use Rattle.bac_data.specs.declared.listing.Listing.{Listing}
use Rattle.bac_data.specs.declared.nodes.Node.TheVariants as node
use Rattle.bac_data.specs.Events.{Event, application}
use Rattle.bac_data.specs.Spells.{SpellsPrimitive}
use Rattle.bac_data.specs.Listings.{Lists, MayAdd}
use Rattle.bac_data.specs.Reading.{item_event, IsItem}
use Rattle.bac_data.proofs.LinkLemmas.{primitive_lists}
use Rattle.bac_data.proofs.MarkLemmas.{written_small}
use Rattle.bac_data.proofs.NodeLemmas.{primitive_fits, context_fits}
use Rattle.bac_data.proofs.ResultLemmas.{on_ok, on_ok_all}
use Rattle.bac_data.proofs.listing.Listing.add.Goals as goal

-- what may be listed for an item, where it is one that is the same
may : (i j : Item) (value end : ℕ) (l : Listing) (es : List Event) (octets more before behind : List ℕ) → i ≡ j → MayAdd value (item_event i) end l es octets more before behind → MayAdd value (item_event j) end l es octets more before behind
may i j value end l es octets more before behind e = subst (λ (k : Item). MayAdd value (item_event k) end l es octets more before behind) e

-- and what is listed then
listed : (i j : Item) (value : ℕ) (l : Listing) (es : List Event) (octets behind : List ℕ) → i ≡ j → Lists value l (es ++ item_event j ∷ []) octets behind → Lists value l (es ++ item_event i ∷ []) octets behind
listed i j value l es octets behind e = subst (λ (k : Item). Lists value l (es ++ item_event k ∷ []) octets behind) (sym e)

pub overflow_cast-node : goal.overflow_cast-node
overflow_cast-node c =
    let is = subst IsItem c.in-Application.is c.requires.item in
    let (prim, s) = is.2 in
    omega (arith, c.kept_len-len.ensures prim s, written_small c.in-Application.number prim c.in-Application.contents.now s)

pub overflow_sub-node : goal.overflow_sub-node
overflow_sub-node c =
    let is = subst IsItem c.in-Application.is c.requires.item in
    let (prim, s) = is.2 in
    let (value, es, octets, more, before, behind, m) = c.requires.may in
    let n = may c.args.item (item.Application c.in-Application.number c.in-Application.contents c.in-Application.written) value c.args.end c.args.self.now es octets more before behind c.in-Application.is m in
    let fits = primitive_fits prim (length octets) more c.args.end (λ e. is.1 (sym s.0 ∙ e)) (subst (λ (p : PrimitiveValue). IsLeast (SpellsPrimitive p) more) (prim_of_contents_is c.in-Application.number prim c.in-Application.contents.now s) n.least) n.ends in
    omega (arith, fits, c.kept_len-len.ensures prim s)

pub push-requires-in-Application-clause-short : goal.push-requires-in-Application-clause-short
push-requires-in-Application-clause-short c = λ few least.
    let is = subst IsItem c.in-Application.is c.requires.item in
    let (prim, s) = is.2 in
    let (value, es, octets, more, before, behind, m) = c.requires.may in
    let n = may c.args.item (item.Application c.in-Application.number c.in-Application.contents c.in-Application.written) value c.args.end c.args.self.now es octets more before behind c.in-Application.is m in
    let fits = primitive_fits prim (length octets) more c.args.end (λ e. is.1 (sym s.0 ∙ e)) (subst (λ (p : PrimitiveValue). IsLeast (SpellsPrimitive p) more) (prim_of_contents_is c.in-Application.number prim c.in-Application.contents.now s) n.least) n.ends in
    let len = c.kept_len-len.ensures prim s in
    (omega (arith, fits, len, least), omega (arith, least))

pub overflow_sub-node-in-Context : goal.overflow_sub-node-in-Context
overflow_sub-node-in-Context c =
    let (value, es, octets, more, before, behind, m) = c.requires.may in
    let n = may c.args.item (item.Context c.in-Context.number c.in-Context.octets) value c.args.end c.args.self.now es octets more before behind c.in-Context.is m in
    omega (arith, context_fits c.in-Context.number c.in-Context.octets.now (length octets) more c.args.end n.least n.ends)

pub returns-in-Boolean : goal.returns-in-Boolean
returns-in-Boolean c = on_ok_all c.push.result c.push.ensures.nodes c.push.ensures.sound c.push.ensures.few (λ nodes sound few.
    λ value es octets more before behind m.
    let i = item.Boolean c.in-Boolean.bit in
    let n = may c.args.item i value c.args.end c.args.self.now es octets more before behind c.in-Boolean.is m in
    listed c.args.item i value c.push.new.self es (octets ++ more) behind c.in-Boolean.is
    (primitive_lists value (item_event i) c.args.end c.args.self.now es octets more before behind n (node.Boolean c.in-Boolean.bit) refl c.push.new.self nodes c.push.ensures.groups sound few))

pub returns-in-Application : goal.returns-in-Application
returns-in-Application c = on_ok_all c.push-in-Application.result c.push-in-Application.ensures.nodes c.push-in-Application.ensures.sound c.push-in-Application.ensures.few (λ nodes sound few.
    λ value es octets more before behind m.
    let number = c.in-Application.number in
    let contents = c.in-Application.contents in
    let i = item.Application number contents c.in-Application.written in
    let is = subst IsItem c.in-Application.is c.requires.item in
    let (prim, s) = is.2 in
    let n = may c.args.item i value c.args.end c.args.self.now es octets more before behind c.in-Application.is m in
    let same = prim_of_contents_is number prim contents.now s in
    let fits = primitive_fits prim (length octets) more c.args.end (λ e. is.1 (sym s.0 ∙ e)) (subst (λ (p : PrimitiveValue). IsLeast (SpellsPrimitive p) more) same n.least) n.ends in
    let len = c.kept_len-len.ensures prim s in
    listed c.args.item i value c.push-in-Application.new.self es (octets ++ more) behind c.in-Application.is
    (primitive_lists value (item_event i) c.args.end c.args.self.now es octets more before behind n (node.Application number c.kept_len-len.result (c.args.end - c.kept_len-len.result))
    (prim, ap application same, s.0, is.1, len, omega (arith, fits, len)) c.push-in-Application.new.self nodes c.push-in-Application.ensures.groups sound few))

pub returns-in-Context : goal.returns-in-Context
returns-in-Context c = on_ok_all c.push-in-Context.result c.push-in-Context.ensures.nodes c.push-in-Context.ensures.sound c.push-in-Context.ensures.few (λ nodes sound few.
    λ value es octets more before behind m.
    let i = item.Context c.in-Context.number c.in-Context.octets in
    let n = may c.args.item i value c.args.end c.args.self.now es octets more before behind c.in-Context.is m in
    let fits = context_fits c.in-Context.number c.in-Context.octets.now (length octets) more c.args.end n.least n.ends in
    listed c.args.item i value c.push-in-Context.new.self es (octets ++ more) behind c.in-Context.is
    (primitive_lists value (item_event i) c.args.end c.args.self.now es octets more before behind n (node.Context c.in-Context.number (length c.in-Context.octets.now) (c.args.end - length c.in-Context.octets.now))
    (c.in-Context.octets.now, refl, refl, omega (arith, fits)) c.push-in-Context.new.self nodes c.push-in-Context.ensures.groups sound few))

pub returns-in-Open : goal.returns-in-Open
returns-in-Open c = on_ok c.open.result c.open.ensures (λ h.
    λ value es octets more before behind m.
    let i = item.Open c.in-Open.number in
    listed c.args.item i value c.open.new.self es (octets ++ more) behind c.in-Open.is (h value es octets more before behind (may c.args.item i value c.args.end c.args.self.now es octets more before behind c.in-Open.is m)))

pub returns-in-Close : goal.returns-in-Close
returns-in-Close c = on_ok c.close.result c.close.ensures (λ h.
    λ value es octets more before behind m.
    let i = item.Close c.in-Close.number in
    listed c.args.item i value c.close.new.self es (octets ++ more) behind c.in-Close.is (h value es octets more before behind (may c.args.item i value c.args.end c.args.self.now es octets more before behind c.in-Close.is m)))
