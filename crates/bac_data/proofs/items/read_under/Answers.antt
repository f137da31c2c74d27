use Rattle.std.proofs.Common.{◌≡◌, take, length, refl, sym, ap, subst, arith}
use Rattle.std.proofs.lemmas.List.{length-take-le}
use Rattle.std.proofs.lemmas.Result.{err_from_is_err_and}
use Rattle.bac_tag.specs.declared.heads.TagHead.{TagHead}
use Rattle.bac_tag.specs.declared.heads.TagHead.TheVariants.{Ctx}
use Rattle.bac_tag.specs.Laws.Octets.{octets_at, octets_take}
use Rattle.bac_tag.specs.Spelling.{IsRefusal}
use Rattle.bac_value.specs.PrimContents.{PrimContents}
use Rattle.bac_value.specs.PrimOfContents.{prim_of_contents}
use Rattle.bac_value.specs.Laws.PrimOfContents.{prim_of_contents_is}
use Rattle.bac_data.specs.Events.{application, contextual}
use Rattle.bac_data.specs.Under.{Under, HasContents}
use Rattle.bac_data.proofs.StandingLemmas.{refused_contents, refused_of, short_context}
use Rattle.bac_data.proofs.items.read_under.Goals as goal

pub returns-in_err-contents-in-App-clause-refused : goal.returns-in_err-contents-in-App-clause-refused
returns-in_err-contents-in-App-clause-refused c =
    let p = err_from_is_err_and c.from_residual.result c.from_residual.ensures.1 in
    rw (p.1, p.2) (subst (λ (h : TagHead). IsRefusal (Under h) c.args.octets.now c.in_err-contents-in-App.field-0.0) (sym c.in-App.is)
    (refused_contents c.in-App.number c.in-App.len c.args.octets.now _ c.in_err-contents-in-App.ensures.refused))

pub returns-then-octets-size-clause-refused : goal.returns-then-octets-size-clause-refused
returns-then-octets-size-clause-refused c =
    let has : HasContents (Ctx c.in-Ctx.number c.in-Ctx.len) = subst HasContents c.in-Ctx.is c.requires in
    rw c.at.ensures (refused_of c.args.head (Ctx c.in-Ctx.number c.in-Ctx.len) c.args.octets.now _ c.in-Ctx.is
    (short_context c.in-Ctx.number c.in-Ctx.len c.args.octets.now (octets_at c.args.octets.now (λ k. omega (arith, c.type_inv.octets k))) c.if-octets-size.true has.1))

pub returns-in_ok-contents-in-App-clause-found : goal.returns-in_ok-contents-in-App-clause-found
returns-in_ok-contents-in-App-clause-found c =
    let found = c.in_ok-contents-in-App.ensures.found in
    let front = c.in_ok-contents-in-App.ensures.front in
    subst (λ (h : TagHead). Under h (application (prim_of_contents c.in-App.number c.in_ok-contents-in-App.contents.now)) (take c.in-App.len c.args.octets.now)) (sym c.in-App.is)
    (found.0, ap application (prim_of_contents_is c.in-App.number found.0 c.in_ok-contents-in-App.contents.now found.1), found.1.0, subst (PrimContents found.0) front.0 found.1.1, length-take-le c.in-App.len c.args.octets.now front.1)

pub returns-else-octets-size-clause-item : goal.returns-else-octets-size-clause-item
returns-else-octets-size-clause-item c =
    let has : HasContents (Ctx c.in-Ctx.number c.in-Ctx.len) = subst HasContents c.in-Ctx.is c.requires in
    let long : length (take c.in-Ctx.len c.args.octets.now) ≡ c.in-Ctx.len = length-take-le c.in-Ctx.len c.args.octets.now (omega (arith, c.if-octets-size.false)) in
    (has.0, (octets_take c.in-Ctx.len c.args.octets.now (octets_at c.args.octets.now (λ k. omega (arith, c.type_inv.octets k))), omega (arith, long, has.1)))

pub returns-else-octets-size-clause-found : goal.returns-else-octets-size-clause-found
returns-else-octets-size-clause-found c =
    let item = returns-else-octets-size-clause-item c in
    subst (λ (h : TagHead). Under h (contextual c.in-Ctx.number (take c.in-Ctx.len c.args.octets.now)) (take c.in-Ctx.len c.args.octets.now)) (sym c.in-Ctx.is)
    (refl, item.1, length-take-le c.in-Ctx.len c.args.octets.now (omega (arith, c.if-octets-size.false)))
