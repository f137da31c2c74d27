use Rattle.std.proofs.Common.{List, sym, ap, ◌∙◌, subst, refl, arith}
use Rattle.bac_segment.specs.Reassembled.{Reassembled}
use Rattle.bac_segment.specs.Desks.{closed, IsDesk}
use Rattle.bac_segment.proofs.DeskLemmas.{found, open_found, open_lost, closed_lost, closed_remove, desk_closes, at_view}
use Rattle.bac_segment.proofs.desk.Desk.close.Goals as goal

pub remove-requires : goal.remove-requires
remove-requires c = omega (arith, (found c.as_slice.result.now c.args.key c.in-Some.index (sym c.place.ensures ∙ c.in-Some.is)).within, c.as_slice.ensures.len)

pub invariant_of-self : goal.invariant_of-self
invariant_of-self c =
    subst IsDesk (sym (c.remove.ensures.items ∙ closed_remove c.self.inside.slots.items c.args.key c.in-Some.index c.self.invariant.apart (at_view _ _ _ _ _ _ c.as_slice.ensures.value refl c.place.ensures c.in-Some.is)))
    (desk_closes c.self.inside.slots.items c.args.key c.self.invariant)

pub returns-in-None-clause-was_open : goal.returns-in-None-clause-was_open
returns-in-None-clause-was_open c = sym (open_lost c.args.self.now c.args.key (at_view _ _ _ _ _ _ (c.as_slice.ensures.value ∙ c.self.view_is) refl c.place.ensures c.in-None.is))

pub returns-in-None-clause-closed : goal.returns-in-None-clause-closed
returns-in-None-clause-closed c = sym (closed_lost c.args.self.now c.args.key (at_view _ _ _ _ _ _ (c.as_slice.ensures.value ∙ c.self.view_is) refl c.place.ensures c.in-None.is))

pub returns-in-Some-clause-was_open : goal.returns-in-Some-clause-was_open
returns-in-Some-clause-was_open c = sym (open_found c.args.self.now c.args.key c.in-Some.index (at_view _ _ _ _ _ _ (c.as_slice.ensures.value ∙ c.self.view_is) refl c.place.ensures c.in-Some.is))

pub returns-in-Some-clause-closed : goal.returns-in-Some-clause-closed
returns-in-Some-clause-closed c =
    c.remove.ensures.items ∙ closed_remove c.self.inside.slots.items c.args.key c.in-Some.index c.self.invariant.apart (at_view _ _ _ _ _ _ c.as_slice.ensures.value refl c.place.ensures c.in-Some.is)
    ∙ ap (λ (rs : List Reassembled). closed rs c.args.key) c.self.view_is
