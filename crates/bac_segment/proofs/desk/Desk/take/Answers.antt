use Rattle.std.proofs.Common.{◌<◌, sym, ap, ◌∙◌, subst, refl, set, List, length, Ok, Err, arith}
use Rattle.bac_segment.specs.declared.keys.Key.{Key}
use Rattle.bac_segment.specs.declared.faults.TakeFault.TheVariants.{OutOfMemory}
use Rattle.bac_segment.specs.Deliveries.{delivery, key_of}
use Rattle.bac_segment.specs.Reassembled.{Reassembled, Takes, opened}
use Rattle.bac_segment.specs.Desks.{DeskTakes, IsDesk}
use Rattle.bac_segment.proofs.DeskLemmas.{found, is_full, takes_open, takes_new, fault_new, memory_new, desk_takes, at_view, pushed, not_pushed}
use Rattle.bac_segment.proofs.desk.Desk.take.Goals as goal

pub index_mut-requires : goal.index_mut-requires
index_mut-requires c = omega (arith, (found c.as_slice.result.now c.of-key.result c.in-Some.index (sym c.place.ensures ∙ c.in-Some.is)).within, c.as_slice.ensures.len)

pub invariant_of-self : goal.invariant_of-self
invariant_of-self c = desk_takes c.self.inside.slots.items _ c.args.peer (delivery c.args.segment.now) c.take.result c.self.invariant
    (takes_open c.self.inside.slots.items c.args.peer (delivery c.args.segment.now) c.take.result c.in-Some.index c.index_mut.result.now c.take.new.self (at_view _ _ _ _ _ _ c.as_slice.ensures.value c.of-key.ensures c.place.ensures c.in-Some.is) c.index_mut.ensures.value c.take.ensures.step c.take.ensures.err)

pub returns-in-Some-clause-step : goal.returns-in-Some-clause-step
returns-in-Some-clause-step c =
    subst (λ (old : List Reassembled). DeskTakes old c.args.peer (delivery c.args.segment.now) c.take.result (set c.self.inside.slots.items c.in-Some.index c.take.new.self)) c.self.view_is
    (takes_open c.self.inside.slots.items c.args.peer (delivery c.args.segment.now) c.take.result c.in-Some.index c.index_mut.result.now c.take.new.self (at_view _ _ _ _ _ _ c.as_slice.ensures.value c.of-key.ensures c.place.ensures c.in-Some.is) c.index_mut.ensures.value c.take.ensures.step c.take.ensures.err)

pub returns-then-as_slice-ge-MOST_KEYS-clause-step : goal.returns-then-as_slice-ge-MOST_KEYS-clause-step
returns-then-as_slice-ge-MOST_KEYS-clause-step c = (
  is_full c.args.self.now (key_of c.args.peer (delivery c.args.segment.now)) (at_view _ _ _ _ _ _ (c.as_slice.ensures.value ∙ c.self.view_is) c.of-key.ensures c.place.ensures c.in_default.is)
      (omega (arith, c.if-as_slice-ge-MOST_KEYS.true, ap (λ (t : List Reassembled). length t) (c.as_slice-2.ensures.value ∙ c.self.view_is))),
  refl,
)

pub invariant_of-self-in-Ok : goal.invariant_of-self-in-Ok
invariant_of-self-in-Ok c =
    let place = at_view _ _ _ _ _ _ c.as_slice.ensures.value c.of-key.ensures c.place.ensures c.in_default.is in
    let few : length c.self.inside.slots.items < 8 = omega (arith, c.if-as_slice-ge-MOST_KEYS.false, ap (λ (t : List Reassembled). length t) c.as_slice-2.ensures.value) in
    let ok = subst (λ (k : Key). Takes (opened k) (delivery c.args.segment.now) (Ok c.in-Ok.taken) c.in-Ok.reassembly) c.of-key.ensures c.in-Ok.ensures.ok in
    let done = takes_new c.self.inside.slots.items c.args.peer (delivery c.args.segment.now) c.in-Ok.taken c.in-Ok.reassembly few place ok in
    let items = pushed c.push.result c.is_err.result c.push.new.self.items _ _ c.is_err.ensures.value c.if-is_err.false c.push.ensures.items in
    subst IsDesk (sym items) (desk_takes c.self.inside.slots.items _ c.args.peer (delivery c.args.segment.now) (Ok c.in-Ok.taken) c.self.invariant done)

pub returns-then-is_err-clause-step : goal.returns-then-is_err-clause-step
returns-then-is_err-clause-step c =
    let items = not_pushed c.push.result c.is_err.result c.push.new.self.items _ _ c.is_err.ensures.value c.if-is_err.true c.push.ensures.items ∙ c.self.view_is in
    let few : length c.args.self.now < 8 = omega (arith, c.if-as_slice-ge-MOST_KEYS.false, ap (λ (t : List Reassembled). length t) (c.as_slice-2.ensures.value ∙ c.self.view_is)) in
    subst (λ (new : List Reassembled). DeskTakes c.args.self.now c.args.peer (delivery c.args.segment.now) (Err OutOfMemory) new) (sym items) (memory_new c.args.self.now c.args.peer (delivery c.args.segment.now) few (at_view _ _ _ _ _ _ (c.as_slice.ensures.value ∙ c.self.view_is) c.of-key.ensures c.place.ensures c.in_default.is) c.in-Ok.ensures.fits)

pub returns-else-is_err-clause-step : goal.returns-else-is_err-clause-step
returns-else-is_err-clause-step c =
    let place = at_view _ _ _ _ _ _ c.as_slice.ensures.value c.of-key.ensures c.place.ensures c.in_default.is in
    let few : length c.self.inside.slots.items < 8 = omega (arith, c.if-as_slice-ge-MOST_KEYS.false, ap (λ (t : List Reassembled). length t) c.as_slice-2.ensures.value) in
    let ok = subst (λ (k : Key). Takes (opened k) (delivery c.args.segment.now) (Ok c.in-Ok.taken) c.in-Ok.reassembly) c.of-key.ensures c.in-Ok.ensures.ok in
    let done = takes_new c.self.inside.slots.items c.args.peer (delivery c.args.segment.now) c.in-Ok.taken c.in-Ok.reassembly few place ok in
    let items = pushed c.push.result c.is_err.result c.push.new.self.items _ _ c.is_err.ensures.value c.if-is_err.false c.push.ensures.items in
    subst (λ (old : List Reassembled). DeskTakes old c.args.peer (delivery c.args.segment.now) (Ok c.in-Ok.taken) c.push.new.self.items) c.self.view_is
    (subst (λ (new : List Reassembled). DeskTakes c.self.inside.slots.items c.args.peer (delivery c.args.segment.now) (Ok c.in-Ok.taken) new) (sym items) done)

pub returns-in-Err-clause-step : goal.returns-in-Err-clause-step
returns-in-Err-clause-step c =
    let few : length c.args.self.now < 8 = omega (arith, c.if-as_slice-ge-MOST_KEYS.false, ap (λ (t : List Reassembled). length t) (c.as_slice-2.ensures.value ∙ c.self.view_is)) in
    fault_new c.args.self.now c.args.peer (delivery c.args.segment.now) c.in-Err.fault few (at_view _ _ _ _ _ _ (c.as_slice.ensures.value ∙ c.self.view_is) c.of-key.ensures c.place.ensures c.in_default.is) c.in-Err.ensures.err.0 c.in-Err.ensures.err.1 c.in-Err.ensures.err.2
