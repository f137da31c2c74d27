use Rattle.std.proofs.Common.{◌≡◌, ◌++◌, ℕ, List, false, true, take, drop, sym, ◌∙◌, arith, length-drop}
use Rattle.std.proofs.lemmas.List.{take_rest}
use Rattle.bac_data.specs.Progress.{part}
use Rattle.bac_data.specs.Reading.{item_event}
use Rattle.bac_data.proofs.ProgressLemmas.{next_opens, closes_here, continues_none, continues_listed, continues_more}
use Rattle.bac_data.proofs.reading.read_canonical.Goals.{else-is_closed-via-then-is_closed+else-ends, else-is_closed-via-else-is_closed}
use Rattle.bac_data.proofs.reading.read_canonical.Goals as goal

pub loop-item-init : goal.loop-item-init
loop-item-init c = (omega arith, c.requires.from, λ es canonical numbers h long. continues_none c.args.number c.args.octets.now c.args.from c.args.nodes.now es canonical numbers h)

pub returns-then-ends-clause-closes : goal.returns-then-ends-clause-closes
returns-then-ends-clause-closes c =
    let stands = rw take_rest at c.in-Some.ensures in
    closes_here c.args.number c.args.octets.now c.loop-item.place c.in-Some.taken c.loop-item.nodes c.in-Some.item c.place-room.result.0 c.place-room.result.1 stands (c.ends.ensures.0 c.if-ends.true) (c.is_closed.ensures.0 c.if-is_closed.true)

pub add-requires-clause-may : goal.add-requires-clause-may
add-requires-clause-may c =
    let stands = rw take_rest at c.in-Some.ensures in
    let (es, canonical, numbers, lists, long) = c.requires.lists in
    let k = c.loop-item.invariant.2 es canonical numbers lists long in
    let place = c.loop-item.place in
    let octets = c.args.octets.now in
    let event = item_event c.in-Some.item in
    let held : List ℕ = canonical ++ part octets c.args.from place in
    let b = next_opens c.args.number c.loop-item.nodes (es ++ k.more) held k.numbers c.place-room.result.0 c.place-room.result.1 event k.lists c.place-room.ensures.room c.place-room.ensures.closing stands.stands (λ none e.
    elim c.else-is_closed.branch [
      | else-is_closed-via-then-is_closed+else-ends w ↦ absurd (let i : false ≡ true = sym w.if-ends.false ∙ w.ends.ensures.1 e in cc)
      | else-is_closed-via-else-is_closed w ↦ absurd (let i : false ≡ true = sym w.if-is_closed.false ∙ c.is_closed.ensures.1 none in cc)
    ]) in (
      c.args.number,
      es ++ k.more,
      held,
      take c.in-Some.taken (drop place octets),
      k.numbers,
      b.0,
      continues_listed c.args.number octets c.args.from place c.in-Some.taken c.args.held c.loop-item.nodes es canonical k c.loop-item.invariant.0 c.loop-item.invariant.1 c.in-Some.item c.place-room.result.0 c.place-room.result.1 stands long b.0 b.1 _ (omega arith),
    )

pub loop-item-preserved : goal.loop-item-preserved
loop-item-preserved c =
    let stands = rw take_rest at c.in-Some.ensures in (
      omega (arith, c.loop-item.invariant.0),
      omega (arith, stands.within, c.loop-item.invariant.1, length-drop c.loop-item.place c.args.octets.now),
      λ es canonical numbers lists long.
          let k = c.loop-item.invariant.2 es canonical numbers lists long in
          let place = c.loop-item.place in
          let octets = c.args.octets.now in
          let event = item_event c.in-Some.item in
          let held : List ℕ = canonical ++ part octets c.args.from place in
          let b = next_opens c.args.number c.loop-item.nodes (es ++ k.more) held k.numbers c.place-room.result.0 c.place-room.result.1 event k.lists c.place-room.ensures.room c.place-room.ensures.closing stands.stands (λ none e.
          elim c.else-is_closed.branch [
            | else-is_closed-via-then-is_closed+else-ends w ↦ absurd (let i : false ≡ true = sym w.if-ends.false ∙ w.ends.ensures.1 e in cc)
            | else-is_closed-via-else-is_closed w ↦ absurd (let i : false ≡ true = sym w.if-is_closed.false ∙ c.is_closed.ensures.1 none in cc)
          ]) in
          continues_more c.args.number octets c.args.from place c.in-Some.taken c.args.held c.loop-item.nodes es canonical k c.loop-item.invariant.0 c.loop-item.invariant.1 c.in-Some.item c.place-room.result.0 c.place-room.result.1 stands long b.0 _
          (c.in_ok-add.ensures c.args.number (es ++ k.more) held (take c.in-Some.taken (drop place octets)) k.numbers b.0
          (continues_listed c.args.number octets c.args.from place c.in-Some.taken c.args.held c.loop-item.nodes es canonical k c.loop-item.invariant.0 c.loop-item.invariant.1 c.in-Some.item c.place-room.result.0 c.place-room.result.1 stands long b.0 b.1 _ (omega arith))),
    )
