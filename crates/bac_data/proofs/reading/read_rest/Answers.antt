use Rattle.std.proofs.Common.{◌≡◌, ◌+◌, ◌-◌, ℕ, List, Option, false, true, take, drop, sym, ◌∙◌, subst, arith, length-drop}
use Rattle.std.specs.Prelude.{IfOk}
use Rattle.std.proofs.lemmas.List.{take_rest}
use Rattle.bac_tag.specs.Octets.{IsMark}
use Rattle.bac_data.specs.Events.{Event}
use Rattle.bac_data.specs.HeldLists.{octets_of, nodes_of}
use Rattle.bac_data.specs.Listings.{listed_nodes}
use Rattle.bac_data.specs.NodeEvents.{node_events}
use Rattle.bac_data.specs.Progress.{held_so_far, Progress, Closes}
use Rattle.bac_data.specs.Reading.{item_event}
use Rattle.bac_data.proofs.AnyLemmas.{refused_behind_events}
use Rattle.bac_data.proofs.DepthLemmas.{too_deep_behind}
use Rattle.bac_data.proofs.ReasonLemmas.{item_memory}
use Rattle.bac_data.proofs.ReadingSteps.{closing_item}
use Rattle.bac_data.proofs.ProgressLemmas.{listed_place, listed_small, next_opens, listed_held, so_far_least, held_valid, held_value, found_value, found_read, found_marked, ended_read, ended_marked, closed_read, closed_marked, some_mark, some_then}
use Rattle.bac_data.proofs.reading.read_rest.Goals.{else-is_closed-via-then-is_closed+else-ends, else-is_closed-via-else-is_closed}
use Rattle.bac_data.proofs.reading.read_rest.Goals as goal

pub loop-found-init : goal.loop-found-init
loop-found-init c = subst (λ (kept : List ℕ). Progress c.args.number c.args.octets.now c.args.start c.args.place kept c.args.mark c.args.nodes) (sym c.new-kept.ensures) c.requires.progress

pub read_item-requires : goal.read_item-requires
read_item-requires c =
    let octets = c.args.octets.now in
    let number = c.args.number in
    let start = c.args.start in
    let place = c.loop-found.place in
    let p = c.loop-found.invariant in
    let held = held_so_far octets start place c.loop-found.kept c.loop-found.mark in
    listed_small number c.loop-found.nodes p.es held p.numbers c.place-room.result.1 c.requires.number p.lists c.place-room.ensures.closing

pub returns-in-Err-clause-refused : goal.returns-in-Err-clause-refused
returns-in-Err-clause-refused c = λ w.
    let octets = c.args.octets.now in
    let number = c.args.number in
    let start = c.args.start in
    let place = c.loop-found.place in
    let p = c.loop-found.invariant in
    let held = held_so_far octets start place c.loop-found.kept c.loop-found.mark in
    rw c.behind.ensures (refused_behind_events number octets place p.es c.place-room.result.0 c.place-room.result.1 c.in-Err.refusal (record { within = p.within; spelled = p.spelled })
    (listed_place number c.loop-found.nodes p.es held p.numbers c.place-room.result.0 c.place-room.result.1 p.lists c.place-room.ensures.room c.place-room.ensures.closing) (rw take_rest at c.in-Err.ensures.refused))

pub returns-in-Err-clause-depth : goal.returns-in-Err-clause-depth
returns-in-Err-clause-depth c =
    let octets = c.args.octets.now in
    let number = c.args.number in
    let start = c.args.start in
    let place = c.loop-found.place in
    let p = c.loop-found.invariant in
    let held = held_so_far octets start place c.loop-found.kept c.loop-found.mark in
    rw c.behind.ensures (too_deep_behind number octets place p.es c.place-room.result.0 c.place-room.result.1 c.in-Err.refusal (record { within = p.within; spelled = p.spelled })
    (listed_place number c.loop-found.nodes p.es held p.numbers c.place-room.result.0 c.place-room.result.1 p.lists c.place-room.ensures.room c.place-room.ensures.closing) (rw take_rest at c.in-Err.ensures.depth))

pub returns-in-Err-clause-memory : goal.returns-in-Err-clause-memory
returns-in-Err-clause-memory c = λ w. absurd (item_memory c.in-Err.refusal.why c.in-Err.ensures.reasons (rw c.behind.ensures at w))

pub hold_kept-held-requires : goal.hold_kept-held-requires
hold_kept-held-requires c = let p = c.loop-found.invariant in (c.args.number, p.es, p.numbers, p.lists)

pub finish-requires : goal.finish-requires
finish-requires c =
    let octets = c.args.octets.now in
    let number = c.args.number in
    let start = c.args.start in
    let place = c.loop-found.place in
    let p = c.loop-found.invariant in
    let held = held_so_far octets start place c.loop-found.kept c.loop-found.mark in
    let stand = rw take_rest at c.in-Ok.ensures.found in
    let lies = rw take_rest at c.in-Ok.ensures.parts in
    let closed = c.is_closed.ensures.0 c.if-is_closed.true in
    let is = c.ends.ensures.0 c.if-ends.true in
    let none = listed_held number c.loop-found.nodes p.es held p.numbers p.lists closed (so_far_least number octets start place c.loop-found.kept c.loop-found.mark p.es p.begun p.opened p.marked p.keeps) in
    held_valid c.hold_kept-held.result held (listed_nodes c.loop-found.nodes) c.hold_kept-held.ensures.octets c.hold_kept-held.ensures.nodes c.hold_kept-held.ensures.sound none

pub returns-then-ends-clause-found : goal.returns-then-ends-clause-found
returns-then-ends-clause-found c =
    let octets = c.args.octets.now in
    let number = c.args.number in
    let start = c.args.start in
    let place = c.loop-found.place in
    let p = c.loop-found.invariant in
    let held = held_so_far octets start place c.loop-found.kept c.loop-found.mark in
    let stand = rw take_rest at c.in-Ok.ensures.found in
    let lies = rw take_rest at c.in-Ok.ensures.parts in
    let closed = c.is_closed.ensures.0 c.if-is_closed.true in
    let is = c.ends.ensures.0 c.if-ends.true in
    let none = listed_held number c.loop-found.nodes p.es held p.numbers p.lists closed (so_far_least number octets start place c.loop-found.kept c.loop-found.mark p.es p.begun p.opened p.marked p.keeps) in
    let value = found_value c.finish.result (λ (es : List Event). IfOk c.hold_kept-held.result (λ h. node_events (octets_of h) (nodes_of h) ≡ es)) p.es c.finish.ensures.value
    (held_value c.hold_kept-held.result held (listed_nodes c.loop-found.nodes) p.es c.hold_kept-held.ensures.octets c.hold_kept-held.ensures.nodes p.lists.listed.are_nodes.events_are) in
    found_read c.finish.result number octets (place + c.in-Ok.found.2) p.es value c.finish.ensures.taken (λ v same.
    let whole : place + c.in-Ok.found.1 - place ≡ c.in-Ok.found.1 = omega arith in
    let (own, told, joined) = c.mark_closing-behind.ensures in
    ended_read number c.requires.number octets start place c.loop-found.kept c.loop-found.mark c.loop-found.nodes p v same closed c.in-Ok.found.0 c.in-Ok.found.1 c.in-Ok.found.2 own c.mark_closing-behind.result is (closing_item c.in-Ok.found.0 number is) lies stand.within stand.spelled.spelled
    (λ b q. subst (λ (k : ℕ). IsMark (take k (drop place octets)) b own) whole (told b q)) joined)

pub returns-then-ends-clause-mark : goal.returns-then-ends-clause-mark
returns-then-ends-clause-mark c =
    let octets = c.args.octets.now in
    let number = c.args.number in
    let start = c.args.start in
    let place = c.loop-found.place in
    let p = c.loop-found.invariant in
    let held = held_so_far octets start place c.loop-found.kept c.loop-found.mark in
    let stand = rw take_rest at c.in-Ok.ensures.found in
    let lies = rw take_rest at c.in-Ok.ensures.parts in
    let closed = c.is_closed.ensures.0 c.if-is_closed.true in
    let is = c.ends.ensures.0 c.if-ends.true in
    let none = listed_held number c.loop-found.nodes p.es held p.numbers p.lists closed (so_far_least number octets start place c.loop-found.kept c.loop-found.mark p.es p.begun p.opened p.marked p.keeps) in
    let value = found_value c.finish.result (λ (es : List Event). IfOk c.hold_kept-held.result (λ h. node_events (octets_of h) (nodes_of h) ≡ es)) p.es c.finish.ensures.value
    (held_value c.hold_kept-held.result held (listed_nodes c.loop-found.nodes) p.es c.hold_kept-held.ensures.octets c.hold_kept-held.ensures.nodes p.lists.listed.are_nodes.events_are) in
    found_marked c.finish.result number octets (place + c.in-Ok.found.2) c.mark_closing-behind.result p.es value c.finish.ensures.taken c.finish.ensures.mark (λ v same.
    let whole : place + c.in-Ok.found.1 - place ≡ c.in-Ok.found.1 = omega arith in
    let (own, told, joined) = c.mark_closing-behind.ensures in
    ended_marked number c.requires.number octets start place c.loop-found.kept c.loop-found.mark c.loop-found.nodes p v same closed c.in-Ok.found.0 c.in-Ok.found.1 c.in-Ok.found.2 own c.mark_closing-behind.result is (closing_item c.in-Ok.found.0 number is) lies stand.within stand.spelled.spelled
    (λ b q. subst (λ (k : ℕ). IsMark (take k (drop place octets)) b own) whole (told b q)) joined)

pub keep_item-requires-clause-within : goal.keep_item-requires-clause-within
keep_item-requires-clause-within c = let stand = rw take_rest at c.in-Ok.ensures.found in omega (arith, stand.within, c.loop-found.invariant.within, length-drop c.loop-found.place c.args.octets.now)

pub keep_item-requires-clause-lies : goal.keep_item-requires-clause-lies
keep_item-requires-clause-lies c = rw take_rest at c.in-Ok.ensures.parts

pub keep_item-requires-clause-spelled : goal.keep_item-requires-clause-spelled
keep_item-requires-clause-spelled c = let stand = rw take_rest at c.in-Ok.ensures.found in stand.spelled.spelled

pub keep_item-requires-clause-progress : goal.keep_item-requires-clause-progress
keep_item-requires-clause-progress c =
    let octets = c.args.octets.now in
    let number = c.args.number in
    let start = c.args.start in
    let place = c.loop-found.place in
    let p = c.loop-found.invariant in
    let held = held_so_far octets start place c.loop-found.kept c.loop-found.mark in
    let stand = rw take_rest at c.in-Ok.ensures.found in
    let b = next_opens number c.loop-found.nodes p.es held p.numbers c.place-room.result.0 c.place-room.result.1 (item_event c.in-Ok.found.0) p.lists c.place-room.ensures.room c.place-room.ensures.closing stand.spelled.stands (λ none e.
    elim c.else-is_closed.branch [
      | else-is_closed-via-then-is_closed+else-ends w ↦ absurd (let i : false ≡ true = sym w.if-ends.false ∙ w.ends.ensures.1 e in cc)
      | else-is_closed-via-else-is_closed w ↦ absurd (let i : false ≡ true = sym w.if-is_closed.false ∙ c.is_closed.ensures.1 none in cc)
    ]) in
    (number, p, b.0, b.1)

pub loop-found-preserved-then-is_none : goal.loop-found-preserved-then-is_none
loop-found-preserved-then-is_none c =
    let octets = c.args.octets.now in
    let number = c.args.number in
    let start = c.args.start in
    let place = c.loop-found.place in
    let p = c.loop-found.invariant in
    let held = held_so_far octets start place c.loop-found.kept c.loop-found.mark in
    let stand = rw take_rest at c.in-Ok.ensures.found in
    let b = next_opens number c.loop-found.nodes p.es held p.numbers c.place-room.result.0 c.place-room.result.1 (item_event c.in-Ok.found.0) p.lists c.place-room.ensures.room c.place-room.ensures.closing stand.spelled.stands (λ none e.
    elim c.else-is_closed.branch [
      | else-is_closed-via-then-is_closed+else-ends w ↦ absurd (let i : false ≡ true = sym w.if-ends.false ∙ w.ends.ensures.1 e in cc)
      | else-is_closed-via-else-is_closed w ↦ absurd (let i : false ≡ true = sym w.if-is_closed.false ∙ c.is_closed.ensures.1 none in cc)
    ]) in
    c.in-Ok-keep_item.ensures number p b.0 b.1

pub keep_canonical-requires-clause-progress : goal.keep_canonical-requires-clause-progress
keep_canonical-requires-clause-progress c =
    let octets = c.args.octets.now in
    let number = c.args.number in
    let start = c.args.start in
    let place = c.loop-found.place in
    let p = c.loop-found.invariant in
    let held = held_so_far octets start place c.loop-found.kept c.loop-found.mark in
    let stand = rw take_rest at c.in-Ok.ensures.found in
    let b = next_opens number c.loop-found.nodes p.es held p.numbers c.place-room.result.0 c.place-room.result.1 (item_event c.in-Ok.found.0) p.lists c.place-room.ensures.room c.place-room.ensures.closing stand.spelled.stands (λ none e.
    elim c.else-is_closed.branch [
      | else-is_closed-via-then-is_closed+else-ends w ↦ absurd (let i : false ≡ true = sym w.if-ends.false ∙ w.ends.ensures.1 e in cc)
      | else-is_closed-via-else-is_closed w ↦ absurd (let i : false ≡ true = sym w.if-is_closed.false ∙ c.is_closed.ensures.1 none in cc)
    ]) in
    let (k, e) = some_mark c.in-Ok-keep_item.joined c.is_none.result c.is_none.ensures c.if-is_none.false in
    (start, k, subst (λ (m : Option ℕ). Progress number octets start (place + c.in-Ok.found.2) c.keep_item.new.kept m c.keep_item.new.nodes) e (c.in-Ok-keep_item.ensures number p b.0 b.1))

pub loop-found-preserved : goal.loop-found-preserved
loop-found-preserved c =
    let octets = c.args.octets.now in
    let number = c.args.number in
    let start = c.args.start in
    let place = c.loop-found.place in
    let p = c.loop-found.invariant in
    let held = held_so_far octets start place c.loop-found.kept c.loop-found.mark in
    let stand = rw take_rest at c.in-Ok.ensures.found in
    let b = next_opens number c.loop-found.nodes p.es held p.numbers c.place-room.result.0 c.place-room.result.1 (item_event c.in-Ok.found.0) p.lists c.place-room.ensures.room c.place-room.ensures.closing stand.spelled.stands (λ none e.
    elim c.else-is_closed.branch [
      | else-is_closed-via-then-is_closed+else-ends w ↦ absurd (let i : false ≡ true = sym w.if-ends.false ∙ w.ends.ensures.1 e in cc)
      | else-is_closed-via-else-is_closed w ↦ absurd (let i : false ≡ true = sym w.if-is_closed.false ∙ c.is_closed.ensures.1 none in cc)
    ]) in
    let (k, e) = some_mark c.in-Ok-keep_item.joined c.is_none.result c.is_none.ensures c.if-is_none.false in
    let first = subst (λ (m : Option ℕ). Progress number octets start (place + c.in-Ok.found.2) c.keep_item.new.kept m c.keep_item.new.nodes) e (c.in-Ok-keep_item.ensures number p b.0 b.1) in
    subst (λ (m : Option ℕ). Progress number octets start c.in-Ok-keep_canonical.end c.keep_canonical.new.kept m c.keep_canonical.new.nodes) (sym e) (c.in-Ok-keep_canonical.ensures.progress start k first)

pub hold_kept-held-requires-in-Some : goal.hold_kept-held-requires-in-Some
hold_kept-held-requires-in-Some c =
    let octets = c.args.octets.now in
    let number = c.args.number in
    let start = c.args.start in
    let place = c.loop-found.place in
    let p = c.loop-found.invariant in
    let held = held_so_far octets start place c.loop-found.kept c.loop-found.mark in
    let stand = rw take_rest at c.in-Ok.ensures.found in
    let b = next_opens number c.loop-found.nodes p.es held p.numbers c.place-room.result.0 c.place-room.result.1 (item_event c.in-Ok.found.0) p.lists c.place-room.ensures.room c.place-room.ensures.closing stand.spelled.stands (λ none e.
    elim c.else-is_closed.branch [
      | else-is_closed-via-then-is_closed+else-ends w ↦ absurd (let i : false ≡ true = sym w.if-ends.false ∙ w.ends.ensures.1 e in cc)
      | else-is_closed-via-else-is_closed w ↦ absurd (let i : false ≡ true = sym w.if-is_closed.false ∙ c.is_closed.ensures.1 none in cc)
    ]) in
    let (k, e) = some_mark c.in-Ok-keep_item.joined c.is_none.result c.is_none.ensures c.if-is_none.false in
    let first = subst (λ (m : Option ℕ). Progress number octets start (place + c.in-Ok.found.2) c.keep_item.new.kept m c.keep_item.new.nodes) e (c.in-Ok-keep_item.ensures number p b.0 b.1) in
    let q = subst (λ (m : Option ℕ). Progress number octets start c.in-Ok-keep_canonical.end c.keep_canonical.new.kept m c.keep_canonical.new.nodes) (sym e) (c.in-Ok-keep_canonical.ensures.progress start k first) in
    let mark = c.in-Ok-keep_item.joined in
    let end = c.in-Ok-keep_canonical.end in
    let kept = c.keep_canonical.new.kept in
    let nodes = c.keep_canonical.new.nodes in
    let whole = held_so_far octets start end kept mark in
    (number, q.es, q.numbers, q.lists)

pub finish-requires-in-Some : goal.finish-requires-in-Some
finish-requires-in-Some c =
    let octets = c.args.octets.now in
    let number = c.args.number in
    let start = c.args.start in
    let place = c.loop-found.place in
    let p = c.loop-found.invariant in
    let held = held_so_far octets start place c.loop-found.kept c.loop-found.mark in
    let stand = rw take_rest at c.in-Ok.ensures.found in
    let b = next_opens number c.loop-found.nodes p.es held p.numbers c.place-room.result.0 c.place-room.result.1 (item_event c.in-Ok.found.0) p.lists c.place-room.ensures.room c.place-room.ensures.closing stand.spelled.stands (λ none e.
    elim c.else-is_closed.branch [
      | else-is_closed-via-then-is_closed+else-ends w ↦ absurd (let i : false ≡ true = sym w.if-ends.false ∙ w.ends.ensures.1 e in cc)
      | else-is_closed-via-else-is_closed w ↦ absurd (let i : false ≡ true = sym w.if-is_closed.false ∙ c.is_closed.ensures.1 none in cc)
    ]) in
    let (k, e) = some_mark c.in-Ok-keep_item.joined c.is_none.result c.is_none.ensures c.if-is_none.false in
    let first = subst (λ (m : Option ℕ). Progress number octets start (place + c.in-Ok.found.2) c.keep_item.new.kept m c.keep_item.new.nodes) e (c.in-Ok-keep_item.ensures number p b.0 b.1) in
    let q = subst (λ (m : Option ℕ). Progress number octets start c.in-Ok-keep_canonical.end c.keep_canonical.new.kept m c.keep_canonical.new.nodes) (sym e) (c.in-Ok-keep_canonical.ensures.progress start k first) in
    let mark = c.in-Ok-keep_item.joined in
    let end = c.in-Ok-keep_canonical.end in
    let kept = c.keep_canonical.new.kept in
    let nodes = c.keep_canonical.new.nodes in
    let whole = held_so_far octets start end kept mark in
    let closes = some_then (Closes number octets end nodes) c.in-Ok-keep_canonical.closed c.in-Some.taken c.in-Some.is c.in-Ok-keep_canonical.ensures.closes in
    let none = listed_held number nodes q.es whole q.numbers q.lists closes.closed (so_far_least number octets start end kept mark q.es q.begun q.opened q.marked q.keeps) in
    held_valid c.hold_kept-held-in-Some.result whole (listed_nodes nodes) c.hold_kept-held-in-Some.ensures.octets c.hold_kept-held-in-Some.ensures.nodes c.hold_kept-held-in-Some.ensures.sound none

pub returns-in-Some-clause-found : goal.returns-in-Some-clause-found
returns-in-Some-clause-found c =
    let octets = c.args.octets.now in
    let number = c.args.number in
    let start = c.args.start in
    let place = c.loop-found.place in
    let p = c.loop-found.invariant in
    let held = held_so_far octets start place c.loop-found.kept c.loop-found.mark in
    let stand = rw take_rest at c.in-Ok.ensures.found in
    let b = next_opens number c.loop-found.nodes p.es held p.numbers c.place-room.result.0 c.place-room.result.1 (item_event c.in-Ok.found.0) p.lists c.place-room.ensures.room c.place-room.ensures.closing stand.spelled.stands (λ none e.
    elim c.else-is_closed.branch [
      | else-is_closed-via-then-is_closed+else-ends w ↦ absurd (let i : false ≡ true = sym w.if-ends.false ∙ w.ends.ensures.1 e in cc)
      | else-is_closed-via-else-is_closed w ↦ absurd (let i : false ≡ true = sym w.if-is_closed.false ∙ c.is_closed.ensures.1 none in cc)
    ]) in
    let (k, e) = some_mark c.in-Ok-keep_item.joined c.is_none.result c.is_none.ensures c.if-is_none.false in
    let first = subst (λ (m : Option ℕ). Progress number octets start (place + c.in-Ok.found.2) c.keep_item.new.kept m c.keep_item.new.nodes) e (c.in-Ok-keep_item.ensures number p b.0 b.1) in
    let q = subst (λ (m : Option ℕ). Progress number octets start c.in-Ok-keep_canonical.end c.keep_canonical.new.kept m c.keep_canonical.new.nodes) (sym e) (c.in-Ok-keep_canonical.ensures.progress start k first) in
    let mark = c.in-Ok-keep_item.joined in
    let end = c.in-Ok-keep_canonical.end in
    let kept = c.keep_canonical.new.kept in
    let nodes = c.keep_canonical.new.nodes in
    let whole = held_so_far octets start end kept mark in
    let closes = some_then (Closes number octets end nodes) c.in-Ok-keep_canonical.closed c.in-Some.taken c.in-Some.is c.in-Ok-keep_canonical.ensures.closes in
    let value = found_value c.finish-in-Some.result (λ (es : List Event). IfOk c.hold_kept-held-in-Some.result (λ h. node_events (octets_of h) (nodes_of h) ≡ es)) q.es c.finish-in-Some.ensures.value
    (held_value c.hold_kept-held-in-Some.result whole (listed_nodes nodes) q.es c.hold_kept-held-in-Some.ensures.octets c.hold_kept-held-in-Some.ensures.nodes q.lists.listed.are_nodes.events_are) in
    found_read c.finish-in-Some.result number octets (end + c.in-Some.taken) q.es value c.finish-in-Some.ensures.taken (λ v same. closed_read number c.requires.number octets start end kept mark nodes q v same closes.closed c.in-Some.taken closes)

pub returns-in-Some-clause-mark : goal.returns-in-Some-clause-mark
returns-in-Some-clause-mark c =
    let octets = c.args.octets.now in
    let number = c.args.number in
    let start = c.args.start in
    let place = c.loop-found.place in
    let p = c.loop-found.invariant in
    let held = held_so_far octets start place c.loop-found.kept c.loop-found.mark in
    let stand = rw take_rest at c.in-Ok.ensures.found in
    let b = next_opens number c.loop-found.nodes p.es held p.numbers c.place-room.result.0 c.place-room.result.1 (item_event c.in-Ok.found.0) p.lists c.place-room.ensures.room c.place-room.ensures.closing stand.spelled.stands (λ none e.
    elim c.else-is_closed.branch [
      | else-is_closed-via-then-is_closed+else-ends w ↦ absurd (let i : false ≡ true = sym w.if-ends.false ∙ w.ends.ensures.1 e in cc)
      | else-is_closed-via-else-is_closed w ↦ absurd (let i : false ≡ true = sym w.if-is_closed.false ∙ c.is_closed.ensures.1 none in cc)
    ]) in
    let (k, e) = some_mark c.in-Ok-keep_item.joined c.is_none.result c.is_none.ensures c.if-is_none.false in
    let first = subst (λ (m : Option ℕ). Progress number octets start (place + c.in-Ok.found.2) c.keep_item.new.kept m c.keep_item.new.nodes) e (c.in-Ok-keep_item.ensures number p b.0 b.1) in
    let q = subst (λ (m : Option ℕ). Progress number octets start c.in-Ok-keep_canonical.end c.keep_canonical.new.kept m c.keep_canonical.new.nodes) (sym e) (c.in-Ok-keep_canonical.ensures.progress start k first) in
    let mark = c.in-Ok-keep_item.joined in
    let end = c.in-Ok-keep_canonical.end in
    let kept = c.keep_canonical.new.kept in
    let nodes = c.keep_canonical.new.nodes in
    let whole = held_so_far octets start end kept mark in
    let closes = some_then (Closes number octets end nodes) c.in-Ok-keep_canonical.closed c.in-Some.taken c.in-Some.is c.in-Ok-keep_canonical.ensures.closes in
    let value = found_value c.finish-in-Some.result (λ (es : List Event). IfOk c.hold_kept-held-in-Some.result (λ h. node_events (octets_of h) (nodes_of h) ≡ es)) q.es c.finish-in-Some.ensures.value
    (held_value c.hold_kept-held-in-Some.result whole (listed_nodes nodes) q.es c.hold_kept-held-in-Some.ensures.octets c.hold_kept-held-in-Some.ensures.nodes q.lists.listed.are_nodes.events_are) in
    found_marked c.finish-in-Some.result number octets (end + c.in-Some.taken) mark q.es value c.finish-in-Some.ensures.taken c.finish-in-Some.ensures.mark (λ v same. closed_marked number c.requires.number octets start end kept mark nodes q v same closes.closed c.in-Some.taken closes)
