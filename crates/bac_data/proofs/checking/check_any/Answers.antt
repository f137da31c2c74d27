use Rattle.std.proofs.Common.{◌≡◌, false, true, length, refl, sym, ◌∙◌}
use Rattle.std.proofs.lemmas.Bool.{eqb-true, eq-eqb}
use Rattle.std.proofs.lemmas.List.{take_rest}
use Rattle.bac_data.specs.Reading.{item_event}
use Rattle.bac_data.proofs.AnyLemmas.{may_follow, refused_behind_events}
use Rattle.bac_data.proofs.BuildingLemmas.{groups_open, has_open_one}
use Rattle.bac_data.proofs.CheckingLemmas.{checking_begun, checking_more, checking_ended}
use Rattle.bac_data.proofs.DepthLemmas.{too_deep_behind}
use Rattle.bac_data.proofs.ReadingSteps.{is_place}
use Rattle.bac_data.proofs.checking.check_any.Goals.{else-is_empty-via-then-is_empty+else-ends, else-is_empty-via-else-is_empty}
use Rattle.bac_data.proofs.checking.check_any.Goals as goal

pub loop-found-init : goal.loop-found-init
loop-found-init c =
    let s = c.in_ok-start in
    checking_begun c.args.number c.args.octets.now s.start c.new-groups.result.items s.mark c.requires s.ensures.within s.ensures.opened s.ensures.mark c.new-groups.ensures

pub returns-in-Err-clause-refused : goal.returns-in-Err-clause-refused
returns-in-Err-clause-refused c =
    let k = c.loop-found.invariant in
    let room = c.place_in-room in
    rw c.behind.ensures (refused_behind_events c.args.number c.args.octets.now c.loop-found.place k.es room.result.0 room.result.1 c.in-Err.refusal k.read (is_place c.args.number k.es c.loop-found.groups.items room.result.0 room.result.1 k.are_open room.ensures.room room.ensures.closing)
    (rw take_rest at c.in-Err.ensures.refused))

pub returns-in-Err-clause-depth : goal.returns-in-Err-clause-depth
returns-in-Err-clause-depth c =
    let k = c.loop-found.invariant in
    let room = c.place_in-room in
    rw c.behind.ensures (too_deep_behind c.args.number c.args.octets.now c.loop-found.place k.es room.result.0 room.result.1 c.in-Err.refusal k.read (is_place c.args.number k.es c.loop-found.groups.items room.result.0 room.result.1 k.are_open room.ensures.room room.ensures.closing)
    (rw take_rest at c.in-Err.ensures.depth))

pub returns-then-ends-clause-found : goal.returns-then-ends-clause-found
returns-then-ends-clause-found c =
    let found = c.in-Ok.found in
    let stand = rw take_rest at c.in-Ok.ensures.found in
    checking_ended c.args.number c.args.octets.now c.loop-found.place found.1 c.loop-found.groups.items c.loop-found.mark found.2 c.joined_marks-mark.result found.0 c.in-Ok.ensures.item stand.within stand.spelled.spelled (rw take_rest at c.in-Ok.ensures.mark)
    c.joined_marks-mark.ensures c.loop-found.invariant (eqb-true (length c.loop-found.groups.items) 0 (sym c.is_empty.ensures ∙ c.if-is_empty.true)) (c.ends.ensures.0 c.if-ends.true)

pub follow-requires-clause-follows : goal.follow-requires-clause-follows
follow-requires-clause-follows c =
    let k = c.loop-found.invariant in
    let room = c.place_in-room in
    let groups = c.loop-found.groups.items in
    let stand = rw take_rest at c.in-Ok.ensures.found in (
      k.es,
      k.are_open,
      may_follow c.args.number k.es room.result.0 room.result.1 (item_event c.in-Ok.found.0) (is_place c.args.number k.es groups room.result.0 room.result.1 k.are_open room.ensures.room room.ensures.closing) stand.spelled.stands (λ h e.
          elim c.else-is_empty.branch [
            | else-is_empty-via-then-is_empty+else-ends w ↦ absurd (let i : false ≡ true = sym w.if-ends.false ∙ w.ends.ensures.1 e in cc)
            | else-is_empty-via-else-is_empty w ↦ absurd (let i : false ≡ true = sym w.if-is_empty.false ∙ c.is_empty.ensures ∙ eq-eqb (length groups) 0 (has_open_one k.es (length groups) 0 (groups_open k.es groups (length groups) k.are_open refl) h) in cc)
          ]),
    )

pub loop-found-preserved : goal.loop-found-preserved
loop-found-preserved c =
    let k = c.loop-found.invariant in
    let room = c.place_in-room in
    let groups = c.loop-found.groups.items in
    let found = c.in-Ok.found in
    let stand = rw take_rest at c.in-Ok.ensures.found in
    let follows = may_follow c.args.number k.es room.result.0 room.result.1 (item_event found.0) (is_place c.args.number k.es groups room.result.0 room.result.1 k.are_open room.ensures.room room.ensures.closing) stand.spelled.stands (λ h e.
    elim c.else-is_empty.branch [
      | else-is_empty-via-then-is_empty+else-ends w ↦ absurd (let i : false ≡ true = sym w.if-ends.false ∙ w.ends.ensures.1 e in cc)
      | else-is_empty-via-else-is_empty w ↦ absurd (let i : false ≡ true = sym w.if-is_empty.false ∙ c.is_empty.ensures ∙ eq-eqb (length groups) 0 (has_open_one k.es (length groups) 0 (groups_open k.es groups (length groups) k.are_open refl) h) in cc)
    ]) in
    checking_more c.args.number c.args.octets.now c.loop-found.place found.1 groups c.loop-found.mark found.2 c.joined_marks-mark.result found.0 c.in-Ok.ensures.item stand.within stand.spelled.spelled (rw take_rest at c.in-Ok.ensures.mark)
    c.joined_marks-mark.ensures k c.follow.new.groups.items (c.follow.ensures k.es k.are_open follows)
