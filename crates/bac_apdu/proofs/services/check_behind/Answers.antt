use Rattle.std.specs.Prelude.{length, take}
use Rattle.std.proofs.lemmas.List.{length-take-le}
use Rattle.bac_tag.specs.Laws.Octets.{mark_by}
use Rattle.bac_tag.specs.Octets.{IsMark}
use Rattle.bac_apdu.proofs.services.check_behind.Goals as goal

pub returns-in-Ok : goal.returns-in-Ok
returns-in-Ok c =
    let head = c.args.head.now in
    let octets = c.args.octets.now in
    let front = take (length head) octets in
    let found = rw c.split_at.ensures.back at c.in-Ok.ensures in
    let of_head : IsMark front head c.first_difference.result = mark_by front head c.first_difference.result (length-take-le (length head) octets c.requires)
    (rw c.split_at.ensures.front at c.first_difference.ensures.none) (rw c.split_at.ensures.front at c.first_difference.ensures.some) in (
      found.value,
      record { spelled = found.spelled; first = c.first_difference.result; second = c.in-Ok.mark; of_head = of_head; of_service = found.marked; mark_is = c.joined_marks.ensures },
    )
