use Rattle.std.proofs.Common.{take, arith, length-take}
use Rattle.std.proofs.lemmas.Option.{IfSome_then}
use Rattle.bac_tag.specs.Laws.Spelling.{IsLeast-one}
use Rattle.bac_data.specs.Events.{SpellsEvent}
use Rattle.bac_data.specs.Reading.{item_event}
use Rattle.bac_data.proofs.MarkLemmas.{ItemMark, mark_inside}
use Rattle.bac_data.proofs.checking.check_item.Goals as goal

pub returns-in-Some-clause-mark : goal.returns-in-Some-clause-mark
returns-in-Some-clause-mark c = λ b p. IsLeast-one (SpellsEvent (item_event c.in-Some.item)) (take c.in-Some.taken c.args.octets.now) b c.in-Some.ensures.least p

pub returns-clause-within : goal.returns-clause-within
returns-clause-within c =
    let octets = take c.in_ok-item.taken c.args.octets.now in
    let marks : ItemMark octets c.in_ok-item.item c.mark_item-mark.result = c.mark_item-mark.ensures in
    IfSome_then c.mark_item-mark.result (mark_inside octets c.in_ok-item.item c.mark_item-mark.result c.in_ok-item.ensures.item marks) (λ place h. omega (arith, h, length-take c.in_ok-item.taken c.args.octets.now))
