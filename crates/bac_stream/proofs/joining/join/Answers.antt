use Rattle.std.proofs.Common.{Ok, ap, subst, ◌∙◌}
use Rattle.bac_segment.specs.declared.keys.Key.{Key}
use Rattle.bac_segment.specs.declared.faults.Taken.{Taken}
use Rattle.bac_segment.specs.Deliveries.{delivery}
use Rattle.bac_segment.specs.Desks.{DeskTakes, held_of}
use Rattle.bac_segment.specs.Tables.{whole}
use Rattle.bac_stream.proofs.JoiningLemmas.{complete_held, some_there}
use Rattle.bac_stream.proofs.joining.join.Goals as goal

pub unwrap-octets-requires : goal.unwrap-octets-requires
unwrap-octets-requires c =
    let s = delivery c.in-Some.segment.now in
    let new = c.take.new.self in
    let step = subst (λ (t : Taken). DeskTakes c.args.desk.now c.args.peer s (Ok t) new) c.in-Ok-Complete.field-0-is c.in-Ok-Complete.ensures.step in
    let held = complete_held c.args.desk.now new c.args.peer s step in
    some_there c.octets.result held.0 (c.octets.ensures ∙ ap (λ (k : Key). whole (held_of new k)) c.of.ensures ∙ held.1)
