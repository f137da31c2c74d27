use Rattle.std.proofs.Common.{◌≡◌, ℕ, ◌+◌, ◌-◌, take, drop, sym, ◌∙◌, ap, subst, arith}
use Rattle.bac_value.specs.PrimContents.{ContentsOf}
use Rattle.bac_value.specs.Laws.PrimOfContents.{prim_of_contents_is}
use Rattle.bac_data.specs.Events.{application}
use Rattle.bac_data.specs.NodeEvents.{octets_at, node_event, Lies}
use Rattle.bac_data.proofs.nodes.event_at.Goals as goal

pub returns-in-Application-clause-event : goal.returns-in-Application-clause-event
returns-in-Application-clause-event c =
    let octets = c.args.octets.now in
    let number = c.in-Application.number in
    let start = c.in-Application.start in
    let len = c.in-Application.len in
    let lies = subst (Lies octets) c.in-Application.is c.requires in
    let written = lies.2 in
    let size : start + len - start ≡ len = omega arith in
    let value = c.of_contents.ensures.value written.value (subst (λ (n : ℕ). ContentsOf number written.value (take n (drop start octets))) (sym size) written.spelled) in
    ap application (value ∙ sym (prim_of_contents_is number written.value (octets_at start len octets) written.spelled)) ∙ sym (ap (node_event octets) c.in-Application.is)
