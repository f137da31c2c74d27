use Rattle.std.proofs.Common.{◌≡◌, ◌+◌, ℕ, List, [], None, take, refl, subst}
use Rattle.std.specs.Prelude.{IfOk}
use Rattle.std.proofs.lemmas.Result.{err_from_is_err_and}
use Rattle.bac_tag.specs.Heads.{Heads}
use Rattle.bac_tag.specs.Octets.{IsMark}
use Rattle.bac_tag.specs.Spelling.{IsLeast}
use Rattle.bac_tag.specs.declared.heads.TagHead.TheVariants.{Open}
use Rattle.bac_data.specs.Events.{Event}
use Rattle.bac_data.specs.HeldLists.{octets_of, nodes_of}
use Rattle.bac_data.specs.Listings.{listed_nodes}
use Rattle.bac_data.specs.NodeEvents.{node_events}
use Rattle.bac_data.specs.Progress.{held_so_far, Closes}
use Rattle.bac_data.proofs.ProgressLemmas.{progress_opening, progress_first, listed_held, so_far_least, held_valid, held_value, found_value, found_read, found_marked, closed_read, closed_marked, none_mark, some_then}
use Rattle.bac_data.proofs.reading.read_any_marked.Goals as goal

pub returns-in_err-start-clause-refused : goal.returns-in_err-start-clause-refused
returns-in_err-start-clause-refused c =
    let p = err_from_is_err_and c.from_residual.result c.from_residual.ensures.1 in
    rw (p.1, p.2) (λ w. c.in_err-start.ensures.refused)

pub read_rest-requires-clause-progress : goal.read_rest-requires-clause-progress
read_rest-requires-clause-progress c = progress_opening c.args.number c.args.octets.now c.in_ok-start.start c.in_ok-start.mark c.new-nodes.result c.requires c.in_ok-start.ensures.within c.in_ok-start.ensures.opened c.in_ok-start.ensures.mark c.new-nodes.ensures

pub read_canonical-requires-clause-lists : goal.read_canonical-requires-clause-lists
read_canonical-requires-clause-lists c = ([], [], [], c.new-nodes.ensures, refl)

pub hold-requires : goal.hold-requires
hold-requires c =
    let octets = c.args.octets.now in
    let number = c.args.number in
    let start = c.in_ok-start.start in
    let end = c.in-Ok.end in
    let nodes = c.read_canonical.new.nodes in
    let unmarked = none_mark c.in_ok-start.mark c.is_some.result c.is_some.ensures c.if-is_some.false in
    let marks : (b : List ℕ) → IsLeast (Heads (Open number)) b → IsMark (take start octets) b None = λ b q. subst (IsMark (take start octets) b) unmarked (c.in_ok-start.ensures.mark b q) in
    let p = progress_first number octets start end c.new-nodes.result nodes c.requires c.in_ok-start.ensures.within c.in_ok-start.ensures.opened marks c.new-nodes.ensures c.in-Ok.ensures.from c.in-Ok.ensures.within (c.in-Ok.ensures.continues [] [] [] c.new-nodes.ensures refl) in
    (number, p.es, p.numbers, p.lists)

pub finish-requires : goal.finish-requires
finish-requires c =
    let octets = c.args.octets.now in
    let number = c.args.number in
    let start = c.in_ok-start.start in
    let end = c.in-Ok.end in
    let nodes = c.read_canonical.new.nodes in
    let unmarked = none_mark c.in_ok-start.mark c.is_some.result c.is_some.ensures c.if-is_some.false in
    let marks : (b : List ℕ) → IsLeast (Heads (Open number)) b → IsMark (take start octets) b None = λ b q. subst (IsMark (take start octets) b) unmarked (c.in_ok-start.ensures.mark b q) in
    let p = progress_first number octets start end c.new-nodes.result nodes c.requires c.in_ok-start.ensures.within c.in_ok-start.ensures.opened marks c.new-nodes.ensures c.in-Ok.ensures.from c.in-Ok.ensures.within (c.in-Ok.ensures.continues [] [] [] c.new-nodes.ensures refl) in
    let closes = some_then (Closes number octets end nodes) c.in-Ok.closed c.in-Some.taken c.in-Some.is c.in-Ok.ensures.closes in
    let held = held_so_far octets start end [] None in
    let none = listed_held number nodes p.es held p.numbers p.lists closes.closed (so_far_least number octets start end [] None p.es p.begun p.opened p.marked p.keeps) in
    held_valid c.hold.result held (listed_nodes nodes) c.hold.ensures.octets c.hold.ensures.nodes c.hold.ensures.sound none

pub returns-in-Some-clause-found : goal.returns-in-Some-clause-found
returns-in-Some-clause-found c =
    let octets = c.args.octets.now in
    let number = c.args.number in
    let start = c.in_ok-start.start in
    let end = c.in-Ok.end in
    let nodes = c.read_canonical.new.nodes in
    let unmarked = none_mark c.in_ok-start.mark c.is_some.result c.is_some.ensures c.if-is_some.false in
    let marks : (b : List ℕ) → IsLeast (Heads (Open number)) b → IsMark (take start octets) b None = λ b q. subst (IsMark (take start octets) b) unmarked (c.in_ok-start.ensures.mark b q) in
    let p = progress_first number octets start end c.new-nodes.result nodes c.requires c.in_ok-start.ensures.within c.in_ok-start.ensures.opened marks c.new-nodes.ensures c.in-Ok.ensures.from c.in-Ok.ensures.within (c.in-Ok.ensures.continues [] [] [] c.new-nodes.ensures refl) in
    let closes = some_then (Closes number octets end nodes) c.in-Ok.closed c.in-Some.taken c.in-Some.is c.in-Ok.ensures.closes in
    let held = held_so_far octets start end [] None in
    let value = found_value c.finish.result (λ (es : List Event). IfOk c.hold.result (λ h. node_events (octets_of h) (nodes_of h) ≡ es)) p.es c.finish.ensures.value
    (held_value c.hold.result held (listed_nodes nodes) p.es c.hold.ensures.octets c.hold.ensures.nodes p.lists.listed.are_nodes.events_are) in
    found_read c.finish.result number octets (end + c.in-Some.taken) p.es value c.finish.ensures.taken (λ v same. closed_read number c.requires octets start end [] None nodes p v same closes.closed c.in-Some.taken closes)

pub returns-in-Some-clause-mark : goal.returns-in-Some-clause-mark
returns-in-Some-clause-mark c =
    let octets = c.args.octets.now in
    let number = c.args.number in
    let start = c.in_ok-start.start in
    let end = c.in-Ok.end in
    let nodes = c.read_canonical.new.nodes in
    let unmarked = none_mark c.in_ok-start.mark c.is_some.result c.is_some.ensures c.if-is_some.false in
    let marks : (b : List ℕ) → IsLeast (Heads (Open number)) b → IsMark (take start octets) b None = λ b q. subst (IsMark (take start octets) b) unmarked (c.in_ok-start.ensures.mark b q) in
    let p = progress_first number octets start end c.new-nodes.result nodes c.requires c.in_ok-start.ensures.within c.in_ok-start.ensures.opened marks c.new-nodes.ensures c.in-Ok.ensures.from c.in-Ok.ensures.within (c.in-Ok.ensures.continues [] [] [] c.new-nodes.ensures refl) in
    let closes = some_then (Closes number octets end nodes) c.in-Ok.closed c.in-Some.taken c.in-Some.is c.in-Ok.ensures.closes in
    let held = held_so_far octets start end [] None in
    let value = found_value c.finish.result (λ (es : List Event). IfOk c.hold.result (λ h. node_events (octets_of h) (nodes_of h) ≡ es)) p.es c.finish.ensures.value
    (held_value c.hold.result held (listed_nodes nodes) p.es c.hold.ensures.octets c.hold.ensures.nodes p.lists.listed.are_nodes.events_are) in
    found_marked c.finish.result number octets (end + c.in-Some.taken) None p.es value c.finish.ensures.taken c.finish.ensures.mark (λ v same. closed_marked number c.requires octets start end [] None nodes p v same closes.closed c.in-Some.taken closes)

pub read_rest-requires-in-None-clause-progress : goal.read_rest-requires-in-None-clause-progress
read_rest-requires-in-None-clause-progress c =
    let octets = c.args.octets.now in
    let number = c.args.number in
    let start = c.in_ok-start.start in
    let end = c.in-Ok.end in
    let nodes = c.read_canonical.new.nodes in
    let unmarked = none_mark c.in_ok-start.mark c.is_some.result c.is_some.ensures c.if-is_some.false in
    let marks : (b : List ℕ) → IsLeast (Heads (Open number)) b → IsMark (take start octets) b None = λ b q. subst (IsMark (take start octets) b) unmarked (c.in_ok-start.ensures.mark b q) in
    let p = progress_first number octets start end c.new-nodes.result nodes c.requires c.in_ok-start.ensures.within c.in_ok-start.ensures.opened marks c.new-nodes.ensures c.in-Ok.ensures.from c.in-Ok.ensures.within (c.in-Ok.ensures.continues [] [] [] c.new-nodes.ensures refl) in
    p
