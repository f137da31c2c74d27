use Rattle.std.proofs.Common.{◌≡◌, ◌≤◌, ◌++◌, length, take}
use Rattle.bac_tag.specs.Octets.{Extends}
use Rattle.bac_text.specs.Words.{field}
use Rattle.bac_text.specs.OpenValueText.{elements_text}
use Rattle.bac_text.specs.WalkText.{events_text}
use Rattle.bac_text.proofs.open_values.AnyHasText.write_text.Given as goal

-- what was written is a front of the text, and the events that are left give the rest
abbrev pub invariant-loop-event : goal.invariant-loop-event
invariant-loop-event l =
    (l.end ≤ length l.out.items)
    × Extends (take l.at l.fn.out.items) (take l.end l.out.items)
    × (take l.end l.out.items ++ events_text l.first l.event-iterator ≡ take l.at l.fn.out.items ++ field "{" (elements_text l.self))
