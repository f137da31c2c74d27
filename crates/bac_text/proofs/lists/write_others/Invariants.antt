use Rattle.std.proofs.Common.{◌≡◌, ◌≤◌, ◌++◌, length, take}
use Rattle.std.specs.Prelude.{codes}
use Rattle.std.specs.List.{flat_map}
use Rattle.bac_text.proofs.lists.write_others.Given as goal

abbrev pub invariant-loop-item : goal.invariant-loop-item
invariant-loop-item g l =
    (l.end ≤ length l.out.items) × (take l.end l.out.items ≡ take l.at l.fn.out.items ++ flat_map (λ item. codes " " ++ g.T.HasText.text item) (take l.item-index l.items))
