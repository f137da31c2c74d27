use Rattle.std.proofs.Common.{◌∙◌}
use Rattle.bac_segment.proofs.HoldingLemmas.{table_is, held_nothing, resized}
use Rattle.bac_segment.proofs.holding.Held.new.Goals as goal

pub returns-clause-held : goal.returns-clause-held
returns-clause-held c = (held_nothing _ _ c.new.ensures.items (resized _ _ _ c.in_ok-resize.ensures.items c.new-spans.ensures.items c.new-spans.ensures.len)).0

pub returns-clause-empty : goal.returns-clause-empty
returns-clause-empty c =
    let h = held_nothing _ _ c.new.ensures.items (resized _ _ _ c.in_ok-resize.ensures.items c.new-spans.ensures.items c.new-spans.ensures.len) in
    table_is h.0 ∙ h.1
