use Rattle.std.proofs.Common.{sym, ◌∙◌}
use Rattle.bac_segment.proofs.DeskHistoryLemmas.{opened_held, part_held}
use Rattle.bac_segment.proofs.laws.segments_since_the_opening_are_held.Goals as goal

pub returns-clause-opened : goal.returns-clause-opened
returns-clause-opened c = opened_held

pub returns-clause-same : goal.returns-clause-same
returns-clause-same c = λ calls desk key runs. sym (opened_held calls desk key runs) ∙ part_held calls desk key runs
