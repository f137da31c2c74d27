use Rattle.std.proofs.Common.{sym, ◌∙◌, subst}
use Rattle.bac_segment.specs.Deliveries.{delivery}
use Rattle.bac_segment.specs.Holding.{table_in}
use Rattle.bac_segment.specs.Reassembled.{Reassembled, Takes}
use Rattle.bac_segment.proofs.TakeLemmas.{takes, same_key}
use Rattle.bac_segment.proofs.reassembly.Reassembly.take.Goals as goal

pub returns-clause-step : goal.returns-clause-step
returns-clause-step c =
    let at : Reassembled = record { key = c.self.inside.key; table = table_in c.self.inside.held } in
    let new : Reassembled = record { key = c.self.inside.key; table = table_in c.keep.new.self } in
    subst (λ (old : Reassembled). Takes old (delivery c.args.segment.now) c.keep.result new) c.self.view_is
    (takes at (delivery c.args.segment.now) c.keep.result new.table (sym c.of.ensures ∙ same_key c.of.result c.self.inside.key c.if-ne.ensures) c.keep.ensures.step)
