use Rattle.std.proofs.Common.{Result, Bool, subst}
use Rattle.bac_segment.specs.declared.faults.TakeFault.{TakeFault}
use Rattle.bac_segment.specs.Deliveries.{delivery}
use Rattle.bac_segment.specs.Holding.{table_in}
use Rattle.bac_segment.specs.Taking.{Judges}
use Rattle.bac_segment.proofs.JudgeLemmas.{keeps_fault}
use Rattle.bac_segment.proofs.holding.Held.keep_below.Goals as goal

pub returns-in-Err-clause-step : goal.returns-in-Err-clause-step
returns-in-Err-clause-step c =
    let m = table_in c.args.self.now in
    let s = delivery c.args.segment.now in
    keeps_fault m s c.in-Err.fault (subst (λ (r : Result Bool TakeFault). Judges m s r) c.in-Err.is c.judge.ensures)
