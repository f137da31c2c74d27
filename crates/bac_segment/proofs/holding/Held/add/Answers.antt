use Rattle.std.proofs.Common.{ℕ, List, Ok, true, length, refl, ap, ◌∙◌, arith}
use Rattle.bac_segment.specs.Deliveries.{delivery}
use Rattle.bac_segment.specs.Holding.{table_in}
use Rattle.bac_segment.proofs.HoldingLemmas.{start_within, count_fits, KeptIn, kept_by}
use Rattle.bac_segment.proofs.JudgeLemmas.{keeps_new}
use Rattle.bac_segment.proofs.holding.Held.add.Goals as goal
use Rattle.bac_segment.proofs.holding.Held.add.Goals.{After-kept}

pub put-requires : goal.put-requires
put-requires c = rw (c.requires.start) (start_within c.requires.held c.args.number)

pub note-requires-clause-count : goal.note-requires-clause-count
note-requires-clause-count c = count_fits c.requires.held (delivery c.args.segment.now) (Ok true) true (omega arith) c.requires.new refl refl

pub kept : (c : After-kept) → KeptIn c.args.self.now c.note.new.self (delivery c.args.segment.now)
kept c = kept_by c.args.self.now c.note.new.self c.requires.held (delivery c.args.segment.now) c.as_slice-piece.result.now c.put.new.octets.items c.args.number c.args.start (length c.as_slice-piece.result.now) (Ok true) true c.is_err.result c.put.result c.requires.number (omega arith) c.requires.start c.requires.new refl refl c.is_err.ensures.value c.if-is_err.false c.as_slice-piece.ensures.value c.put.ensures.ok c.note.ensures.octets (ap (λ (o : List ℕ). length o) c.as_slice-piece.ensures.value) c.note.ensures.spans c.note.ensures.count c.note.ensures.end c.note.ensures.ended

pub returns-clause-held : goal.returns-clause-held
returns-clause-held c = (kept c).held

pub returns-clause-step : goal.returns-clause-step
returns-clause-step c =
    let k = kept c in
    let done = keeps_new (table_in c.args.self.now) (delivery c.args.segment.now) _ c.kept.result k.judged k.whole c.kept.ensures in
    (done.0, k.table ∙ done.1)
