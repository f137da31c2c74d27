use Rattle.std.proofs.Common.{ℕ, List, Ok, Err, true, length, sym, ap, ◌∙◌, arith}
use Rattle.std.proofs.lemmas.Bool.{lt-leb, le-leb}
use Rattle.bac_segment.specs.declared.faults.TakeFault.TheVariants.{PastEnd, TooLarge}
use Rattle.bac_segment.specs.Deliveries.{delivery}
use Rattle.bac_segment.proofs.HoldingLemmas.{judged, free_at, early_at, past_at, room_at}
use Rattle.bac_segment.proofs.JudgeLemmas.{past_end, too_large, is_new}
use Rattle.bac_segment.proofs.holding.Held.judge_free.Goals as goal

pub returns-then-is_past_end-clause-err : goal.returns-then-is_past_end-clause-err
returns-then-is_past_end-clause-err c =
    let s = delivery c.args.segment.now in
    let h = c.requires.held in
    judged h s (Err PastEnd)
    (past_end h.table s (free_at h s c.args.number c.requires.number c.requires.free)
    (early_at h s c.args.number c.requires.number ∙ c.requires.early)
    (past_at h s c.args.number c.requires.number ∙ sym c.if-is_past_end.ensures))

pub returns-then-as_slice-octets-clause-err : goal.returns-then-as_slice-octets-clause-err
returns-then-as_slice-octets-clause-err c =
    let s = delivery c.args.segment.now in
    let h = c.requires.held in
    judged h s (Err TooLarge)
    (too_large h.table s (free_at h s c.args.number c.requires.number c.requires.free)
    (early_at h s c.args.number c.requires.number ∙ c.requires.early)
    (past_at h s c.args.number c.requires.number ∙ sym c.if-is_past_end.ensures)
    (lt-leb _ _ (omega (arith, room_at h, c.if-as_slice-octets.true, ap (λ (o : List ℕ). length o) c.as_slice.ensures.value, ap (λ (o : List ℕ). length o) c.octets.ensures, h.small))))

pub returns-clause-ok : goal.returns-clause-ok
returns-clause-ok c =
    let s = delivery c.args.segment.now in
    let h = c.requires.held in
    judged h s (Ok true)
    (is_new h.table s (free_at h s c.args.number c.requires.number c.requires.free)
    (early_at h s c.args.number c.requires.number ∙ c.requires.early)
    (past_at h s c.args.number c.requires.number ∙ sym c.if-is_past_end.ensures)
    (le-leb _ _ (omega (arith, room_at h, c.if-as_slice-octets.false, ap (λ (o : List ℕ). length o) c.as_slice.ensures.value, ap (λ (o : List ℕ). length o) c.octets.ensures, h.small))))
