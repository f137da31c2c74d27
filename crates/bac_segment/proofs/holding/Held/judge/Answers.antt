use Rattle.std.proofs.Common.{◌+◌, ℕ, List, Ok, Err, None, true, false, get_or, length, sym, ap, ◌∙◌, arith}
use Rattle.bac_segment.specs.declared.faults.TakeFault.TheVariants.{Conflict}
use Rattle.std.specs.Prelude.{slice_range}
use Rattle.bac_segment.specs.Deliveries.{delivery}
use Rattle.bac_segment.specs.Taking.{same_entry}
use Rattle.bac_segment.proofs.HoldingLemmas.{span_held, span_at, judged, same_held, free_at, early_at}
use Rattle.bac_segment.proofs.JudgeLemmas.{repeated, contradicted, too_early}
use Rattle.bac_segment.proofs.holding.Held.judge.Goals as goal

pub overflow_add-start : goal.overflow_add-start
overflow_add-start c =
    let h = span_held c.requires.held c.args.number c.start-start.result c.in-Some.span c.start-start.ensures (span_at c.requires.held c.args.number c.args.segment.now.seq c.index.result.now c.requires.number (omega arith) c.index.ensures ∙ c.in-Some.is) in
    omega (arith, h.within, c.requires.held.small)

pub slice_bounds-is_repeat-end : goal.slice_bounds-is_repeat-end
slice_bounds-is_repeat-end c =
    let h = span_held c.requires.held c.args.number c.start-start.result c.in-Some.span c.start-start.ensures (span_at c.requires.held c.args.number c.args.segment.now.seq c.index.result.now c.requires.number (omega arith) c.index.ensures ∙ c.in-Some.is) in
    omega (arith, h.within, ap (λ (o : List ℕ). length o) c.deref.ensures.value)

pub returns-then-is_repeat : goal.returns-then-is_repeat
returns-then-is_repeat c =
    let s = delivery c.args.segment.now in
    let h = span_held c.requires.held c.args.number c.start-start.result c.in-Some.span c.start-start.ensures (span_at c.requires.held c.args.number c.args.segment.now.seq c.index.result.now c.requires.number (omega arith) c.index.ensures ∙ c.in-Some.is) in
    judged c.requires.held s (Ok false)
    (repeated c.requires.held.table s h.entry (ap (λ (k : ℕ). get_or c.requires.held.table k None) (sym c.requires.number) ∙ h.is) (same_held h s true (c.if-is_repeat.ensures ∙ ap (λ (k : ℕ). same_entry (record { piece = slice_range c.deref.result.now c.start-start.result (c.start-start.result + k); more = c.in-Some.span.more }) s) c.from.ensures ∙ ap (λ (o : List ℕ). same_entry (record { piece = slice_range o c.start-start.result (c.start-start.result + c.in-Some.span.len); more = c.in-Some.span.more }) s) c.deref.ensures.value)))

pub returns-in-Some : goal.returns-in-Some
returns-in-Some c =
    let s = delivery c.args.segment.now in
    let h = span_held c.requires.held c.args.number c.start-start.result c.in-Some.span c.start-start.ensures (span_at c.requires.held c.args.number c.args.segment.now.seq c.index.result.now c.requires.number (omega arith) c.index.ensures ∙ c.in-Some.is) in
    judged c.requires.held s (Err Conflict)
    (contradicted c.requires.held.table s h.entry (ap (λ (k : ℕ). get_or c.requires.held.table k None) (sym c.requires.number) ∙ h.is) (same_held h s false (c.if-is_repeat.ensures ∙ ap (λ (k : ℕ). same_entry (record { piece = slice_range c.deref.result.now c.start-start.result (c.start-start.result + k); more = c.in-Some.span.more }) s) c.from.ensures ∙ ap (λ (o : List ℕ). same_entry (record { piece = slice_range o c.start-start.result (c.start-start.result + c.in-Some.span.len); more = c.in-Some.span.more }) s) c.deref.ensures.value)))

pub returns-then-ends_too_early : goal.returns-then-ends_too_early
returns-then-ends_too_early c =
    let s = delivery c.args.segment.now in
    judged c.requires.held s (Err Conflict)
    (too_early c.requires.held.table s (free_at c.requires.held s c.args.number c.requires.number (span_at c.requires.held c.args.number c.args.segment.now.seq c.index.result.now c.requires.number (omega arith) c.index.ensures ∙ c.in_default.is))
    (early_at c.requires.held s c.args.number c.requires.number ∙ sym c.if-ends_too_early.ensures))

pub judge_free-requires-clause-free : goal.judge_free-requires-clause-free
judge_free-requires-clause-free c = span_at c.requires.held c.args.number c.args.segment.now.seq c.index.result.now c.requires.number (omega arith) c.index.ensures ∙ c.in_default.is

pub judge_free-requires-clause-early : goal.judge_free-requires-clause-early
judge_free-requires-clause-early c = sym c.if-ends_too_early.ensures
