use Rattle.std.proofs.Common.{◌≡◌, ℕ, None, Some, List, length, ap, sym, ◌∙◌, arith}
use Rattle.std.proofs.lemmas.Bool.{lt-leb, le-leb}
use Rattle.bac_segment.specs.Deliveries.{delivery}
use Rattle.bac_segment.proofs.JudgeLemmas.{repeated, contradicted, too_early, past_end, too_large, is_new}
use Rattle.bac_message.specs.Gathered.{entry_of, table_in}
use Rattle.bac_message.proofs.GatheringLemmas.{entry_held}
use Rattle.bac_message.proofs.gathering.Gathering.judge.Goals as goal

pub returns-then-is_of : goal.returns-then-is_of
returns-then-is_of c =
    let s = delivery c.args.segment.now in
    let held = entry_held c.args.self.now.places c.from.result s.seq (Some c.in-Some.piece) c.requires.places c.from.ensures (omega arith) c.in-Some.is in
    repeated (table_in c.args.self.now) s (entry_of c.in-Some.piece) held (sym c.if-is_of.ensures)

pub returns-in-Some : goal.returns-in-Some
returns-in-Some c =
    let s = delivery c.args.segment.now in
    let held = entry_held c.args.self.now.places c.from.result s.seq (Some c.in-Some.piece) c.requires.places c.from.ensures (omega arith) c.in-Some.is in
    contradicted (table_in c.args.self.now) s (entry_of c.in-Some.piece) held (sym c.if-is_of.ensures)

pub returns-then-ends_too_early : goal.returns-then-ends_too_early
returns-then-ends_too_early c =
    let s = delivery c.args.segment.now in
    let free = entry_held c.args.self.now.places c.from.result s.seq None c.requires.places c.from.ensures (omega arith) c.in_default.is in
    too_early (table_in c.args.self.now) s free (sym c.if-ends_too_early.ensures)

pub returns-then-is_past_end : goal.returns-then-is_past_end
returns-then-is_past_end c =
    let s = delivery c.args.segment.now in
    let free = entry_held c.args.self.now.places c.from.result s.seq None c.requires.places c.from.ensures (omega arith) c.in_default.is in
    past_end (table_in c.args.self.now) s free (sym c.if-ends_too_early.ensures) (sym c.if-is_past_end.ensures)

pub returns-then-as_slice-self : goal.returns-then-as_slice-self
returns-then-as_slice-self c =
    let s = delivery c.args.segment.now in
    let free = entry_held c.args.self.now.places c.from.result s.seq None c.requires.places c.from.ensures (omega arith) c.in_default.is in
    too_large (table_in c.args.self.now) s free (sym c.if-ends_too_early.ensures) (sym c.if-is_past_end.ensures)
    (lt-leb _ _ (omega (arith, c.if-as_slice-self.true, ap (λ (l : List ℕ). length l) c.as_slice.ensures.value, c.requires.total, c.requires.small)))

pub returns : goal.returns
returns c =
    let s = delivery c.args.segment.now in
    let free = entry_held c.args.self.now.places c.from.result s.seq None c.requires.places c.from.ensures (omega arith) c.in_default.is in
    is_new (table_in c.args.self.now) s free (sym c.if-ends_too_early.ensures) (sym c.if-is_past_end.ensures)
    (le-leb _ _ (omega (arith, c.if-as_slice-self.false, ap (λ (l : List ℕ). length l) c.as_slice.ensures.value, c.requires.total, c.requires.small)))
