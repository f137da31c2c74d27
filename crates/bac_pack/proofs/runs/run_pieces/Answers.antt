use Rattle.std.proofs.Common.{◌≡◌, ◌≢◌, inl, [], length, drop, refl, sym, arith, subst, ◌∙◌, false, true, rules}
use Rattle.std.proofs.lemmas.Result.{err_from_is_err_and}
use Rattle.bac_pack.specs.Packing.{PacksFront, Halts}
use Rattle.bac_pack.proofs.RunSoFar.{begun, reads, goes_on, output_room, ends, ends_with, stops, stops_found, stops_last, stops_writing, stops_writing_last, last_held, is_nothing, is_something, room_for, smaller}
use Rattle.bac_pack.proofs.runs.run_pieces.Goals as goal
use Rattle.bac_pack.proofs.runs.run_pieces.Goals.{then-not-is_empty+in_ok-add+in_ok-hand_over-2, else-not-is_empty}

pub returns-in_default-clause-stopped : goal.returns-in_default-clause-stopped
returns-in_default-clause-stopped g c = stops _ _ _ _ _ _ _ _ _ _ _ (begun _ _ _ _) (refl, inl (refl, refl)) (λ records. refl)

pub pieces-init : goal.pieces-init
pieces-init g c = record {
  done = rw (c.in-Ok.ensures, c.new-packer.ensures.lines, c.new-packer.ensures.sent) (begun _ _ _ _);
  output = c.new-packer.ensures.output;
  waits = rw (c.in-Ok.ensures, c.new-packer.ensures.lines) (omega arith, (λ e. refl), (tt, omega arith));
  reads = refl;
  writes = refl;
}

pub hand_over-requires : goal.hand_over-requires
hand_over-requires g c =
    let run = c.pieces.invariant.done in
    omega (arith, c.add_whole-taken.ensures.packed.sent, run.went_out, run.few, output_room g.L.LineForm.packs g.met.L.LineForm.small run.lines run.records run.packed)

pub returns-in_err-hand_over-clause-stopped : goal.returns-in_err-hand_over-clause-stopped
returns-in_err-hand_over-clause-stopped g c =
    let read = c.in-Ok-fill.ensures.read in
    let packs = subst (λ l. PacksFront g.L.LineForm.packs g.L.LineForm.LONGEST l c.add_whole-taken.result.0 c.pieces.packer c.add_whole-taken.new.self) c.octets.ensures.value c.add_whole-taken.ensures.packed in
    let fault = c.in_err-hand_over.ensures.fault in
    let p = err_from_is_err_and c.from_residual.result c.from_residual.ensures.1 in
    rw (p.1, p.2, fault.1)
    (stops_writing _ _ _ _ _ _ _ _ _ _ _ _ _ (reads _ _ _ _ _ _ _ _ _ _ _ _ c.pieces.invariant.done read.3 read.2) packs c.pieces.invariant.output fault.2)

pub returns-in-Some-clause-stopped : goal.returns-in-Some-clause-stopped
returns-in-Some-clause-stopped g c =
    let read = c.in-Ok-fill.ensures.read in
    let new = c.add_whole-taken.new.self in
    let packs = subst (λ l. PacksFront g.L.LineForm.packs g.L.LineForm.LONGEST l c.add_whole-taken.result.0 c.pieces.packer new) c.octets.ensures.value c.add_whole-taken.ensures.packed in
    let halted = subst (λ l. Halts g.L.LineForm.refuses g.L.LineForm.LONGEST new.lines (drop c.add_whole-taken.result.0 l) c.add_whole-taken.result.1) c.octets.ensures.value c.add_whole-taken.ensures.halted in
    let found = rw c.in-Some.is at halted in
    stops_found _ _ _ _ _ _ _ _ _ _ _
    (goes_on _ _ _ _ _ _ _ _ _ _ new (reads _ _ _ _ _ _ _ _ _ _ _ _ c.pieces.invariant.done read.3 read.2) packs c.pieces.invariant.output c.in_ok-hand_over.ensures.ok) found

pub pieces-preserved : goal.pieces-preserved
pieces-preserved g c =
    let read = c.in-Ok-fill.ensures.read in
    let new = c.add_whole-taken.new.self in
    let packs = subst (λ l. PacksFront g.L.LineForm.packs g.L.LineForm.LONGEST l c.add_whole-taken.result.0 c.pieces.packer new) c.octets.ensures.value c.add_whole-taken.ensures.packed in
    let halted = subst (λ l. Halts g.L.LineForm.refuses g.L.LineForm.LONGEST new.lines (drop c.add_whole-taken.result.0 l) c.add_whole-taken.result.1) c.octets.ensures.value c.add_whole-taken.ensures.halted in
    let waiting = rw c.in_default-halt.is at halted in
    let done = goes_on _ _ _ _ _ _ _ _ _ _ new (reads _ _ _ _ _ _ _ _ _ _ _ _ c.pieces.invariant.done read.3 read.2) packs c.pieces.invariant.output c.in_ok-hand_over.ensures.ok in
    record {
      done = rw (c.advance.ensures, c.in_ok-hand_over.ensures.lines, c.in_ok-hand_over.ensures.sent) done;
      output = c.in_ok-hand_over.ensures.output;
      waits = rw (c.advance.ensures, c.in_ok-hand_over.ensures.lines) waiting;
      reads = c.in-Ok-fill.ensures.counted ∙ c.pieces.invariant.reads;
      writes = c.in_ok-hand_over.ensures.counted ∙ c.pieces.invariant.writes;
    }

pub pieces-smaller : goal.pieces-smaller
pieces-smaller g c =
    let read = c.in-Ok-fill.ensures.read in
    let packs = subst (λ l. PacksFront g.L.LineForm.packs g.L.LineForm.LONGEST l c.add_whole-taken.result.0 c.pieces.packer c.add_whole-taken.new.self) c.octets.ensures.value c.add_whole-taken.ensures.packed in
    let some : length read.0 ≢ 0 = λ none. c.in-Ok-fill.field-0-test.1 (sym read.1 ∙ none) in
    rw (c.advance.ensures, c.in_ok-hand_over.ensures.lines)
    (smaller _ _ g.row.PIECE _ _ _ _ _ _ packs read.2 some c.fill.ensures.bound)

pub returns-in_err-add-clause-stopped : goal.returns-in_err-add-clause-stopped
returns-in_err-add-clause-stopped g c =
    let read = c.in-Ok-eq0.ensures.read in
    let none : length read.0 ≡ 0 = omega (arith, read.1) in
    let last = last_held _ _ _ _ _ _ _ _ _ _ _ _ _ c.pieces.invariant.done c.pieces.invariant.waits read.3 none read.2 c.octets-last.ensures.value in
    let some : c.is_empty.result ≡ false = search rules in
    let held : c.octets-last.result.now ≢ [] = is_something _ _ c.is_empty.ensures some in
    let p = err_from_is_err_and c.from_residual-in_err-add.result c.from_residual-in_err-add.ensures.1 in
    rw (p.1, p.2)
    (stops_last _ _ _ _ _ _ _ _ _ _ _ last.done last.line held (room_for _ _ last.few last.most held) (c.in-Ok-eq0.ensures.end (omega arith)) c.in_err-add.ensures.fault)

pub hand_over-requires-then-not-is_empty : goal.hand_over-requires-then-not-is_empty
hand_over-requires-then-not-is_empty g c =
    let run = c.pieces.invariant.done in
    omega (arith, c.in_ok-add.ensures.added.sent, run.went_out, run.few, output_room g.L.LineForm.packs g.met.L.LineForm.small run.lines run.records run.packed)

pub returns-in_err-hand_over-2-clause-stopped : goal.returns-in_err-hand_over-2-clause-stopped
returns-in_err-hand_over-2-clause-stopped g c =
    let read = c.in-Ok-eq0.ensures.read in
    let none : length read.0 ≡ 0 = omega (arith, read.1) in
    let last = last_held _ _ _ _ _ _ _ _ _ _ _ _ _ c.pieces.invariant.done c.pieces.invariant.waits read.3 none read.2 c.octets-last.ensures.value in
    let some : c.is_empty.result ≡ false = search rules in
    let held : c.octets-last.result.now ≢ [] = is_something _ _ c.is_empty.ensures some in
    let fault = c.in_err-hand_over-2.ensures.fault in
    let p = err_from_is_err_and c.from_residual-in_err-hand_over-2.result c.from_residual-in_err-hand_over-2.ensures.1 in
    rw (p.1, p.2, fault.1)
    (stops_writing_last _ _ _ _ _ _ _ _ _ _ _ _ last.done last.line held (room_for _ _ last.few last.most held) (c.in-Ok-eq0.ensures.end (omega arith))
    c.in_ok-add.ensures.added c.pieces.invariant.output fault.2)

pub returns-clause-through : goal.returns-clause-through
returns-clause-through g c =
    let read = c.in-Ok-eq0.ensures.read in
    let none : length read.0 ≡ 0 = omega (arith, read.1) in
    let last = last_held _ _ _ _ _ _ _ _ _ _ _ _ _ c.pieces.invariant.done c.pieces.invariant.waits read.3 none read.2 c.octets-last.ensures.value in
    elim c.if-not-is_empty.branch [
      | then-not-is_empty+in_ok-add+in_ok-hand_over-2 w ↦ (let some : c.is_empty.result ≡ false = search rules in
          let held : c.octets-last.result.now ≢ [] = is_something _ _ c.is_empty.ensures some in
          let handed = w.in_ok-hand_over-2.ensures in
          rw (w.writer-is, w.packer-is, handed.lines)
          (ends_with _ _ _ _ _ _ _ _ _ _ last.done last.line held (room_for _ _ last.few last.most held) (c.in-Ok-eq0.ensures.end (omega arith)) w.in_ok-add.ensures.added c.pieces.invariant.output handed.ok))
      | else-not-is_empty w ↦ (let nothing : c.is_empty.result ≡ true = search rules in
          rw (w.writer-is, w.packer-is) (ends _ _ _ _ _ _ _ _ _ last.done (is_nothing _ _ c.is_empty.ensures nothing) (c.in-Ok-eq0.ensures.end (omega arith))))
    ]
