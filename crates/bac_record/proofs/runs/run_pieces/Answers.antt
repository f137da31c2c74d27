use Rattle.std.proofs.Common.{◌≡◌, ◌≢◌, inl, ◌≤◌, ◌+◌, ◌*◌, ◌^◌, ◌<◌, List, ℕ, [], ◌++◌, length, drop, refl, arith, sym, ap, subst, ◌∙◌, append-nil, rules}
use Rattle.std.proofs.lemmas.Result.{err_from_is_err_and}
use Rattle.std.proofs.lemmas.List.{nil_from_length}
use Rattle.bac_record.specs.Runs.{HasEnd}
use Rattle.bac_record.specs.declared.summaries.Summary.{Summary}
use Rattle.bac_record.specs.Batches.{Deals, Halts}
use Rattle.bac_record.proofs.Appended.{ends_length, output_room, Tally-few}
use Rattle.bac_record.proofs.Waiting.{held_some, truncated, waits_for_first}
use Rattle.bac_record.specs.Records.{HELD}
use Rattle.bac_record.proofs.ReadLemmas.{drop_within, given_so_far, nearer}
use Rattle.bac_record.proofs.RunSoFar.{begun, reads, goes_on, stops, stops_found, stops_writing, wants_none}
use Rattle.bac_record.proofs.runs.run_pieces.Goals as goal

pub returns-in_default-clause-stopped : goal.returns-in_default-clause-stopped
returns-in_default-clause-stopped g c =
    let job = c.args.job.now in
    stops _ _ _ _ _ _ _ _ _ _ _ _ (begun (g.J.Job.line job) (g.J.Job.is_canonical job) (g.J.Job.is_refused job) _ _) (omega arith) refl (inl (refl, refl)) (λ list output outputs. outputs)

pub returns-in_default-for_job-clause-stopped : goal.returns-in_default-for_job-clause-stopped
returns-in_default-for_job-clause-stopped g c =
    let job = c.args.job.now in
    stops _ _ _ _ _ _ _ _ _ _ _ _ (begun (g.J.Job.line job) (g.J.Job.is_canonical job) (g.J.Job.is_refused job) _ _) (omega arith) refl (inl (refl, refl)) (λ list output outputs. outputs)

pub pieces-init : goal.pieces-init
pieces-init g c =
    let job = c.args.job.now in
    let none : c.in-Ok.window ≡ [] = c.in-Ok.ensures in
    let zero : c.default-summary.result ≡ record { records = 0; canonical = 0; refused = 0 } = search rules in
    let given : g.R.Input.given c.args.reader.now ≤ g.R.Input.given c.args.reader.now + (c.default-summary.result.records * HELD + length c.in-Ok.window) = omega arith in
    let room : 0 ≤ c.default-summary.result.records * 2 ^ 64 = omega arith in
    record {
      done = rw (none, zero) (begun (g.J.Job.line job) (g.J.Job.is_canonical job) (g.J.Job.is_refused job) _ _);
      waits = rw (none, zero) waits_for_first;
      short = rw none (omega arith);
      given = given;
      reads = refl;
      writes = refl;
      room = room;
      spacious = c.in-Ok-for_job.ensures.room;
    }

pub pieces-smaller : goal.pieces-smaller
pieces-smaller g c =
    let read = c.in-Ok-fill.ensures.read in
    let deals = subst (λ l. Deals (g.J.Job.line c.args.job.now) (g.J.Job.is_canonical c.args.job.now) (g.J.Job.is_refused c.args.job.now) c.pieces.summary.records l c.deal-taken.result.0 c.deal-taken.new.self) c.octets-in-pieces.ensures.value c.deal-taken.ensures.dealt in
    let some : length read.0 ≢ 0 = λ none. c.in-Ok-fill.field-0-test.1 (sym read.1 ∙ none) in
    rw (c.advance.ensures, c.join.ensures.records, deals.holds.sums.records)
    (nearer _ _ _ read.0 _ deals.list some read.2 c.in-Ok-fill.ensures.bound deals.within deals.whole deals.few)

pub returns-in-Ok-eq0-clause-stopped : goal.returns-in-Ok-eq0-clause-stopped
returns-in-Ok-eq0-clause-stopped g c =
    let read = c.in-Ok-eq0.ensures.read in
    let none : read.0 ≡ [] = nil_from_length read.0 (omega (arith, read.1)) in
    let same : c.fill.new.self ≡ c.pieces.window = read.2 ∙ ap (λ l. c.pieces.window ++ l) none ∙ append-nil c.pieces.window in
    let some : 0 < length c.pieces.window = subst (λ (l : List ℕ). 0 < length l) (c.octets.ensures.value ∙ same) (held_some c.octets.result.now _ c.is_empty.ensures c.if-is_empty.false) in
    stops _ _ _ _ _ _ _ _ _ _ _ _ (reads _ _ _ _ _ _ _ _ _ _ _ _ _ c.pieces.invariant.done read.3 read.2) c.in-Ok-eq0.ensures.bound refl
    (subst (λ l. HasEnd c.pieces.summary.records l _) (sym same) (truncated _ _ c.pieces.invariant.waits some), c.in-Ok-eq0.ensures.end (omega arith)) (λ list output outputs. outputs)

pub hand_over-requires-clause-few : goal.hand_over-requires-clause-few
hand_over-requires-clause-few g c =
    let deals = c.deal-taken.ensures.dealt in
    omega (arith, deals.few, ends_length _ _ _ _ _ _ deals.holds.outputs)

pub returns-in_err-hand_over-clause-stopped : goal.returns-in_err-hand_over-clause-stopped
returns-in_err-hand_over-clause-stopped g c =
    let job = c.args.job.now in
    let read = c.in-Ok-fill.ensures.read in
    let deals = subst (λ l. Deals (g.J.Job.line job) (g.J.Job.is_canonical job) (g.J.Job.is_refused job) c.pieces.summary.records l c.deal-taken.result.0 c.deal-taken.new.self) c.octets-in-pieces.ensures.value c.deal-taken.ensures.dealt in
    let fault = c.in_err-hand_over.ensures.fault in
    let p = err_from_is_err_and c.from_residual.result c.from_residual.ensures.1 in
    rw (p.1, p.2, fault.3)
    (stops_writing _ _ _ _ _ _ _ _ _ _ _ _ _ _ _ _ (reads _ _ _ _ _ _ _ _ _ _ _ _ _ c.pieces.invariant.done read.3 read.2) c.in-Ok-fill.ensures.bound deals fault.2 fault.4)

pub returns-in_err-hand_over-clause-memory : goal.returns-in_err-hand_over-clause-memory
returns-in_err-hand_over-clause-memory g c =
    let p = err_from_is_err_and c.from_residual.result c.from_residual.ensures.1 in
    rw (p.1, p.2, c.in_err-hand_over.ensures.fault.3) (λ some. tt)

pub returns-in-Some-clause-memory : goal.returns-in-Some-clause-memory
returns-in-Some-clause-memory g c = λ some.
    let room = c.clear.ensures.room _ (c.pieces.invariant.spacious some) in
    wants_none _ _ _ _ _ (rw c.in-Some.is at (c.deal-taken.ensures.memory room c.octets-in-pieces.ensures.bound))

pub returns-in-Some-clause-stopped : goal.returns-in-Some-clause-stopped
returns-in-Some-clause-stopped g c =
    let job = c.args.job.now in
    let read = c.in-Ok-fill.ensures.read in
    let batch = c.deal-taken.new.self in
    let old = c.pieces.summary in
    let new : Summary = record {
      records = old.records + batch.summary.records;
      canonical = old.canonical + batch.summary.canonical;
      refused = old.refused + batch.summary.refused;
    } in
    let deals = subst (λ l. Deals (g.J.Job.line job) (g.J.Job.is_canonical job) (g.J.Job.is_refused job) old.records l c.deal-taken.result.0 batch) c.octets-in-pieces.ensures.value c.deal-taken.ensures.dealt in
    let halted = subst (λ l. Halts (g.J.Job.stops job) (old.records + batch.summary.records) (drop c.deal-taken.result.0 l) c.deal-taken.result.1) c.octets-in-pieces.ensures.value c.deal-taken.ensures.halted in
    let found = rw c.in-Some.is at halted in
    stops_found _ _ _ _ _ _ _ _ _ new _ _
    (goes_on _ _ _ _ _ _ _ _ _ old new _ _ batch (reads _ _ _ _ _ _ _ _ _ _ _ _ _ c.pieces.invariant.done read.3 read.2) deals c.in_ok-hand_over.ensures.ok refl refl refl) (drop_within c.deal-taken.result.0 _ HELD c.in-Ok-fill.ensures.bound) found

pub join-requires-clause-canonical : goal.join-requires-clause-canonical
join-requires-clause-canonical g c =
    let run = c.pieces.invariant.done in
    let deals = c.deal-taken.ensures.dealt in
    omega (arith, run.sums.records, deals.few, Tally-few _ _ _ run.sums.canonical, Tally-few _ _ _ deals.holds.sums.canonical)

pub join-requires-clause-refused : goal.join-requires-clause-refused
join-requires-clause-refused g c =
    let run = c.pieces.invariant.done in
    let deals = c.deal-taken.ensures.dealt in
    omega (arith, run.sums.records, deals.few, Tally-few _ _ _ run.sums.refused, Tally-few _ _ _ deals.holds.sums.refused)

pub pieces-preserved : goal.pieces-preserved
pieces-preserved g c =
    let job = c.args.job.now in
    let read = c.in-Ok-fill.ensures.read in
    let batch = c.deal-taken.new.self in
    let old = c.pieces.summary in
    let deals = subst (λ l. Deals (g.J.Job.line job) (g.J.Job.is_canonical job) (g.J.Job.is_refused job) old.records l c.deal-taken.result.0 batch) c.octets-in-pieces.ensures.value c.deal-taken.ensures.dealt in
    let halted = subst (λ l. Halts (g.J.Job.stops job) (old.records + batch.summary.records) (drop c.deal-taken.result.0 l) c.deal-taken.result.1) c.octets-in-pieces.ensures.value c.deal-taken.ensures.halted in
    let waiting = rw c.in_default-halt.is at halted in
    let sent : length batch.output.items ≡ c.len.result = sym batch.output.ok.0 ∙ sym c.len.ensures in
    let fits : length batch.output.items ≤ 2 ^ 64 = omega (arith, sent, c.pieces.auto) in
    let done = goes_on _ _ _ _ _ _ _ _ _ old c.join.new.self _ _ batch (reads _ _ _ _ _ _ _ _ _ _ _ _ _ c.pieces.invariant.done read.3 read.2) deals c.in_ok-hand_over.ensures.ok
    c.join.ensures.records c.join.ensures.canonical c.join.ensures.refused in
    record {
      done = rw (c.advance.ensures, ← sent) done;
      waits = rw (c.advance.ensures, c.join.ensures.records) waiting.0;
      short = rw c.advance.ensures waiting.1;
      given = rw (c.advance.ensures, c.join.ensures.records, deals.holds.sums.records)
          (given_so_far _ _ _ _ _ _ _ read.0 _ deals.list c.in-Ok-fill.ensures.given c.pieces.invariant.given read.1 read.2 deals.within deals.whole deals.holds.each);
      reads = c.in-Ok-fill.ensures.counted ∙ c.pieces.invariant.reads;
      writes = c.in_ok-hand_over.ensures.counted ∙ c.pieces.invariant.writes;
      room = omega (arith, c.pieces.invariant.room, c.join.ensures.records, deals.holds.sums.records, sent, output_room (g.J.Job.line job) (old.records + 1) 0 deals.list batch.output.items batch.ends.items deals.holds.outputs fits);
      spacious = λ some. c.deal-taken.ensures.room (c.clear.ensures.room _ (c.pieces.invariant.spacious some)) c.octets-in-pieces.ensures.bound;
    }
