-- What a run has done when it reads again.
use Rattle.std.proofs.Common.{◌≡◌, inr, ℕ, ◌+◌, ◌≤◌, ◌<◌, List, [], ◌∷◌, ◌++◌, length, take, drop, refl, sym, ap, subst, ◌∙◌, append_assoc, append-nil, arith, Option, length-append, length-take, take-append-drop}
use Rattle.std.specs.List.{AllByRecursion}
use Rattle.std.specs.Io.KnownBytes.{Consumes, Appends, IsAtEnd}
use Rattle.std.proofs.KnownBytes.{Consumes-nil, Appends-nil, Consumes-trans, Appends-trans}
use Rattle.bac_tag.specs.declared.refusals.Refusal.{Refusal}
use Rattle.bac_record.specs.Records.{joined, record_of, IsRecord, MOST, HELD}
use Rattle.bac_record.specs.Outputs.{Outputs, Tally}
use Rattle.bac_record.specs.Transfers.{TakesFront}
use Rattle.bac_record.specs.Runs.{Sums, RanThrough, Stopped, IsCause, IsWritten, IsOtherThanMemory, OnlyBeforeReading, number_of}
use Rattle.bac_record.specs.Batches.{Deals, IsFirstPast, IsFound}
use Rattle.bac_record.specs.declared.batches.Batch.{Batch}
use Rattle.bac_record.specs.declared.summaries.Summary.{Summary}
use Rattle.bac_record.specs.declared.faults.RunFault.{RunFault}
use Rattle.bac_record.specs.declared.faults.RunFault.TheVariants.{Stream, Frame}
use Rattle.bac_record.specs.declared.faults.StreamFault.TheVariants.{Truncated, RecordTooLong, ReadFault, WriteFault, TooManyFrames, OutOfMemory}
use Rattle.bac_record.proofs.Appended.{joined-append, AllByRecursion-append, Outputs-append, Tally-append, without_ends, front_all, next_all, rejoined}
use Rattle.bac_record.proofs.Cuts.{cut_at}

-- The reader gave these records and what is held, and the writer took the records' outputs.
pub record RunSoFar (line : ℕ → List ℕ → List ℕ → Type 0) (is_canonical is_refused : List ℕ → Type 0)
    (left left' taken taken' : Option (List ℕ)) (held : List ℕ) (summary : Summary) (sent : ℕ) : Type 0 where
  pub list : List (List ℕ)
  pub output : List ℕ
  pub each : AllByRecursion IsRecord list
  pub few : length list ≤ MOST
  pub outputs : Outputs line 1 list output
  pub read : Consumes left left' (joined list ++ held)
  pub wrote : Appends taken taken' output
  pub went_out : length output ≡ sent
  pub sums : Sums is_canonical is_refused list summary

pub begun : (line : ℕ → List ℕ → List ℕ → Type 0) (is_canonical is_refused : List ℕ → Type 0) (left taken : Option (List ℕ))
    → RunSoFar line is_canonical is_refused left left taken taken [] (record { records = 0; canonical = 0; refused = 0 }) 0
begun line is_canonical is_refused left taken = record {
  list = [];
  output = [];
  each = tt;
  few = omega arith;
  outputs = refl;
  read = Consumes-nil left;
  wrote = Appends-nil taken;
  went_out = refl;
  sums = record { records = refl; canonical = refl; refused = refl };
}

-- More was read.
pub reads : (line : ℕ → List ℕ → List ℕ → Type 0) (is_canonical is_refused : List ℕ → Type 0) (left mid left' taken taken' : Option (List ℕ)) (held fresh new : List ℕ) (summary : Summary) (sent : ℕ)
    → RunSoFar line is_canonical is_refused left mid taken taken' held summary sent → Consumes mid left' fresh → new ≡ held ++ fresh
    → RunSoFar line is_canonical is_refused left left' taken taken' new summary sent
reads line is_canonical is_refused left mid left' taken taken' held fresh new summary sent run more is =
    let whole : (joined run.list ++ held) ++ fresh ≡ joined run.list ++ new = append_assoc (joined run.list) held fresh ∙ ap (λ l. joined run.list ++ l) (sym is) in
    record {
      list = run.list;
      output = run.output;
      each = run.each;
      few = run.few;
      outputs = run.outputs;
      read = subst (Consumes left left') whole (Consumes-trans left mid left' (joined run.list ++ held) fresh run.read more);
      wrote = run.wrote;
      went_out = run.went_out;
      sums = run.sums;
    }

-- A batch was dealt with and written.
pub goes_on : (line : ℕ → List ℕ → List ℕ → Type 0) (is_canonical is_refused : List ℕ → Type 0) (left left' taken written taken' : Option (List ℕ)) (octets : List ℕ)
    (old new : Summary) (sent count : ℕ) (batch : Batch)
    → RunSoFar line is_canonical is_refused left left' taken written octets old sent
    → Deals line is_canonical is_refused old.records octets count batch → Appends written taken' batch.output.items
    → new.records ≡ old.records + batch.summary.records → new.canonical ≡ old.canonical + batch.summary.canonical → new.refused ≡ old.refused + batch.summary.refused
    → RunSoFar line is_canonical is_refused left left' taken taken' (drop count octets) new (sent + length batch.output.items)
goes_on line is_canonical is_refused left left' taken written taken' octets old new sent count batch run deals wrote records canonical refused =
    let list = run.list ++ deals.list in
    let at : old.records + 1 ≡ length run.list + 1 = omega (arith, run.sums.records) in
    let outputs = without_ends line (old.records + 1) 0 deals.list batch.output.items batch.ends.items deals.holds.outputs in
    let whole : joined list ++ drop count octets ≡ joined run.list ++ octets =
    ap (λ l. l ++ drop count octets) (joined-append run.list deals.list) ∙ append_assoc (joined run.list) (joined deals.list) (drop count octets)
    ∙ ap (λ l. joined run.list ++ (l ++ drop count octets)) (sym deals.whole) ∙ ap (λ l. joined run.list ++ l) (take-append-drop count octets) in
    record {
      list = list;
      output = run.output ++ batch.output.items;
      each = AllByRecursion-append IsRecord run.list deals.list run.each deals.holds.each;
      few = simp length-append (omega (arith, run.sums.records, deals.few));
      outputs = Outputs-append line 1 run.list deals.list run.output batch.output.items run.outputs (subst (λ n. Outputs line n deals.list batch.output.items) at outputs);
      read = subst (Consumes left left') (sym whole) run.read;
      wrote = Appends-trans taken written taken' run.output batch.output.items run.wrote wrote;
      went_out = length-append run.output batch.output.items ∙ ap (λ n. n + length batch.output.items) run.went_out;
      sums = record {
        records = simp length-append (omega (arith, records, run.sums.records, deals.holds.sums.records));
        canonical = subst (Tally is_canonical list) (sym canonical) (Tally-append is_canonical run.list deals.list old.canonical batch.summary.canonical run.sums.canonical deals.holds.sums.canonical);
        refused = subst (Tally is_refused list) (sym refused) (Tally-append is_refused run.list deals.list old.refused batch.summary.refused run.sums.refused deals.holds.sums.refused);
      };
    }

-- The reader is at its end and nothing is held.
pub ends : (line : ℕ → List ℕ → List ℕ → Type 0) (is_canonical is_refused : List ℕ → Type 0) (left left' taken taken' : Option (List ℕ)) (held : List ℕ) (summary : Summary) (sent : ℕ)
    → RunSoFar line is_canonical is_refused left left' taken taken' held summary sent → held ≡ [] → IsAtEnd left' → RanThrough line is_canonical is_refused left left' taken taken' summary
ends line is_canonical is_refused left left' taken taken' held summary sent run none ended = record {
  list = run.list;
  output = run.output;
  each = run.each;
  few = run.few;
  read = subst (Consumes left left') (ap (λ l. joined run.list ++ l) none ∙ append-nil (joined run.list)) run.read;
  ended = ended;
  outputs = run.outputs;
  wrote = run.wrote;
  sums = run.sums;
}

-- The next record is at fault, and nothing was written of it.
pub stops : (line : ℕ → List ℕ → List ℕ → Type 0) (is_canonical is_refused : List ℕ → Type 0) (stops_run : List ℕ → Refusal → Type 0) (left left' taken taken' : Option (List ℕ)) (held : List ℕ)
    (summary : Summary) (sent : ℕ) (fault : RunFault)
    → RunSoFar line is_canonical is_refused left left' taken taken' held summary sent → length held ≤ HELD
    → number_of fault ≡ summary.records + 1 → IsCause stops_run summary.records held left' fault
    → ((list : List (List ℕ)) (output : List ℕ) → Outputs line 1 list output → IsWritten line list held output fault)
    → Stopped line stops_run left left' taken taken' fault
stops line is_canonical is_refused stops_run left left' taken taken' held summary sent fault run room number cause written = record {
  list = run.list;
  rest = held;
  written = run.output;
  each = run.each;
  few = run.few;
  held = room;
  read = run.read;
  wrote = run.wrote;
  number = number ∙ ap (λ n. n + 1) run.sums.records;
  cause = subst (λ n. IsCause stops_run n held left' fault) run.sums.records cause;
  outputs = written run.list run.output run.outputs;
}

-- The octets behind the records show the fault.
pub stops_found : (line : ℕ → List ℕ → List ℕ → Type 0) (is_canonical is_refused : List ℕ → Type 0) (stops_run : List ℕ → Refusal → Type 0) (left left' taken taken' : Option (List ℕ)) (held : List ℕ)
    (summary : Summary) (sent : ℕ) (fault : RunFault)
    → RunSoFar line is_canonical is_refused left left' taken taken' held summary sent → length held ≤ HELD → IsFound stops_run summary.records held fault
    → Stopped line stops_run left left' taken taken' fault
stops_found line is_canonical is_refused stops_run left left' taken taken' held summary sent (Stream at TooManyFrames) run room found =
    stops line is_canonical is_refused stops_run left left' taken taken' held summary sent (Stream at TooManyFrames) run room found.0 found.1 (λ list output outputs. outputs)
stops_found line is_canonical is_refused stops_run left left' taken taken' held summary sent (Stream at OutOfMemory) run room found =
    stops line is_canonical is_refused stops_run left left' taken taken' held summary sent (Stream at OutOfMemory) run room found.0 (inr found.1) (λ list output outputs. outputs)
stops_found line is_canonical is_refused stops_run left left' taken taken' held summary sent (Frame at refusal) run room found =
    stops line is_canonical is_refused stops_run left left' taken taken' held summary sent (Frame at refusal) run room found.0 found.1 (λ list output outputs. outputs)
stops_found line is_canonical is_refused stops_run left left' taken taken' held summary sent (Stream at RecordTooLong) run room found = absurd found
stops_found line is_canonical is_refused stops_run left left' taken taken' held summary sent (Stream at Truncated) run room found = absurd found
stops_found line is_canonical is_refused stops_run left left' taken taken' held summary sent (Stream at ReadFault) run room found = absurd found
stops_found line is_canonical is_refused stops_run left left' taken taken' held summary sent (Stream at (WriteFault count)) run room found = absurd found

-- A part of the batch's output was written.
pub stops_writing : (line : ℕ → List ℕ → List ℕ → Type 0) (is_canonical is_refused : List ℕ → Type 0) (stops_run : List ℕ → Refusal → Type 0) (left left' taken written taken' : Option (List ℕ)) (octets : List ℕ)
    (summary : Summary) (sent taken_octets count index : ℕ) (batch : Batch)
    → RunSoFar line is_canonical is_refused left left' taken written octets summary sent → length octets ≤ HELD
    → Deals line is_canonical is_refused summary.records octets taken_octets batch
    → IsFirstPast batch.ends.items count index → TakesFront written taken' batch.output.items count
    → Stopped line stops_run left left' taken taken' (Stream ((summary.records + index) + 1) (WriteFault (sent + count)))
stops_writing line is_canonical is_refused stops_run left left' taken written taken' octets summary sent taken_octets count index batch run most deals past front =
    let place : count ≡ 0 + count = omega arith in
    let cut = cut_at line (summary.records + 1) 0 deals.list batch.output.items batch.ends.items count index deals.holds.outputs front.0 (subst (λ n. IsFirstPast batch.ends.items n index) place past) in
    let list = run.list ++ cut.front in
    let behind = joined cut.behind ++ drop taken_octets octets in
    let rest = record_of cut.octets ++ behind in
    let at : summary.records + 1 ≡ length run.list + 1 = omega (arith, run.sums.records) in
    let long : length list ≡ summary.records + index = simp length-append (omega (arith, run.sums.records, cut.counted)) in
    let room : length list < MOST = omega (arith, long, deals.few, ap (length {A = List ℕ}) cut.whole, length-append cut.front (cut.octets ∷ cut.behind), cut.counted) in
    let each = subst (AllByRecursion IsRecord) cut.whole deals.holds.each in
    let next_at : length cut.front + (summary.records + 1) ≡ length list + 1 = omega (arith, long, cut.counted) in
    let whole : joined list ++ rest ≡ joined run.list ++ octets =
    rejoined run.list cut.front cut.octets cut.behind deals.list (drop taken_octets octets) octets cut.whole
    (ap (λ l. l ++ drop taken_octets octets) (sym deals.whole) ∙ take-append-drop taken_octets octets) in
    let long_front : length (joined list) ≡ length (joined run.list) + length (joined cut.front) =
    ap (length {A = ℕ}) (joined-append run.list cut.front) ∙ length-append (joined run.list) (joined cut.front) in
    let same_length = ap (length {A = ℕ}) whole in
    record {
      list = list;
      rest = rest;
      written = run.output ++ take count batch.output.items;
      each = AllByRecursion-append IsRecord run.list cut.front run.each (front_all IsRecord cut.front (cut.octets ∷ cut.behind) each);
      few = omega (arith, room);
      held = omega (arith, most, same_length, long_front, length-append (joined list) rest, length-append (joined run.list) octets);
      read = subst (Consumes left left') (sym whole) run.read;
      wrote = Appends-trans taken written taken' run.output (take count batch.output.items) run.wrote front.1;
      number = omega (arith, long);
      cause = (room, cut.octets, behind, next_all IsRecord cut.front cut.octets cut.behind each, refl, tt);
      outputs = (
        omega (arith, run.went_out, front.0, length-append run.output (take count batch.output.items), length-take count batch.output.items),
        run.output ++ cut.before,
        cut.part,
        cut.unsent,
        Outputs-append line 1 run.list cut.front run.output cut.before run.outputs (subst (λ n. Outputs line n cut.front cut.before) at cut.outputs),
        ap (λ l. run.output ++ l) cut.is_taken ∙ sym (append_assoc run.output cut.before cut.part),
        (room, cut.octets, behind, next_all IsRecord cut.front cut.octets cut.behind each, refl, subst (λ n. line n cut.octets (cut.part ++ cut.unsent)) next_at cut.next),
        cut.is_unsent,
      );
    }

-- No fault but want of memory says when memory was wanted.
pub wants_none : {R W : Type 0} (reader reader' : R) (writer writer' : W) (fault : RunFault) → IsOtherThanMemory fault → OnlyBeforeReading reader reader' writer writer' fault
wants_none reader reader' writer writer' (Stream at Truncated) other = tt
wants_none reader reader' writer writer' (Stream at RecordTooLong) other = tt
wants_none reader reader' writer writer' (Stream at ReadFault) other = tt
wants_none reader reader' writer writer' (Stream at (WriteFault count)) other = tt
wants_none reader reader' writer writer' (Stream at TooManyFrames) other = tt
wants_none reader reader' writer writer' (Stream at OutOfMemory) other = absurd other
wants_none reader reader' writer writer' (Frame at refusal) other = tt
