-- What a run read is the front of the file.
use Rattle.std.proofs.Common.{◌≡◌, inl, inr, ℕ, ◌+◌, ◌-◌, ◌≤◌, ◌<◌, List, [], ◌∷◌, ◌++◌, length, refl, sym, ap, subst, ◌∙◌, append_assoc, append-nil, arith, length-append, Option, Some, None, Result, Ok, Err, IfOk, IfErr}
use Rattle.std.specs.Prelude.{⊤}
use Rattle.std.specs.List.{AllByRecursion}
use Rattle.std.specs.Io.KnownBytes.{Consumes, Appends, IsAtEnd}
use Rattle.bac_tag.specs.declared.refusals.Refusal.{Refusal}
use Rattle.bac_record.specs.Records.{joined, record_of, IsRecord, RecordsUpTo, Records, MOST, End, Clean, end_of}
use Rattle.bac_record.specs.Outputs.{Outputs}
use Rattle.bac_record.specs.Runs.{Sums, RanThrough, Stopped, HasEnd, NextRecord}
use Rattle.bac_record.specs.Files.{RunsOver, StopsAfter, Writes}
use Rattle.bac_record.specs.declared.summaries.Summary.{Summary}
use Rattle.bac_record.specs.declared.faults.RunFault.{RunFault}
use Rattle.bac_record.specs.declared.faults.RunFault.TheVariants.{Stream, Frame}
use Rattle.bac_record.specs.declared.faults.StreamFault.TheVariants.{Truncated, RecordTooLong, ReadFault, WriteFault, TooManyFrames, OutOfMemory}
use Rattle.bac_record.proofs.Unique.{unique}
use Rattle.bac_record.proofs.Exist.{exist}
use Rattle.bac_record.proofs.Appended.{joined-append, joined-more, AllByRecursion-append}
use Rattle.bac_record.proofs.FileEnds.{most_with_more}

-- what was read and what is left
pub split : (file given : List ℕ) (left' : Option (List ℕ)) → Consumes (Some file) left' given → (more : List ℕ) × (file ≡ given ++ more) × (IsAtEnd left' → more ≡ [])
split file given None read = absurd read
split file given (Some more) read = (more, read, λ ended. ended)

-- Records that the file begins with are the first of its list.
pub front_of_file : (most : ℕ) (list front : List (List ℕ)) (rest after file : List ℕ) → RecordsUpTo most list rest file → AllByRecursion IsRecord front → length front ≤ most
    → file ≡ joined front ++ after → (more : List (List ℕ)) × (list ≡ front ++ more)
front_of_file most list front rest after file records each few whole =
    let behind = exist (most - length front) after in
    let more = behind.0 in
    let short : length more ≤ most - length front = behind.2.few in
    let others : RecordsUpTo most (front ++ more) behind.1 file = record {
      whole = whole ∙ ap (λ l. joined front ++ l) behind.2.whole ∙ sym (append_assoc (joined front) (joined more) behind.1) ∙ ap (λ l. l ++ behind.1) (sym (joined-append front more));
      each = AllByRecursion-append IsRecord front more each behind.2.each;
      few = simp length-append (omega arith);
      partial = λ less. behind.2.partial (omega (arith, length-append front more));
    } in
    (more, (unique most list (front ++ more) rest behind.1 file records others).0)

-- the same with a record more
pub next_of_file : (list front : List (List ℕ)) (octets rest after more file : List ℕ) → Records list rest file → AllByRecursion IsRecord front → length front < MOST → IsRecord octets
    → file ≡ joined front ++ after → after ≡ record_of octets ++ more → (behind : List (List ℕ)) × (list ≡ front ++ octets ∷ behind)
next_of_file list front octets rest after more file records each few small whole is =
    let longer : file ≡ joined (front ++ octets ∷ []) ++ more =
    whole ∙ ap (λ l. joined front ++ l) is ∙ sym (append_assoc (joined front) (record_of octets) more) ∙ ap (λ l. l ++ more) (sym (joined-more front octets)) in
    let found = front_of_file MOST list (front ++ octets ∷ []) rest more file records (AllByRecursion-append IsRecord front (octets ∷ []) each (small, tt))
    (simp length-append (omega arith)) longer in
    (found.0, found.1 ∙ append_assoc front (octets ∷ []) found.0)

-- Where no record more could be added, the file's list and rest are known.
pub ends_file : (list front : List (List ℕ)) (rest after file : List ℕ) (end : End) → Records list rest file → AllByRecursion IsRecord front
    → file ≡ joined front ++ after → HasEnd (length front) after end → (list ≡ front) × (end_of (length list) rest ≡ end)
ends_file list front rest after file end records each whole has_end =
    let same = unique MOST list front rest after file records (record { whole = whole; each = each; few = has_end.0; partial = has_end.1 }) in
    (same.0, ap (λ (l : List (List ℕ)). end_of (length l) rest) same.0 ∙ ap (end_of (length front)) same.1 ∙ has_end.2)

-- the whole file, where the reader is at its end
all_read : (file : List ℕ) (front : List (List ℕ)) (after : List ℕ) (left' : Option (List ℕ)) → Consumes (Some file) left' (joined front ++ after) → IsAtEnd left' → file ≡ joined front ++ after
all_read file front after left' read ended =
    let parts = split file (joined front ++ after) left' read in
    parts.1 ∙ ap (λ l. (joined front ++ after) ++ l) (parts.2 ended) ∙ append-nil (joined front ++ after)

-- the file, where more may follow
some_read : (file : List ℕ) (front : List (List ℕ)) (after : List ℕ) (left' : Option (List ℕ)) → Consumes (Some file) left' (joined front ++ after)
    → (more : List ℕ) × (file ≡ joined front ++ (after ++ more))
some_read file front after left' read =
    let parts = split file (joined front ++ after) left' read in
    (parts.0, parts.1 ∙ append_assoc (joined front) after parts.0)

module _ (line : ℕ → List ℕ → List ℕ → Type 0) (stops : List ℕ → Refusal → Type 0) (is_canonical is_refused : List ℕ → Type 0) (left' taken taken' : Option (List ℕ))
    (list : List (List ℕ)) (rest file : List ℕ) (records : Records list rest file) where
  pub ran_over : (summary : Summary) → RanThrough line is_canonical is_refused (Some file) left' taken taken' summary → RunsOver line stops is_canonical is_refused list rest taken taken' (Ok summary)
  ran_over summary run =
      let read : Consumes (Some file) left' (joined run.list ++ []) = subst (Consumes (Some file) left') (sym (append-nil (joined run.list))) run.read in
      let found = ends_file list run.list rest [] file Clean records run.each (all_read file run.list [] left' read run.ended) (run.few, nothing, refl) in (
        found.1,
        subst (λ (l : List (List ℕ)). Sums is_canonical is_refused l summary) (sym found.0) run.sums,
        subst (λ (l : List (List ℕ)). Writes line l taken taken') (sym found.0) (run.output, run.outputs, run.wrote),
      )
    where
      nothing : length run.list < MOST → (front more : List ℕ) × IsRecord front × ([] ≡ record_of front ++ more) → ⊥
      nothing less found = let e = found.3 in cc

  stopped_short : (fault : RunFault) (at : ℕ) (run : Stopped line stops (Some file) left' taken taken' fault) → length run.list ≤ MOST → at ≡ length run.list + 1 → Outputs line 1 run.list run.written
      → StopsAfter line list taken taken' at
  stopped_short fault at run few number outputs =
      let given = some_read file run.list run.rest left' run.read in
      let found = front_of_file MOST list run.list rest (run.rest ++ given.0) file records run.each few given.1 in
      (run.list, found.0, found.1, number, (run.written, outputs, run.wrote))

  stopped_at_end : (fault : RunFault) (at : ℕ) (after : List ℕ) (end : End) (run : Stopped line stops (Some file) left' taken taken' fault) → file ≡ joined run.list ++ after → HasEnd (length run.list) after end
      → at ≡ length run.list + 1 → Outputs line 1 run.list run.written → (end_of (length list) rest ≡ end) × (at ≡ length list + 1) × Writes line list taken taken'
  stopped_at_end fault at after end run whole has_end number outputs =
      let found = ends_file list run.list rest after file end records run.each whole has_end in (
        found.1,
        number ∙ ap (λ (l : List (List ℕ)). length l + 1) (sym found.0),
        subst (λ (l : List (List ℕ)). Writes line l taken taken') (sym found.0) (run.written, outputs, run.wrote),
      )

  next_in_file : (fault : RunFault) (P : List ℕ → Type 0) (run : Stopped line stops (Some file) left' taken taken' fault) → NextRecord (length run.list) run.rest P
      → (octets : List ℕ) × (behind : List (List ℕ)) × (list ≡ run.list ++ octets ∷ behind) × P octets
  next_in_file fault P run next =
      let given = some_read file run.list run.rest left' run.read in
      let is : run.rest ++ given.0 ≡ record_of next.1 ++ (next.2 ++ given.0) = ap (λ l. l ++ given.0) next.4 ∙ append_assoc (record_of next.1) next.2 given.0 in
      let found = next_of_file list run.list next.1 rest (run.rest ++ given.0) (next.2 ++ given.0) file records run.each next.0 next.3 given.1 is in
      (next.1, found.0, found.1, next.5)

  pub stopped_over : (fault : RunFault) → Stopped line stops (Some file) left' taken taken' fault → RunsOver line stops is_canonical is_refused list rest taken taken' (Err fault)
  stopped_over (Stream at Truncated) run =
      stopped_at_end (Stream at Truncated) at run.rest _ run (all_read file run.list run.rest left' run.read run.cause.1) run.cause.0 run.number run.outputs
  stopped_over (Stream at RecordTooLong) run = absurd run.cause
  stopped_over (Stream at TooManyFrames) run =
      let given = some_read file run.list run.rest left' run.read in
      stopped_at_end (Stream at TooManyFrames) at (run.rest ++ given.0) _ run given.1 (most_with_more _ run.rest given.0 run.cause) run.number run.outputs
  stopped_over (Stream at ReadFault) run =
      let few : length run.list ≤ MOST = elim run.cause [ inl clean ↦ clean.0 | inr truncated ↦ truncated.0 ] in
      stopped_short (Stream at ReadFault) at run few run.number run.outputs
  stopped_over (Stream at OutOfMemory) run =
      elim run.cause [
        | inl nothing ↦ (inl (run.number ∙ ap (λ n. n + 1) nothing.0), stopped_short (Stream at OutOfMemory) at run (omega (arith, nothing.0)) run.number run.outputs)
        | inr next ↦ (let found = next_in_file (Stream at OutOfMemory) (λ octets. ⊤) run next in
            (inr (omega (arith, run.number, ap (length {A = List ℕ}) found.2, length-append run.list (found.0 ∷ found.1))), stopped_short (Stream at OutOfMemory) at run (omega (arith, next.0)) run.number run.outputs))
      ]
  stopped_over (Stream at (WriteFault count)) run =
      let written = run.outputs in
      let next = next_in_file (Stream at (WriteFault count)) _ run written.6 in (
        run.list,
        next.1,
        next.0,
        written.1,
        written.2,
        written.3,
        next.2,
        run.number,
        written.4,
        subst (λ n. line n next.0 (written.2 ++ written.3)) (sym run.number) next.3,
        written.7,
        subst (Appends taken taken') written.5 run.wrote,
        written.0 ∙ ap length written.5,
      )
  stopped_over (Frame at refusal) run =
      let next = next_in_file (Frame at refusal) _ run run.cause in
      (run.list, next.1, next.0, next.2, run.number, next.3, (run.written, run.outputs, run.wrote))

  pub result_over : (left : Option (List ℕ)) (result : Result Summary RunFault) → left ≡ Some file → IfOk result (RanThrough line is_canonical is_refused left left' taken taken')
      → IfErr result (Stopped line stops left left' taken taken') → RunsOver line stops is_canonical is_refused list rest taken taken' result
  result_over left (Ok summary) known through stopped =
      ran_over summary (subst (λ l. RanThrough line is_canonical is_refused l left' taken taken' summary) known through)
  result_over left (Err fault) known through stopped =
      stopped_over fault (subst (λ l. Stopped line stops l left' taken taken' fault) known stopped)
