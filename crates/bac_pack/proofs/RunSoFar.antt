-- What a run has done when it reads again, and how it ends.
use Rattle.std.proofs.Common.{◌≡◌, ◌≢◌, ◌⊎◌, inl, inr, ℕ, ◌+◌, ◌-◌, ◌*◌, ◌≤◌, ◌<◌, List, [], ◌∷◌, ◌++◌, length, take, drop, refl, sym, ap, subst, ◌∙◌, append_assoc, append-nil, arith, Option, length-append, length-take, length-take-le, length-drop, take-append-drop, ◌==◌, Bool, true, false}
use Rattle.std.proofs.lemmas.Bool.{cases_lt}
use Rattle.std.proofs.lemmas.Bool.Decides.{nat_tests}
use Rattle.std.proofs.lemmas.List.{nil_from_length}
use Rattle.std.proofs.Math.Nat.{add-mul, mul-le-mul_right, one-mul}
use Rattle.std.specs.List.{AllByRecursion, AllZip}
use Rattle.std.specs.Io.KnownBytes.{Consumes, Appends, IsAtEnd}
use Rattle.std.proofs.KnownBytes.{Consumes-nil, Appends-nil, Consumes-trans, Appends-trans}
use Rattle.bac_record.specs.Records.{joined, record_of, IsRecord}
use Rattle.bac_record.specs.Transfers.{TakesFront}
use Rattle.bac_record.proofs.Appended.{joined-append, joined-more, AllByRecursion-append}
use Rattle.bac_pack.specs.Lines.{MOST_LINES, lines_of, ended, IsUnbroken, IsShort, IsLine}
use Rattle.bac_pack.specs.LineForms.{IsRefused}
use Rattle.bac_pack.specs.Runs.{LinesThrough, LinesStopped, IsCause, IsWritten, IsWhole, NextLine, Waits}
use Rattle.bac_pack.specs.Packing.{Adds, PacksFront, IsFound}
use Rattle.bac_pack.specs.declared.packers.Packer.{Packer}
use Rattle.bac_pack.specs.declared.faults.PackFault.{PackFault}
use Rattle.bac_pack.specs.declared.faults.PackFault.TheVariants.{LineTooLong, NotHex, RecordTooLong, ReadFault, WriteFault, TooManyLines, OutOfMemory, Unreadable, Refused}
use Rattle.bac_pack.proofs.LineLists.{ended-append, AllZip-append, AllZip-length, lines_of-ended, lines_of-last}

-- Lines at the front of what is held go to those before.
rejoined : (before lines : List (List ℕ)) (octets : List ℕ) (count : ℕ) → take count octets ≡ ended lines → ended (before ++ lines) ++ drop count octets ≡ ended before ++ octets
rejoined before lines octets count whole =
    ap (λ l. l ++ drop count octets) (ended-append before lines) ∙ append_assoc (ended before) (ended lines) (drop count octets)
    ∙ ap (λ l. ended before ++ (l ++ drop count octets)) (sym whole) ∙ ap (λ l. ended before ++ l) (take-append-drop count octets)

-- A part of the records went out.
unsent_some : (octets : List ℕ) (count : ℕ) → count < length octets → drop count octets ≢ []
unsent_some octets count short none = omega (arith, ap length none, length-drop count octets)

zero_when : (n : ℕ) → (n == 0) ≡ true → n ≡ 0
zero_when n tells = grind (arith, nat_tests)

some_when : (n : ℕ) → (n == 0) ≡ false → n ≢ 0
some_when n tells = grind (arith, nat_tests)

-- what a test for no octets tells
pub is_nothing : (octets : List ℕ) (is_empty : Bool) → is_empty ≡ (length octets == 0) → is_empty ≡ true → octets ≡ []
is_nothing octets is_empty tells none = nil_from_length octets (zero_when (length octets) (sym tells ∙ none))

pub is_something : (octets : List ℕ) (is_empty : Bool) → is_empty ≡ (length octets == 0) → is_empty ≡ false → octets ≢ []
is_something octets is_empty tells some e = some_when (length octets) (sym tells ∙ some) (ap length e)

-- Where something is held there is room for a line.
pub room_for : (count : ℕ) (held : List ℕ) → count ≤ MOST_LINES → (count ≡ MOST_LINES → held ≡ []) → held ≢ [] → count < MOST_LINES
room_for count held few most some = elim (cases_lt count MOST_LINES) [ inl less ↦ less | inr all ↦ absurd (some (most (omega arith))) ]

-- A line that its LF ends is whole, whether or not the reader is at its end.
at_any_end : (longest count : ℕ) (rest : List ℕ) (is_end : Type 0) (P : List ℕ → Type 0) → NextLine longest count rest ⊥ P → NextLine longest count rest is_end P
at_any_end longest count rest is_end P next =
    (next.0, next.1, next.2, elim next.3 as (λ _. IsWhole next.1 rest is_end) [ inl behind ↦ inl behind | inr last ↦ absurd last.2 ], next.4)

-- Records have few octets.
pub output_room : (packs : List ℕ → List ℕ → Type 0) → ((line octets : List ℕ) → packs line octets → IsRecord octets)
    → (lines records : List (List ℕ)) → AllZip packs lines records → length (joined records) ≤ length lines * 65537
output_room packs small [] [] packed = omega arith
output_room packs small [] (octets ∷ records) packed = absurd packed
output_room packs small (line ∷ lines) [] packed = absurd packed
output_room packs small (line ∷ lines) (octets ∷ records) packed =
    let behind = output_room packs small lines records packed.1 in
    omega (arith, small line octets packed.0, length-append (record_of octets) (joined records))

-- What is left to do gets smaller where there are more lines, or as many and more octets are held.
left_smaller : (most piece old new before after : ℕ) → new ≤ most → after ≤ piece → (old < new) ⊎ ((new ≡ old) × (before < after))
    → (most - new) * (piece + 1) + (piece - after) < (most - old) * (piece + 1) + (piece - before)
left_smaller most piece old new before after few room (inl lines) =
    let less : (most - new + 1) * (piece + 1) ≤ (most - old) * (piece + 1) = mul-le-mul_right (piece + 1) (omega arith) in
    sums ((most - new) * (piece + 1)) ((most - old) * (piece + 1)) (subst (λ n. n ≤ (most - old) * (piece + 1)) (add-mul (most - new) 1 (piece + 1) ∙ ap (λ n. (most - new) * (piece + 1) + n) (one-mul (piece + 1))) less)
  where
    sums : (a b : ℕ) → a + (piece + 1) ≤ b → a + (piece - after) < b + (piece - before)
    sums a b less = omega arith
left_smaller most piece old new before after few room (inr octets) =
    subst (λ n. (most - n) * (piece + 1) + (piece - after) < (most - old) * (piece + 1) + (piece - before)) (sym octets.0) (sums ((most - old) * (piece + 1)))
  where
    sums : (a : ℕ) → a + (piece - after) < a + (piece - before)
    sums a = omega (arith, octets.1)

module _ (packs : List ℕ → List ℕ → Type 0) (longest : ℕ) where
  -- The reader gave these lines and what is held, and the writer took the lines' records.
  pub record RunSoFar (left left' taken taken' : Option (List ℕ)) (held : List ℕ) (count sent : ℕ) : Type 0 where
    pub lines : List (List ℕ)
    pub records : List (List ℕ)
    pub each : AllByRecursion (IsLine longest) lines
    pub few : length lines ≤ MOST_LINES
    pub packed : AllZip packs lines records
    pub read : Consumes left left' (ended lines ++ held)
    pub wrote : Appends taken taken' (joined records)
    pub counted : count ≡ length lines
    pub went_out : length (joined records) ≡ sent

  pub begun : (left taken : Option (List ℕ)) → RunSoFar left left taken taken [] 0 0
  begun left taken = record {
    lines = [];
    records = [];
    each = tt;
    few = omega arith;
    packed = tt;
    read = Consumes-nil left;
    wrote = Appends-nil taken;
    counted = refl;
    went_out = refl;
  }

  -- More was read.
  pub reads : (left mid left' taken taken' : Option (List ℕ)) (held fresh new : List ℕ) (count sent : ℕ) → RunSoFar left mid taken taken' held count sent
      → Consumes mid left' fresh → new ≡ held ++ fresh → RunSoFar left left' taken taken' new count sent
  reads left mid left' taken taken' held fresh new count sent run more is =
      let whole : (ended run.lines ++ held) ++ fresh ≡ ended run.lines ++ new = append_assoc (ended run.lines) held fresh ∙ ap (λ l. ended run.lines ++ l) (sym is) in
      record {
        lines = run.lines;
        records = run.records;
        each = run.each;
        few = run.few;
        packed = run.packed;
        read = subst (Consumes left left') whole (Consumes-trans left mid left' (ended run.lines ++ held) fresh run.read more);
        wrote = run.wrote;
        counted = run.counted;
        went_out = run.went_out;
      }

  -- what a packer with nothing unwritten made
  output_is : (octets : List ℕ) (count : ℕ) (old new : Packer) (added : PacksFront packs longest octets count old new) → old.output.items ≡ [] → new.output.items ≡ joined added.records
  output_is octets count old new added none = added.output ∙ ap (λ l. l ++ joined added.records) none

  -- Lines were packed and their records written.
  pub goes_on : (left left' taken written taken' : Option (List ℕ)) (octets : List ℕ) (count : ℕ) (old new : Packer) → RunSoFar left left' taken written octets old.lines old.sent
      → PacksFront packs longest octets count old new → old.output.items ≡ [] → Appends written taken' new.output.items
      → RunSoFar left left' taken taken' (drop count octets) new.lines (new.sent + length new.output.items)
  goes_on left left' taken written taken' octets count old new run added none wrote =
      let output = output_is octets count old new added none in
      record {
        lines = run.lines ++ added.lines;
        records = run.records ++ added.records;
        each = AllByRecursion-append (IsLine longest) run.lines added.lines run.each added.each;
        few = simp length-append (omega (arith, run.counted, added.counted, added.few));
        packed = AllZip-append packs run.lines run.records added.lines added.records run.packed added.packed;
        read = subst (Consumes left left') (sym (rejoined run.lines added.lines octets count added.whole)) run.read;
        wrote = subst (Appends taken taken') (sym (joined-append run.records added.records))
            (Appends-trans taken written taken' (joined run.records) (joined added.records) run.wrote (subst (Appends written taken') output wrote));
        counted = simp length-append (omega (arith, run.counted, added.counted));
        went_out = omega (arith, run.went_out, added.sent, ap length output, ap length (joined-append run.records added.records), length-append (joined run.records) (joined added.records));
      }

  -- Less is left to do where something was read.
  pub smaller : (piece : ℕ) (window fresh octets : List ℕ) (count : ℕ) (old new : Packer) → PacksFront packs longest octets count old new → octets ≡ window ++ fresh
      → length fresh ≢ 0 → length octets ≤ piece
      → (MOST_LINES - new.lines) * (piece + 1) + (piece - length (drop count octets)) < (MOST_LINES - old.lines) * (piece + 1) + (piece - length window)
  smaller piece window fresh octets count old new added is some room =
      left_smaller MOST_LINES piece old.lines new.lines (length window) (length (drop count octets)) added.few (omega (arith, length-drop count octets))
      (step added.lines refl)
    where
      step : (lines : List (List ℕ)) → added.lines ≡ lines → (old.lines < new.lines) ⊎ ((new.lines ≡ old.lines) × (length window < length (drop count octets)))
      step [] none =
          let taken : length (take count octets) ≡ 0 = ap length added.whole ∙ ap (λ l. length (ended l)) none in
          let count_is : count ≡ 0 = omega (arith, taken, length-take-le count octets added.within) in
          inr (omega (arith, added.counted, ap (length {A = List ℕ}) none), omega (arith, count_is, length-drop count octets, ap length is, length-append window fresh))
      step (line ∷ lines) some = inl (omega (arith, added.counted, ap (length {A = List ℕ}) some))

  pub unbroken_lines : (lines : List (List ℕ)) → AllByRecursion (IsLine longest) lines → AllByRecursion IsUnbroken lines
  unbroken_lines [] each = tt
  unbroken_lines (line ∷ lines) each = (each.0.0, unbroken_lines lines each.1)

  pub short_lines : (lines : List (List ℕ)) → AllByRecursion (IsLine longest) lines → AllByRecursion (IsShort longest) lines
  short_lines [] each = tt
  short_lines (line ∷ lines) each = (each.0.1, short_lines lines each.1)

  -- The reader is at its end and nothing is held.
  pub ends : (left left' taken taken' : Option (List ℕ)) (held : List ℕ) (count sent : ℕ) → RunSoFar left left' taken taken' held count sent → held ≡ [] → IsAtEnd left'
      → LinesThrough packs longest left left' taken taken' count
  ends left left' taken taken' held count sent run none is_end =
      let same : lines_of (ended run.lines ++ held) ≡ run.lines =
      lines_of-ended run.lines held (unbroken_lines run.lines run.each) ∙ ap (λ l. run.lines ++ lines_of l) none ∙ append-nil run.lines in
      record {
        text = ended run.lines ++ held;
        records = run.records;
        read = run.read;
        is_end = is_end;
        short = subst (AllByRecursion (IsShort longest)) (sym same) (short_lines run.lines run.each);
        few = subst (λ (l : List (List ℕ)). length l ≤ MOST_LINES) (sym same) run.few;
        packed = subst (λ l. AllZip packs l run.records) (sym same) run.packed;
        wrote = run.wrote;
        counted = run.counted ∙ ap (λ (l : List (List ℕ)). length l) (sym same);
      }

  -- A last line that no LF ends was packed and written.
  pub ends_with : (left left' taken written taken' : Option (List ℕ)) (held : List ℕ) (old new : Packer) → RunSoFar left left' taken written held old.lines old.sent
      → IsLine longest held → held ≢ [] → old.lines < MOST_LINES → IsAtEnd left' → Adds packs held old new → old.output.items ≡ [] → Appends written taken' new.output.items
      → LinesThrough packs longest left left' taken taken' new.lines
  ends_with left left' taken written taken' held old new run line some few is_end adds none wrote =
      let same : lines_of (ended run.lines ++ held) ≡ run.lines ++ held ∷ [] =
      lines_of-ended run.lines held (unbroken_lines run.lines run.each) ∙ ap (λ (l : List (List ℕ)). run.lines ++ l) (lines_of-last held line.0 some) in
      let output : new.output.items ≡ record_of adds.octets = adds.output ∙ ap (λ l. l ++ record_of adds.octets) none in
      let records = run.records ++ adds.octets ∷ [] in
      record {
        text = ended run.lines ++ held;
        records = records;
        read = run.read;
        is_end = is_end;
        short = subst (AllByRecursion (IsShort longest)) (sym same) (AllByRecursion-append (IsShort longest) run.lines (held ∷ []) (short_lines run.lines run.each) (line.1, tt));
        few = subst (λ (l : List (List ℕ)). length l ≤ MOST_LINES) (sym same) (simp length-append (omega (arith, run.counted)));
        packed = subst (λ l. AllZip packs l records) (sym same) (AllZip-append packs run.lines run.records (held ∷ []) (adds.octets ∷ []) run.packed (adds.packed, tt));
        wrote = subst (Appends taken taken') (sym (joined-more run.records adds.octets))
            (Appends-trans taken written taken' (joined run.records) (record_of adds.octets) run.wrote (subst (Appends written taken') output wrote));
        counted = subst (λ (l : List (List ℕ)). new.lines ≡ length l) (sym same) (simp length-append (omega (arith, run.counted, adds.lines)));
      }

  -- what is held where the reader is at its end
  pub record Last (left left' taken taken' : Option (List ℕ)) (held : List ℕ) (count sent : ℕ) : Type 0 where
    pub done : RunSoFar left left' taken taken' held count sent
    pub line : IsLine longest held
    pub most : count ≡ MOST_LINES → held ≡ []
    pub few : count ≤ MOST_LINES

  -- Nothing more was read.
  pub last_held : (left mid left' taken taken' : Option (List ℕ)) (window fresh new held : List ℕ) (count sent : ℕ) → RunSoFar left mid taken taken' window count sent → Waits longest count window
      → Consumes mid left' fresh → length fresh ≡ 0 → new ≡ window ++ fresh → held ≡ new → Last left left' taken taken' held count sent
  last_held left mid left' taken taken' window fresh new held count sent run waits read none is same =
      let kept : held ≡ window = same ∙ is ∙ ap (λ l. window ++ l) (nil_from_length fresh none) ∙ append-nil window in
      record {
        done = reads left mid left' taken taken' window fresh held count sent run read (same ∙ is);
        line = subst (IsLine longest) (sym kept) waits.2;
        most = λ all. kept ∙ waits.1 all;
        few = waits.0;
      }

module _ (packs : List ℕ → List ℕ → Type 0) (refuses : List ℕ → PackFault → Type 0) (longest : ℕ) where
  -- The next line is at fault, and nothing was written of it.
  pub stops : (left left' taken taken' : Option (List ℕ)) (held : List ℕ) (count sent : ℕ) (fault : PackFault) → RunSoFar packs longest left left' taken taken' held count sent
      → IsCause refuses longest count held left' fault → ((records : List (List ℕ)) → IsWritten packs longest records held left' (joined records) fault) → LinesStopped packs refuses longest left left' taken taken' fault
  stops left left' taken taken' held count sent fault run cause written = record {
    lines = run.lines;
    records = run.records;
    rest = held;
    written = joined run.records;
    each = run.each;
    few = run.few;
    packed = run.packed;
    read = run.read;
    wrote = run.wrote;
    cause = subst (λ n. IsCause refuses longest n held left' fault) run.counted cause;
    records_out = written run.records;
  }

  -- The octets behind the lines show the fault.
  pub stops_found : (left left' taken taken' : Option (List ℕ)) (held : List ℕ) (count sent : ℕ) (fault : PackFault) → RunSoFar packs longest left left' taken taken' held count sent
      → IsFound refuses longest count held fault → LinesStopped packs refuses longest left left' taken taken' fault
  stops_found left left' taken taken' held count sent (LineTooLong number) run found =
      stops left left' taken taken' held count sent (LineTooLong number) run found (λ records. refl)
  stops_found left left' taken taken' held count sent (NotHex number) run found =
      stops left left' taken taken' held count sent (NotHex number) run (found.0, at_any_end longest count held (IsAtEnd left') (λ line. refuses line (NotHex number)) found.1) (λ records. refl)
  stops_found left left' taken taken' held count sent (RecordTooLong number) run found =
      stops left left' taken taken' held count sent (RecordTooLong number) run (found.0, at_any_end longest count held (IsAtEnd left') (λ line. refuses line (RecordTooLong number)) found.1) (λ records. refl)
  stops_found left left' taken taken' held count sent (Unreadable number column) run found =
      stops left left' taken taken' held count sent (Unreadable number column) run (found.0, at_any_end longest count held (IsAtEnd left') (λ line. refuses line (Unreadable number column)) found.1) (λ records. refl)
  stops_found left left' taken taken' held count sent (Refused number) run found =
      stops left left' taken taken' held count sent (Refused number) run (found.0, at_any_end longest count held (IsAtEnd left') (λ line. refuses line (Refused number)) found.1) (λ records. refl)
  stops_found left left' taken taken' held count sent (OutOfMemory number) run found =
      stops left left' taken taken' held count sent (OutOfMemory number) run (found.0, inr (at_any_end longest count held (IsAtEnd left') (λ line. Unit {0}) found.1)) (λ records. refl)
  stops_found left left' taken taken' held count sent TooManyLines run found = stops left left' taken taken' held count sent TooManyLines run found (λ records. refl)
  stops_found left left' taken taken' held count sent (ReadFault number) run found = absurd found
  stops_found left left' taken taken' held count sent (WriteFault written) run found = absurd found

  -- A last line that no LF ends is no record.
  pub stops_last : (left left' taken taken' : Option (List ℕ)) (held : List ℕ) (count sent : ℕ) (fault : PackFault) → RunSoFar packs longest left left' taken taken' held count sent
      → IsLine longest held → held ≢ [] → count < MOST_LINES → IsAtEnd left' → IsRefused (refuses held) (count + 1) fault → LinesStopped packs refuses longest left left' taken taken' fault
  stops_last left left' taken taken' held count sent (NotHex number) run line some few is_end none =
      stops left left' taken taken' held count sent (NotHex number) run (none.0, (few, held, line, inr (refl, some, is_end), none.1)) (λ records. refl)
  stops_last left left' taken taken' held count sent (RecordTooLong number) run line some few is_end none =
      stops left left' taken taken' held count sent (RecordTooLong number) run (none.0, (few, held, line, inr (refl, some, is_end), none.1)) (λ records. refl)
  stops_last left left' taken taken' held count sent (Unreadable number column) run line some few is_end none =
      stops left left' taken taken' held count sent (Unreadable number column) run (none.0, (few, held, line, inr (refl, some, is_end), none.1)) (λ records. refl)
  stops_last left left' taken taken' held count sent (Refused number) run line some few is_end none =
      stops left left' taken taken' held count sent (Refused number) run (none.0, (few, held, line, inr (refl, some, is_end), none.1)) (λ records. refl)
  stops_last left left' taken taken' held count sent (OutOfMemory number) run line some few is_end none =
      stops left left' taken taken' held count sent (OutOfMemory number) run (none, inr (few, held, line, inr (refl, some, is_end), tt)) (λ records. refl)
  stops_last left left' taken taken' held count sent (LineTooLong number) run line some few is_end none = absurd none
  stops_last left left' taken taken' held count sent TooManyLines run line some few is_end none = absurd none
  stops_last left left' taken taken' held count sent (ReadFault number) run line some few is_end none = absurd none
  stops_last left left' taken taken' held count sent (WriteFault written) run line some few is_end none = absurd none

  -- A part of the records of the lines at hand was written.
  pub stops_writing : (left left' taken written taken' : Option (List ℕ)) (octets : List ℕ) (count part : ℕ) (old new : Packer) → RunSoFar packs longest left left' taken written octets old.lines old.sent
      → PacksFront packs longest octets count old new → old.output.items ≡ [] → TakesFront written taken' new.output.items part → LinesStopped packs refuses longest left left' taken taken' (WriteFault (new.sent + part))
  stops_writing left left' taken written taken' octets count part old new run added none front =
      let output = output_is packs longest octets count old new added none in
      let records = joined added.records in
      let short : part < length records = subst (λ (l : List ℕ). part < length l) output front.0 in
      let wrote : Appends written taken' (take part records) = subst (λ l. Appends written taken' (take part l)) output front.1 in
      record {
        lines = run.lines ++ added.lines;
        records = run.records ++ added.records;
        rest = drop count octets;
        written = joined run.records ++ take part records;
        each = AllByRecursion-append (IsLine longest) run.lines added.lines run.each added.each;
        few = simp length-append (omega (arith, run.counted, added.counted, added.few));
        packed = AllZip-append packs run.lines run.records added.lines added.records run.packed added.packed;
        read = subst (Consumes left left') (sym (rejoined run.lines added.lines octets count added.whole)) run.read;
        wrote = Appends-trans taken written taken' (joined run.records) (take part records) run.wrote wrote;
        cause = tt;
        records_out = (
          omega (arith, run.went_out, added.sent, short, length-append (joined run.records) (take part records), length-take part records),
          drop part records,
          [],
          inl refl,
          append_assoc (joined run.records) (take part records) (drop part records) ∙ ap (λ l. joined run.records ++ l) (take-append-drop part records)
              ∙ sym (joined-append run.records added.records) ∙ sym (append-nil (joined (run.records ++ added.records))),
          unsent_some records part short,
        );
      }

  -- A part of a last line's record was written.
  pub stops_writing_last : (left left' taken written taken' : Option (List ℕ)) (held : List ℕ) (part : ℕ) (old new : Packer) → RunSoFar packs longest left left' taken written held old.lines old.sent
      → IsLine longest held → held ≢ [] → old.lines < MOST_LINES → IsAtEnd left' → Adds packs held old new → old.output.items ≡ [] → TakesFront written taken' new.output.items part
      → LinesStopped packs refuses longest left left' taken taken' (WriteFault (new.sent + part))
  stops_writing_last left left' taken written taken' held part old new run line some few is_end adds none front =
      let last = record_of adds.octets in
      let output : new.output.items ≡ last = adds.output ∙ ap (λ l. l ++ last) none in
      let short : part < length last = subst (λ (l : List ℕ). part < length l) output front.0 in
      let wrote : Appends written taken' (take part last) = subst (λ l. Appends written taken' (take part l)) output front.1 in
      let room : length run.records < MOST_LINES = omega (arith, run.counted, AllZip-length packs run.lines run.records run.packed) in
      record {
        lines = run.lines;
        records = run.records;
        rest = held;
        written = joined run.records ++ take part last;
        each = run.each;
        few = run.few;
        packed = run.packed;
        read = run.read;
        wrote = Appends-trans taken written taken' (joined run.records) (take part last) run.wrote wrote;
        cause = tt;
        records_out = (
          omega (arith, run.went_out, adds.sent, short, length-append (joined run.records) (take part last), length-take part last),
          drop part last,
          last,
          inr (room, some, line, is_end, adds.octets, adds.packed, refl),
          append_assoc (joined run.records) (take part last) (drop part last) ∙ ap (λ l. joined run.records ++ l) (take-append-drop part last),
          unsent_some last part short,
        );
      }
